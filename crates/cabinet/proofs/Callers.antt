-- Whoever calls chooses as some way of the game would, so that what no way of choosing can do no caller can.
use Prim.Native.Nat.{ℕ, zero, suc, ◌<◌}
use mathlib.Core.Bool.{true}
use mathlib.Core.List.Memᴰ
use mathlib.Core.List.{List, [], ◌∷◌, Memᴰ}
use mathlib.Core.Logic.{◌≢◌}
use mathlib.Core.Path.{◌≡◌, refl, sym, subst}
use native.Mathlib.Omega.{arith}
use borrow.Author.Tests.{eq-eqb}
use lib.Dec.{eqb}
use Rattle.game.specs.Game.{Arena, Play, begin, then, last, Choice, stop, act, Inside, Listed, Unmet, Way, advance, run, Obeys, WinsIn}
use Rattle.rules.specs.Job.{arena}
use Rattle.rules.specs.Bytes.{said}
use Rattle.rules.specs.Keeps.{Keeps}
use Rattle.rules.specs.Answers.{MovedFigures}
use Rattle.rules.specs.Calls.{followed}
use Rattle.rules.specs.declared.place.Place.{Place}
use Rattle.game.proofs.Search.{clash}
use Rattle.rules.proofs.Arenas.{arena_lawful}
use Rattle.game.proofs.Following.{heed, heed_open, tight}
use Rattle.cabinet.specs.Playing.{Caller, turn, turns, Stands, Met, AsListed}
use Rattle.cabinet.proofs.Starting.{followed_listed}
use Rattle.cabinet.proofs.Turns.{at, taken_to, stands_inside, inside_stands, listed_taken, refused_ends}

-- what a caller has seen after h, where the game was played on as the play says
abbrev shown : List ℕ → Play MovedFigures → Play Place → Play MovedFigures
shown b h (begin p) = h
shown b h (then k a t) = then (shown b h k) a (taken_to b (last (shown b h k)) a t)

-- an action that leads somewhere, else none
abbrev if_open : (ℕ → List Place) → Choice → Choice
if_open f stop = stop
if_open f (act a) = heed a (f a)

module _ (b : List ℕ) (c : Caller) where
  -- for n turns the outcomes are listed ones and the goal is not met
  pub record Spared (o : ℕ → ℕ) (h : Play MovedFigures) (n : ℕ) : Type 0 where
    pub listed : AsListed b c o h n
    pub unmet : (m : ℕ) → m < n → Met b (last (turns b c o h m)) → ⊥

  none_yet : (o : ℕ → ℕ) (h : Play MovedFigures) → Spared o h 0
  none_yet o h = record { listed = λ k a t l. absurd (omega arith); unmet = λ m l. absurd (omega arith) }

  -- the first outcome is listed at h
  abbrev Fits : Play MovedFigures → ℕ → Type 0
  Fits h x =
      (a t : ℕ) → c h ≡ act a → (followed b (last h).state (last h).goal a t).refusal ≡ 0
      → (followed b (last h).state (last h).goal a x).refusal ≡ 0

  one_more : {o : ℕ → ℕ} {h k : Play MovedFigures} (n : ℕ) → Fits h (o zero) → (Met b (last h) → ⊥) → turn b c h (o zero) ≡ k
      → Spared (λ i. o (suc i)) k n → Spared o h (suc n)
  one_more {o} {h} {k} n f u e r = record { listed = listed; unmet = unmet }
    where
      r' : Spared (λ i. o (suc i)) (turn b c h (o zero)) n
      r' = subst (λ (x : Play MovedFigures). Spared (λ i. o (suc i)) x n) (sym e) r

      listed : AsListed b c o h (suc n)
      listed zero a t l x d y = f a t d y
      listed (suc i) a t l x d y = r'.listed i a t (omega arith) x d y

      unmet : (m : ℕ) → m < suc n → Met b (last (turns b c o h m)) → ⊥
      unmet zero l x = u x
      unmet (suc m) l x = r'.unmet m (omega arith) x

  -- a run that is broken off
  broken : (o : ℕ → ℕ) (h : Play MovedFigures) (n : ℕ) → (last h).refusal ≢ 0 → Spared o h n
  broken o h n e =
      record {
        listed = λ i a t l x. absurd (e (subst (λ (k : Play MovedFigures). (last k).refusal ≡ 0) (refused_ends b c i o h e) x));
        unmet = λ m l x. e (subst (λ (k : Play MovedFigures). (last k).refusal ≡ 0) (refused_ends b c m o h e) x.0);
      }

-- the way of choosing of who would take what f says, where it leads somewhere
unfoldable pub open_way : (b : List ℕ) → (Play Place → Choice) → Way (arena (said b))
open_way b f =
    record {
      choose = λ k. if_open ((arena (said b)).leads (last k)) (f k);
      legal = λ k a e. go ((arena (said b)).leads (last k)) (f k) a e;
    }
  where
    go : (f : ℕ → List Place) (d : Choice) (a : ℕ) → if_open f d ≡ act a → (t : Place) × Memᴰ t (f a)
    go f stop a e = let z : ◌≡◌ {A = ℕ} 0 1 = cc in absurd (omega arith)
    go f (act x) a e = heed_open f x a e

module _ (b : List ℕ) (keeps : Keeps b) (c : Caller) (h : Play MovedFigures) where
  -- the way of choosing of a caller who has seen h
  unfoldable pub way_of : Way (arena (said b))
  way_of = open_way b (λ k. c (shown b h k))

  abbrev G : Arena
  G = arena (said b)

  -- what keeps the goal unmet in the game keeps it unmet for the caller
  spared : (n : ℕ) (k : Play Place) (o : ℕ → Place) → Stands b (last (shown b h k)) → at (last (shown b h k)) ≡ last k → Obeys G way_of o k
      → ((m : ℕ) → m < n → Unmet G (last (run G way_of o k m))) → Spared b c (λ i. (o i).state) (shown b h k) n
  unfolding way_of open_way
  spared zero k o s q y u = none_yet b c (λ i. (o i).state) (shown b h k)
  spared (suc n) k o s q y u = go (c (shown b h k)) refl (λ k. spared n k (λ i. o (suc i)))
    where
      H : Play MovedFigures
      H = shown b h k

      here : Unmet G (last k)
      here = u 0 (omega arith)

      not_met : Met b (last H) → ⊥
      not_met x = clash (subst (λ (p : Place). G.accepted p ≡ true) q x.1) here

      open1 : eqb (last H).refusal 0 ≡ true
      open1 = eq-eqb (last H).refusal 0 s.answered

      -- the rest of the game, where it goes on at l
      on_obeys : (l : Play Place) → advance G way_of k (o zero) ≡ l → Obeys G way_of (λ i. o (suc i)) l
      on_obeys l e = subst (Obeys G way_of (λ i. o (suc i))) e (λ i a. y (suc i) a)

      on_unmet : (l : Play Place) → advance G way_of k (o zero) ≡ l → (m : ℕ) → m < n
          → Unmet G (last (run G way_of (λ i. o (suc i)) l m))
      on_unmet l e m x = subst (λ (l : Play Place). Unmet G (last (run G way_of (λ i. o (suc i)) l m))) e (u (suc m) (omega arith))

      Rest : Type 0
      Rest =
          (k : Play Place) → Stands b (last (shown b h k)) → at (last (shown b h k)) ≡ last k → Obeys G way_of (λ i. o (suc i)) k
          → ((m : ℕ) → m < n → Unmet G (last (run G way_of (λ i. o (suc i)) k m))) → Spared b c (λ i. (o (suc i)).state) (shown b h k) n

      go : (d : Choice) → c H ≡ d → Rest → Spared b c (λ i. (o i).state) H (suc n)
      go stop e rec =
          let still : advance G way_of k (o zero) ≡ k = rw (here, e) in
          let here_still : turn b c H (o zero).state ≡ H = rw (open1, e) in
          one_more b c n (λ a t d x. let z : ◌≡◌ {A = ℕ} 0 1 = cc in absurd (omega arith)) not_met here_still
          (rec k s q (on_obeys k still) (on_unmet k still))
      go (act a) e rec = by (G.leads (last k) a) refl
        where
          by : (ts : List Place) → G.leads (last k) a ≡ ts → Spared b c (λ i. (o i).state) H (suc n)
          by [] z =
              let f = followed b (last H).state (last H).goal a (o zero).state in
              let moves : turn b c H (o zero).state ≡ then H a f = rw (open1, e) in
              one_more b c n (λ a' t d x. let v : a' ≡ a = cc in absurd (none t (rw v at x))) not_met moves
              (broken b c (λ i. (o (suc i)).state) (then H a f) n (none (o zero).state))
            where
              none : (x : ℕ) → (followed b (last H).state (last H).goal a x).refusal ≢ 0
              none x r =
                  let m = followed_listed b (last H).state (last H).goal a x r in
                  let m' = subst (λ (p : Place). Listed G p a (at (followed b (last H).state (last H).goal a x))) q m in
                  Memᴰ.not-nil (rw z at m')
          by (t ∷ ts) z =
              let acts : way_of.choose k ≡ act a = rw (e, z) in
              let l : Listed G (last k) a (o zero) = y zero a here acts in
              let on : advance G way_of k (o zero) ≡ then k a (o zero) = rw (here, acts) in
              let f = listed_taken b keeps s a (o zero) (subst (λ (p : Place). Listed G p a (o zero)) (sym q) l) in
              let moves : turn b c H (o zero).state ≡ then H a (taken_to b (last H) a (o zero)) = rw (open1, e, f) in
              let i = subst (λ (p : Place). Inside G p) q (stands_inside b s) in
              one_more b c n (λ a' t d x. let v : a' ≡ a = cc in rw (v, f) refl) not_met moves
              (rec (then k a (o zero)) (inside_stands b ((arena_lawful b keeps).closed (last k) (o zero) a i l)) refl
              (on_obeys (then k a (o zero)) on) (on_unmet (then k a (o zero)) on))

  -- so whoever calls, some listed outcomes need all of the number of a winning place.
  pub caller_needs : Stands b (last h) → (n : ℕ) → WinsIn G (at (last h)) n → (o : ℕ → ℕ) × Spared b c o h n
  caller_needs s n w =
      let (o, y, u) = tight G (arena_lawful b keeps) way_of (begin (at (last h))) n w in
      (λ i. (o i).state, spared n (begin (at (last h))) o s refl y u)

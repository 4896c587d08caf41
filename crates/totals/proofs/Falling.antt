-- Each entry falls in one class and in no other, and what is planned of a job tells which.
use Prim.Native.Nat.{ℕ, zero, suc, ◌+◌, ◌≤◌, ◌<◌, zero-le}
use mathlib.Core.Bool.{Bool, true, false, cond}
use mathlib.Core.List.{List}
use mathlib.Core.Logic.{◌⊎◌, inl, inr, ◌≢◌}
use mathlib.Core.Path.{◌≡◌, refl, sym, ap, subst, ◌∙◌}
use native.Mathlib.Omega.{arith}
use borrow.Author.Tests.{leb-true}
use lib.Dec.{eqb, leb}
use lib.ListN.{length, take}
use lib.Seq.{take_all}
use Rattle.game.specs.Game.{Right, lost, met, wins, hopes}
use Rattle.game.specs.declared.entry.Entry.{Entry}
use Rattle.game.proofs.Search.{least_unique}
use Rattle.game.proofs.Rounds.{win_accepted}
use Rattle.game.proofs.Values.{wins_iff, accepted_winning}
use Rattle.game.proofs.Hopes.{wins_winning}
use Rattle.game.proofs.Right.{right_exists}
use Rattle.sets.proofs.Bits.{below_or, same_or}
use Rattle.rules.specs.Job.{start, arena}
use Rattle.rules.specs.Bytes.{refusal, said}
use Rattle.rules.proofs.Arenas.{arena_lawful, start_inside}
use Rattle.rules.proofs.Kept.{kept, places_few, length_most}
use Rattle.rules.proofs.Numbers.{Among, told}
use Rattle.rules.proofs.Unique.{none_reaches}
use Rattle.totals.specs.Classes.{entry_room, Taken, RefusedBy, longer, by_number, WinsBy, HopesBy}
use Rattle.totals.specs.Classes.{refused_at, In, Falls, winning, pending, losing, refused}
use Rattle.totals.specs.Classes.{refused_line, line, started_class}
use Rattle.totals.specs.declared.class.Class.{Class}

-- ---- the lines of the refusals

-- the line of the number that line k + 3 counts
line_back : (k : ℕ) → k < 8 → refused_line (refused_at k) ≡ suc (suc (suc k))
line_back zero h = refl
line_back (suc zero) h = refl
line_back (suc (suc zero)) h = refl
line_back (suc (suc (suc zero))) h = refl
line_back (suc (suc (suc (suc zero)))) h = refl
line_back (suc (suc (suc (suc (suc zero))))) h = refl
line_back (suc (suc (suc (suc (suc (suc zero)))))) h = refl
line_back (suc (suc (suc (suc (suc (suc (suc zero))))))) h = refl
line_back (suc (suc (suc (suc (suc (suc (suc (suc k)))))))) h = absurd (omega arith)

refused_some : (k : ℕ) → refused_at k ≢ 0
refused_some zero e = omega arith
refused_some (suc zero) e = omega arith
refused_some (suc (suc zero)) e = omega arith
refused_some (suc (suc (suc zero))) e = omega arith
refused_some (suc (suc (suc (suc zero)))) e = omega arith
refused_some (suc (suc (suc (suc (suc zero))))) e = omega arith
refused_some (suc (suc (suc (suc (suc (suc zero)))))) e = omega arith
refused_some (suc (suc (suc (suc (suc (suc (suc k))))))) e = omega arith

pub line_below : (c : Class) → line c < 11
line_below (Class.Winning n) = omega arith
line_below (Class.Pending n) = omega arith
line_below Class.Losing = omega arith
line_below (Class.Refused n) = go (leb n 6) refl (eqb n 12)
  where
    go : (x : Bool) → leb n 6 ≡ x → (y : Bool) → cond x (n + 2) (cond y 9 10) < 11
    go true e y = omega (arith, leb-true n 6 e)
    go false e true = omega arith
    go false e false = omega arith

-- the line of a refusal comes after those of winning and pending
pub refused_after : (n : ℕ) → 2 ≤ refused_line n
refused_after n = go (leb n 6) (eqb n 12)
  where
    go : (x y : Bool) → 2 ≤ cond x (n + 2) (cond y 9 10)
    go true y = omega arith
    go false true = omega arith
    go false false = omega arith

-- a number that refuses a job has its line
line_of_refused : {b : List ℕ} (n : ℕ) → Among n → n ≢ 0 → RefusedBy n b → In (refused_line n) b
line_of_refused zero a d r = absurd (d refl)
line_of_refused (suc zero) a d r = r
line_of_refused (suc (suc zero)) a d r = r
line_of_refused (suc (suc (suc zero))) a d r = r
line_of_refused (suc (suc (suc (suc zero)))) a d r = r
line_of_refused (suc (suc (suc (suc (suc zero))))) a d r = r
line_of_refused (suc (suc (suc (suc (suc (suc zero)))))) a d r = r
line_of_refused {b} (suc (suc (suc (suc (suc (suc (suc n))))))) a d r = go (suc (suc (suc (suc (suc (suc (suc n))))))) a r (omega arith)
  where
    go : (m : ℕ) → Among m → RefusedBy m b → 7 ≤ m → In (refused_line m) b
    go m (inl h) q l = absurd (omega arith)
    go m (inr (inl e)) q l = subst (λ (k : ℕ). RefusedBy k b → In (refused_line k) b) (sym e) (λ z. z) q
    go m (inr (inr e)) q l = subst (λ (k : ℕ). RefusedBy k b → In (refused_line k) b) (sym e) (λ z. z) q

-- ---- an entry is in no two classes

module _ {b : List ℕ} where
  refused_among : {n : ℕ} → RefusedBy n b → Among n
  refused_among (longer l e) = inl (omega arith)
  refused_among (by_number l e) = subst Among e (told b).among

  refused_alone : {m n : ℕ} → RefusedBy m b → RefusedBy n b → m ≡ n
  refused_alone (longer l e) (longer k f) = e ∙ sym f
  refused_alone (longer l e) (by_number k f) = absurd (omega arith)
  refused_alone (by_number l e) (longer k f) = absurd (omega arith)
  refused_alone (by_number l e) (by_number k f) = sym e ∙ f

  not_taken : {n : ℕ} → RefusedBy n b → n ≢ 0 → Taken b → ⊥
  not_taken (longer l e) d t = omega (arith, t.short)
  not_taken (by_number l e) d t = d (sym e ∙ t.sound)

  pub wins_same : (m n : ℕ) → WinsBy m b → WinsBy n b → m ≡ n
  wins_same m n v w = least_unique v.number w.number

  pub hopes_same : (m n : ℕ) → HopesBy m b → HopesBy n b → m ≡ n
  hopes_same m n v w = least_unique v.number w.number

  pub falls_in : {c : Class} → Falls b c → In (line c) b
  falls_in (winning w) = w.starts
  falls_in (pending h) = h.starts
  falls_in (losing l) = l
  falls_in (refused {n} r d) = line_of_refused n (refused_among r) d r

  pub falls_alone : {c : Class} → Falls b c → (k : ℕ) → k < 11 → In k b → k ≡ line c
  falls_alone (winning w) zero h i = refl
  falls_alone (winning w) (suc zero) h i = absurd (i.hopes.0 w.starts.wins)
  falls_alone (winning w) (suc (suc zero)) h i = absurd (i.loses.0 w.starts.wins)
  falls_alone (winning w) (suc (suc (suc k))) h i = absurd (not_taken i (refused_some k) w.starts.taken)
  falls_alone (pending p) zero h i = absurd (p.starts.hopes.0 i.wins)
  falls_alone (pending p) (suc zero) h i = refl
  falls_alone (pending p) (suc (suc zero)) h i = absurd (i.loses.1 p.starts.hopes.1)
  falls_alone (pending p) (suc (suc (suc k))) h i = absurd (not_taken i (refused_some k) p.starts.taken)
  falls_alone (losing l) zero h i = absurd (l.loses.0 i.wins)
  falls_alone (losing l) (suc zero) h i = absurd (l.loses.1 i.hopes.1)
  falls_alone (losing l) (suc (suc zero)) h i = refl
  falls_alone (losing l) (suc (suc (suc k))) h i = absurd (not_taken i (refused_some k) l.taken)
  falls_alone (refused r d) zero h i = absurd (not_taken r d i.taken)
  falls_alone (refused r d) (suc zero) h i = absurd (not_taken r d i.taken)
  falls_alone (refused r d) (suc (suc zero)) h i = absurd (not_taken r d i.taken)
  falls_alone (refused r d) (suc (suc (suc k))) h i =
      sym (line_back k (omega arith)) ∙ ap refused_line (refused_alone i r)

  -- another class than winning, another than pending: there is no such number
  pub not_winning : {c : Class} → Falls b c → line c ≢ 0 → (m : ℕ) → WinsBy m b → ⊥
  not_winning f d m w = d (sym (falls_alone f 0 (omega arith) w.starts))

  pub not_pending : {c : Class} → Falls b c → line c ≢ 1 → (m : ℕ) → HopesBy m b → ⊥
  not_pending f d m h = d (sym (falls_alone f 1 (omega arith) h.starts))

  -- Two classes that one entry falls in are the same.
  pub falls_unique : {c d : Class} → Falls b c → Falls b d → c ≡ d
  falls_unique (winning {n = m} v) (winning {n = n} w) = ap Class.Winning (wins_same m n v w)
  falls_unique (winning v) (pending w) = absurd (w.starts.hopes.0 v.starts.wins)
  falls_unique (winning v) (losing w) = absurd (w.loses.0 v.starts.wins)
  falls_unique (winning v) (refused w d) = absurd (not_taken w d v.starts.taken)
  falls_unique (pending v) (winning w) = absurd (v.starts.hopes.0 w.starts.wins)
  falls_unique (pending {n = m} v) (pending {n = n} w) = ap Class.Pending (hopes_same m n v w)
  falls_unique (pending v) (losing w) = absurd (w.loses.1 v.starts.hopes.1)
  falls_unique (pending v) (refused w d) = absurd (not_taken w d v.starts.taken)
  falls_unique (losing v) (winning w) = absurd (v.loses.0 w.starts.wins)
  falls_unique (losing v) (pending w) = absurd (v.loses.1 w.starts.hopes.1)
  falls_unique (losing v) (losing w) = refl
  falls_unique (losing v) (refused w d) = absurd (not_taken w d v.taken)
  falls_unique (refused v d) (winning w) = absurd (not_taken v d w.starts.taken)
  falls_unique (refused v d) (pending w) = absurd (not_taken v d w.starts.taken)
  falls_unique (refused v d) (losing w) = absurd (not_taken v d w.taken)
  falls_unique (refused v d) (refused w e) = ap Class.Refused (refused_alone v w)

  -- ---- and in one

  pub right_falls : Taken b → {e : Entry} → Right (arena (said b)) (start (said b)) e → Falls b (started_class e)
  right_falls t (lost l) = losing (record { taken = t; loses = l })
  right_falls t (met y) =
      let G = arena (said b) in
      let L = arena_lawful b ((kept b).0 t.sound) in
      winning (record {
        starts = record { taken = t; wins = accepted_winning G L (start (said b)) y };
        number = (wins_iff G L 0 (start (said b))).1 (win_accepted G 0 (start (said b)) y, λ m z. zero-le);
      })
  right_falls t (wins {n = n} u w s) =
      let v = wins_winning (arena (said b)) (arena_lawful b ((kept b).0 t.sound)) n (start (said b)) w in
      winning (record { starts = record { taken = t; wins = v }; number = w })
  right_falls t (hopes h w s) = pending (record { starts = record { taken = t; hopes = h }; number = w })

  -- ---- how large the numbers are

  pub wins_few : (n : ℕ) → WinsBy n b → n ≤ 16383
  wins_few n w =
      let k = (kept b).0 w.starts.taken.sound in
      omega (arith, (none_reaches k (start (said b)) (start_inside b k) n).0 w.number, places_few k)

  pub hopes_few : (n : ℕ) → HopesBy n b → n ≤ 16383
  hopes_few n h =
      let k = (kept b).0 h.starts.taken.sound in
      omega (arith, (none_reaches k (start (said b)) (start_inside b k) n).1 h.number, places_few k)

-- A longer entry is refused in any case, since no job is so long: that it counts as 2 decides by which number.
pub longer_refused : (b : List ℕ) → entry_room < length b → refusal b ≢ 0
longer_refused b l z = omega (arith, length_most ((kept b).0 z))

-- Every entry falls in a class.
pub falls_exists : (b : List ℕ) → (c : Class) × Falls b c
falls_exists b = go (below_or entry_room (length b)) (same_or (refusal b) 0)
  where
    go : (entry_room < length b) ⊎ (length b ≤ entry_room) → (refusal b ≡ 0) ⊎ (refusal b ≡ 0 → ⊥) → (c : Class) × Falls b c
    go (inl l) z = (Class.Refused 2, refused (longer l refl) (λ e. omega arith))
    go (inr l) (inr d) = (Class.Refused (refusal b), refused (by_number l refl) d)
    go (inr l) (inl z) =
        let k = (kept b).0 z in
        let (e, r) = right_exists (arena (said b)) (arena_lawful b k) (start (said b)) (start_inside b k) in
        (started_class e, right_falls (record { short = l; sound = z }) r)

-- ---- what the first bytes tell

-- of a longer entry, whatever they are
pub falls_longer : (first : List ℕ) (size : ℕ) → entry_room < size → (b : List ℕ) → length b ≡ size → take entry_room b ≡ first
    → Falls b (Class.Refused 2)
falls_longer first size l b e t = refused (longer (omega arith) refl) (λ z. omega arith)

-- and of another they are the whole
pub falls_whole : {first : List ℕ} {c : Class} (size : ℕ) → size ≤ entry_room → Falls first c → (b : List ℕ) → length b ≡ size
    → take entry_room b ≡ first → Falls b c
falls_whole {c = c} size l f b e t = subst (λ (x : List ℕ). Falls x c) (sym t ∙ take_all entry_room b (omega arith)) f

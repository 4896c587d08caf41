-- Choosing against outcomes, on any kind of place: plays, ways of choosing, values, numbers, and what a plan says of a place.
-- Document 01, "Places, plays and values". Nothing here speaks of rounds or of a planner. A job's places are one such arena (Job.antt of `rules`).
use Rattle.std.specs.Prelude.{ℕ, zero, suc, ◌≤◌, ◌<◌, Bool, true, false, cond, ◌⊎◌, ◌≡◌, eqb, Option, Some, None}
use mathlib.Core.List.{List, Memᴰ}
use Rattle.game.specs.declared.entry.Entry.{Entry}

-- The places that count, how many actions there are, where an action may lead (nowhere: it is not open), and where the goal is met.
pub record Arena : Type 1 where
  pub Place : Type 0
  pub all : List Place
  pub actions : ℕ
  pub leads : Place → ℕ → List Place
  pub accepted : Place → Bool

-- the places visited, with the actions taken between them
pub data Play (P : Type 0) : Type 0 where
  begin : P → Play P
  then : Play P → ℕ → P → Play P

abbrev pub last : {P : Type 0} → Play P → P
last (begin p) = p
last (then h a p) = p

pub data Choice : Type 0 where
  stop : Choice
  act : ℕ → Choice

-- how many moves a play has made
abbrev pub made : {P : Type 0} → Play P → ℕ
made (begin p) = zero
made (then h a p) = suc (made h)

-- the least number of which Q holds
abbrev pub Least : (ℕ → Type 0) → ℕ → Type 0
Least Q n = Q n × ((m : ℕ) → Q m → n ≤ m)

-- what a plan says of a place: a value, an action and a number
abbrev pub says : ℕ → ℕ → ℕ → Entry
says v a n = record { value = v; action = a; number = n }

-- the action that an entry names, and none at 255
abbrev pub named : Entry → Option ℕ
named e = cond (eqb e.action 255) None (Some e.action)

module _ (G : Arena) where
  abbrev pub Inside : G.Place → Type 0
  Inside p = Memᴰ p G.all

  abbrev pub Listed : G.Place → ℕ → G.Place → Type 0
  Listed p a t = Memᴰ t (G.leads p a)

  abbrev pub Open : G.Place → ℕ → Type 0
  Open p a = (t : G.Place) × Listed p a t

  abbrev pub Accepted : G.Place → Type 0
  Accepted p = G.accepted p ≡ true

  abbrev pub Unmet : G.Place → Type 0
  Unmet p = G.accepted p ≡ false

  -- what every arena of ours keeps: a move stays inside, and only the actions counted are ever open
  pub record Lawful : Type 0 where
    pub closed : (p t : G.Place) (a : ℕ) → Inside p → Listed p a t → Inside t
    pub counted : (p t : G.Place) (a : ℕ) → Listed p a t → a < G.actions

  -- A way of choosing sees the whole play so far, and names an open action or stops.
  pub record Way : Type 0 where
    pub choose : Play G.Place → Choice
    pub legal : (h : Play G.Place) (a : ℕ) → choose h ≡ act a → Open (last h) a

  abbrev pub moved : Choice → Play G.Place → G.Place → Play G.Place
  moved stop h t = h
  moved (act a) h t = then h a t

  -- One move: none where the goal is met or the chooser stops.
  abbrev pub advance : Way → Play G.Place → G.Place → Play G.Place
  advance σ h t = cond (G.accepted (last h)) h (moved (σ.choose h) h t)

  -- the play after n moves from h, with the outcomes o
  abbrev pub run : Way → (ℕ → G.Place) → Play G.Place → ℕ → Play G.Place
  run σ o h zero = h
  run σ o h (suc n) = run σ (λ i. o (suc i)) (advance σ h (o zero)) n

  -- each outcome that is met on the way is a listed one
  abbrev pub Obeys : Way → (ℕ → G.Place) → Play G.Place → Type 0
  Obeys σ o h = (n a : ℕ) → Unmet (last (run σ o h n)) → σ.choose (run σ o h n) ≡ act a → Listed (last (run σ o h n)) a (o n)

  -- from h on, σ follows the entries e: along every play that comes about by it with listed outcomes, as long as the goal is not met,
  -- it takes the action that they name, and stops where they name none (255)
  abbrev pub Follows : (G.Place → Entry) → Way → Play G.Place → Type 0
  Follows e σ h =
      (o : ℕ → G.Place) → Obeys σ o h → (n : ℕ) → Unmet (last (run σ o h n))
      → let a = (e (last (run σ o h n))).action in σ.choose (run σ o h n) ≡ cond (eqb a 255) stop (act a)

  -- by σ the goal is met within n moves against every sequence of listed outcomes
  abbrev pub Forces : Way → G.Place → ℕ → Type 0
  Forces σ p n = (o : ℕ → G.Place) → Obeys σ o (begin p) → Accepted (last (run σ o (begin p) n))

  -- some way of choosing reaches an accepted place against every sequence of listed outcomes
  abbrev pub Winning : G.Place → Type 0
  Winning p = (σ : Way) × ((o : ℕ → G.Place) → Obeys σ o (begin p) → (n : ℕ) × Accepted (last (run σ o (begin p) n)))

  -- some choices and some listed outcomes bring p, after n moves, to a place of which Q holds
  abbrev pub Reaches : (G.Place → Type 0) → G.Place → ℕ → Type 0
  Reaches Q p n = (σ : Way) × (o : ℕ → G.Place) × Obeys σ o (begin p) × Q (last (run σ o (begin p) n))

  -- some choice with some outcomes reaches an accepted place
  abbrev pub Possible : G.Place → Type 0
  Possible p = (n : ℕ) × Reaches Accepted p n

  -- not winning, and some choice with some outcomes reaches one; neither
  abbrev pub Pending : G.Place → Type 0
  Pending p = (Winning p → ⊥) × Possible p

  abbrev pub Losing : G.Place → Type 0
  Losing p = (Winning p → ⊥) × (Possible p → ⊥)

  -- the number of a winning place: the least N within which some way of choosing reaches acceptance against every outcome;
  -- and of a pending one: the least count of moves by which some choices and outcomes reach a winning place
  abbrev pub WinsIn : G.Place → ℕ → Type 0
  WinsIn p = Least (λ n. (σ : Way) × Forces σ p n)

  abbrev pub HopesIn : G.Place → ℕ → Type 0
  HopesIn p = Least (Reaches Winning p)

  -- an open action all of whose outcomes are winning with numbers below n
  abbrev pub Sure : G.Place → ℕ → ℕ → Type 0
  Sure p n a = Open p a × ((t : G.Place) → Listed p a t → (m : ℕ) × WinsIn t m × (m < n))

  -- an action with an outcome that is winning, where n is 1, or pending with a number one smaller
  abbrev pub Hopeful : G.Place → ℕ → ℕ → Type 0
  Hopeful p n a =
      (t : G.Place) × Listed p a t × (((n ≡ 1) × Winning t) ⊎ ((m : ℕ) × (n ≡ suc m) × Pending t × HopesIn t m))

  -- What a plan says of p: losing 0, 255, 0; accepted 2, 255, 0; other winning places and pending ones with their lowest action and their
  -- number.
  -- `right_unique` of proofs/Right.antt shows that it can say one thing only.
  pub data Right (p : G.Place) : Entry → Type 0 where
    lost : Losing p → Right p (says 0 255 0)
    met : Accepted p → Right p (says 2 255 0)
    wins : {a n : ℕ} → Unmet p → WinsIn p n → Least (Sure p n) a → Right p (says 2 a n)
    hopes : {a n : ℕ} → Pending p → HopesIn p n → Least (Hopeful p n) a → Right p (says 1 a n)

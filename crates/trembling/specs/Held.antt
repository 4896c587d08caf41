-- What a set of words and a plan in bytes hold of the places of an arena that are numbered, and what the rounds of a phase leave of it.
use Rattle.std.specs.Prelude.{ℕ, suc, ◌/◌, ◌%◌, ◌≤◌, ◌<◌, Bool, true, cond, ◌&&◌, List, ◌≡◌, ltb, length, get_or}
use Rattle.sets.specs.Sets.{member}
use Rattle.game.specs.Game.{Arena, Inside, Right}
use Rattle.rules.specs.Job.{Job, place, places}
use Rattle.rules.specs.Plan.{entry, entry_byte}
use Rattle.game.specs.declared.entry.Entry.{Entry}
use Rattle.phases.specs.declared.phase.Phase.{Phase}
use Rattle.phases.specs.Rounds.{reached, written}
use Rattle.larger.specs.Larger.{larger}
use Rattle.larger.specs.Plans.{larger_arena, larger_number, larger_places, larger_room}
use Rattle.trembling.specs.Sets.{larger_words}
use Rattle.trembling.specs.Round.{larger_at}

-- the places of G are those numbered below n
pub record Numbered (G : Arena) (n : ℕ) (spot : ℕ → G.Place) (number : G.Place → ℕ) : Type 0 where
  pub inside : (x : ℕ) → x < n → Inside G (spot x)
  pub below : (p : G.Place) → Inside G p → number p < n
  pub back : (p : G.Place) → Inside G p → spot (number p) ≡ p

module _ (G : Arena) (n : ℕ) (spot : ℕ → G.Place) where
  -- the words hold f, and the plan e, of the places numbered below n; beyond them the plan is as `before`
  pub record Held (f : G.Place → Bool) (e : G.Place → Entry) (before ws plan : List ℕ) : Type 0 where
    pub words : length ws ≡ larger_words
    pub as_long : length plan ≡ length before
    pub members : (x : ℕ) → member ws x ≡ (ltb x n && f (spot x))
    pub bytes : (y : ℕ) → get_or plan y 0 ≡ cond (ltb (y / 4) n) (entry_byte (e (spot (y / 4))) (y % 4)) (get_or before y 0)

  -- what the rounds of a phase leave, from f and e on: the last adds nothing
  pub record Settled (v : Phase) (f : G.Place → Bool) (e : G.Place → Entry) (before ws plan : List ℕ) : Type 0 where
    pub rounds : ℕ
    pub holds : Held (reached v G f rounds) (written v G f e rounds) before ws plan
    pub last : (p : G.Place) → Inside G p → reached v G f (suc rounds) p ≡ true → reached v G f rounds p ≡ true

  -- whatever the words and the plan held before the rounds of a phase, those leave it settled
  abbrev pub Settles : Phase → (ws plan ws' plan' : List ℕ) → Type 0
  Settles v ws plan ws' plan' =
      (f : G.Place → Bool) (e : G.Place → Entry) (before : List ℕ) → Held f e before ws plan → Settled v f e before ws' plan'

-- the same of the larger places of a job with up to K slips
abbrev pub SettlesLarger : (j : Job) (K : ℕ) → Phase → (ws plan ws' plan' : List ℕ) → Type 0
SettlesLarger j K = Settles (larger_arena j K) (larger_places j K) (larger_at j.goals (places j))

-- what labelling leaves: each entry is right and the rest as before
pub record Labelled (j : Job) (K : ℕ) (before plan : List ℕ) : Type 0 where
  pub as_long : length plan ≡ length before
  pub right : (k s q : ℕ) → k ≤ K → s < j.states → q < j.goals
      → Right (larger_arena j K) (larger k (place s q)) (entry plan (larger_number j (larger k (place s q))))
  pub rest : (y : ℕ) → larger_room j K ≤ y → get_or plan y 0 ≡ get_or before y 0

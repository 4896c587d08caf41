-- A job rewritten in the tall form: document 02, request 8. It says the same job (`retold_keeps`, `retold_same` of proofs/Retelling.antt).
use Rattle.std.specs.Prelude.{ℕ, zero, suc, ◌+◌, ◌/◌, ◌%◌, ◌^◌, ◌<◌, List, [], ◌∷◌, ◌++◌, ◌≡◌, length, take, drop}
use Rattle.rules.specs.Job.{Job}
use Rattle.rules.specs.Bytes.{offset, size, counted, said}
use Rattle.rules.specs.declared.place.Counts.{Counts}
use Rattle.rules.specs.declared.place.Move.{Move}

-- the two bytes of a number before other bytes, low byte first
abbrev pub two : ℕ → List ℕ → List ℕ
two n bs = n % 256 ∷ n / 256 ∷ bs

-- the bytes d, with ys in place of as many of them from `at` on
abbrev pub patched : List ℕ → ℕ → List ℕ → List ℕ
patched d at ys = take at d ++ ys ++ drop (at + length ys) d

-- four bodies one after the other, and the contents before them
abbrev pub job_of : (counts labels moves goal : List ℕ) → List ℕ
job_of c l m g =
    two 16 (two (length c)
    (two (16 + length c) (two (length l)
    (two (16 + length c + length l) (two (length m)
    (two (16 + length c + length l + length m) (two (length g)
    (c ++ (l ++ (m ++ g))))))))))

-- Counts and a record in the tall form
abbrev pub tall_counts : Counts → List ℕ
tall_counts c = two c.states (c.actions ∷ c.propositions ∷ c.goals ∷ two c.first (c.first_goal ∷ []))

abbrev pub tall_record : Move → List ℕ
tall_record m = two m.state (m.action ∷ two m.outcome [])

-- the first n records in the tall form
abbrev pub tall_moves : (ℕ → Move) → ℕ → List ℕ
tall_moves f zero = []
tall_moves f (suc k) = tall_moves f k ++ tall_record (f k)

-- body i as it stands
abbrev pub body : List ℕ → ℕ → List ℕ
body b i = take (size b i) (drop (offset b i) b)

abbrev pub retold : List ℕ → List ℕ
retold b = job_of (tall_counts (counted b)) (body b 1) (tall_moves (said b).move (said b).records) (body b 3)

-- two jobs say the same: the same counts and starts, and within them the same labels, marks, records and automaton
pub record SameJob (i j : Job) : Type 0 where
  pub states : i.states ≡ j.states
  pub actions : i.actions ≡ j.actions
  pub propositions : i.propositions ≡ j.propositions
  pub goals : i.goals ≡ j.goals
  pub first : i.first ≡ j.first
  pub first_goal : i.first_goal ≡ j.first_goal
  pub records : i.records ≡ j.records
  pub label : (s : ℕ) → s < i.states → i.label s ≡ j.label s
  pub busy : (s : ℕ) → s < i.states → i.busy s ≡ j.busy s
  pub move : (k : ℕ) → k < i.records → i.move k ≡ j.move k
  pub next : (q l : ℕ) → q < i.goals → l < 2 ^ i.propositions → i.next q l ≡ j.next q l
  pub final : (q : ℕ) → q < i.goals → i.final q ≡ j.final q

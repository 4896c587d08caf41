-- The index: for each state, the records that lead to it, in record order.
use Rattle.std.specs.Prelude.{ℕ, zero, suc, ◌+◌, ◌≤◌, ◌<◌, cond, ◌&&◌, List, [], ◌∷◌, ◌++◌, ◌≡◌, leb, eqb, length, get_or}
use Rattle.rules.specs.Job.{Job}
use Rattle.game.proofs.Search.{lowest}

-- the first record from k on that leads to state t, or the count of records where there is none
abbrev pub next_into : Job → ℕ → ℕ → ℕ
next_into j t k = lowest (λ i. leb k i && eqb (j.move i).outcome t) j.records

-- how many words the index takes
abbrev pub index_size : Job → ℕ
index_size j = j.states + j.records

-- the records from k on are listed: for each state the first of them that leads to it, and for each of them the next that leads where it
-- does; what lies beyond the index is as before
pub record Indexing (j : Job) (k : ℕ) (before now : List ℕ) : Type 0 where
  pub as_long : length now ≡ length before
  pub firsts : (t : ℕ) → t < j.states → get_or now t 0 ≡ next_into j t k
  pub afters : (i : ℕ) → k ≤ i → i < j.records → get_or now (j.states + i) 0 ≡ next_into j (j.move i).outcome (i + 1)
  pub rest : (y : ℕ) → index_size j ≤ y → get_or now y 0 ≡ get_or before y 0

-- every record is listed
abbrev pub Indexed : Job → List ℕ → List ℕ → Type 0
Indexed j = Indexing j 0

-- record k, which leads to state t, is put before the others that do
pub record Linked (states k t : ℕ) (before after : List ℕ) : Type 0 where
  pub as_long : length after ≡ length before
  pub words : (y : ℕ) → get_or after y 0 ≡ cond (eqb y t) k (cond (eqb y (states + k)) (get_or before t 0) (get_or before y 0))

-- ---- what the index lists

-- the records below n that lead to state t, in record order
abbrev pub leading : Job → ℕ → ℕ → List ℕ
leading j t zero = []
leading j t (suc n) = leading j t n ++ cond (eqb (j.move n).outcome t) (n ∷ []) []

-- the records that are met by going from record h to the next, at most n of them
abbrev pub walk : Job → List ℕ → ℕ → ℕ → List ℕ
walk j index zero h = []
walk j index (suc n) h = cond (leb j.records h) [] (h ∷ walk j index n (get_or index (j.states + h) 0))

-- the index that a step is lent: it lists every record
pub record Lists (j : Job) (index : List ℕ) : Type 0 where
  pub long : index_size j ≤ length index
  pub indexed : Indexed j index index

-- How many members of a list have a property, the sum of their numbers, and the first that has a property: each by going through the list.
use Rattle.std.specs.Prelude.{ℕ, zero, suc, ◌+◌, List, [], ◌∷◌}

-- `HowMany P xs n`: P holds of n members of xs
pub data HowMany {A : Type 0} (P : A → Type 0) : List A → ℕ → Type 0 where
  many_none : HowMany P [] zero
  many_counted : {x : A} {xs : List A} {n : ℕ} → P x → HowMany P xs n → HowMany P (x ∷ xs) (suc n)
  many_passed : {x : A} {xs : List A} {n : ℕ} → (P x → ⊥) → HowMany P xs n → HowMany P (x ∷ xs) n

-- `Sum P xs n`: n is the sum of the numbers that members of xs have by P; some have none
pub data Sum {A : Type 0} (P : ℕ → A → Type 0) : List A → ℕ → Type 0 where
  sum_none : Sum P [] zero
  sum_added : {x : A} {xs : List A} {m n : ℕ} → P m x → Sum P xs n → Sum P (x ∷ xs) (m + n)
  sum_passed : {x : A} {xs : List A} {n : ℕ} → ((m : ℕ) → P m x → ⊥) → Sum P xs n → Sum P (x ∷ xs) n

-- `First P xs i`: member i of xs, counted from 0, is the first of which P holds
pub data First {A : Type 0} (P : A → Type 0) : List A → ℕ → Type 0 where
  first_here : {x : A} {xs : List A} → P x → First P (x ∷ xs) zero
  first_later : {x : A} {xs : List A} {i : ℕ} → (P x → ⊥) → First P xs i → First P (x ∷ xs) (suc i)

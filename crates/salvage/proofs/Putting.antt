-- What the passes that write leave in an output: the bytes put so far, one after the other, and the rest as it was.
use Prim.Native.Nat.{ℕ, zero, suc, ◌+◌, ◌-◌, ◌≤◌, ◌<◌}
use mathlib.Core.Bool.{Bool, true, false, cond}
use mathlib.Core.List.{List, [], ◌∷◌, ◌++◌, append_assoc}
use mathlib.Core.Logic.{◌⊎◌, inl, inr}
use mathlib.Core.Path.{◌≡◌, refl, sym, ◌∙◌, ap, ap₂, subst}
use native.Mathlib.Nat.{eq-or-lt_of_le, le_of_suc-le-suc}
use native.Mathlib.Numerals.{add-one}
use native.Mathlib.Omega.{arith}
use lib.ListN.{length, take, drop, set, length-append, length-drop}
use lib.Seq.{length-take-le, take_at, drop-append-add, drop-drop, sets-eq, paste-zero}
use Rattle.salvage.specs.Salvage.{gathered}
use Rattle.rules.specs.Retold.{patched}
use Rattle.salvage.specs.Passes.{Put}

-- ---- bytes put at a place

pub put_none : (d : List ℕ) (at : ℕ) → d ≡ patched d at []
put_none d at = paste-zero d at []

-- bytes put after those put before
pub put_on : (d xs ys : List ℕ) (at : ℕ) → at ≤ length d → patched (patched d at xs) (at + length xs) ys ≡ patched d at (xs ++ ys)
put_on d xs ys at h = ap₂ (λ (u v : List ℕ). u ++ ys ++ v) front back ∙ ap₂ (λ (u : List ℕ) (k : ℕ). u ++ drop k d) (append_assoc (take at d) xs ys) index
  where
    long : length (take at d ++ xs) ≡ at + length xs
    long = length-append (take at d) xs ∙ ap (λ (n : ℕ). n + length xs) (length-take-le at d h)

    front : take (at + length xs) (patched d at xs) ≡ take at d ++ xs
    front = take_at (take at d ++ xs) (drop (at + length xs) d) (at + length xs) long

    back : drop (at + length xs + length ys) (patched d at xs) ≡ drop (at + length xs + length ys) d
    back =
        subst (λ (n : ℕ). drop (n + length ys) (patched d at xs) ≡ drop (length ys) (drop (at + length xs) d)) long
        (drop-append-add (take at d ++ xs) (drop (at + length xs) d) (length ys))
        ∙ drop-drop (length ys) (at + length xs) d

    index : at + length xs + length ys ≡ at + length (xs ++ ys)
    index = let a = length-append xs ys in omega arith

-- bytes that lie inside make an output no longer
pub patched_long : (d xs : List ℕ) (at : ℕ) → at + length xs ≤ length d → length (patched d at xs) ≡ length d
patched_long d xs at h =
    let front = length-take-le at d (omega arith) in
    let begins = length-append (take at d) xs in
    let all = length-append (take at d ++ xs) (drop (at + length xs) d) in
    let rest : length (drop (at + length xs) d) ≡ length d - (at + length xs) = length-drop (at + length xs) d in
    omega (arith, front, begins, all, rest, h)

-- the same, said of outputs
pub put_more : (d e e' xs ys : List ℕ) (at : ℕ) → e ≡ patched d 0 xs → length xs ≡ at → e' ≡ patched e at ys → e' ≡ patched d 0 (xs ++ ys)
put_more d e e' xs ys at h l g =
    g ∙ ap₂ (λ (u : List ℕ) (k : ℕ). patched u k ys) h (sym l ∙ (let z : length xs ≡ 0 + length xs = omega arith in z)) ∙ put_on d xs ys 0 (omega arith)

pub put_1 : (d : List ℕ) (at x : ℕ) → at + 1 ≤ length d → set d at x ≡ patched d at (x ∷ [])
put_1 d at x h = sets-eq (x ∷ []) d at h

-- ---- what a pass has put

module _ (f : ℕ → Bool) (g : ℕ → List ℕ) where
  pub record Filled (d : List ℕ) (at k : ℕ) (e : List ℕ) (r : ℕ) : Type 0 where
    pub fills : e ≡ patched d at (gathered f g k)
    pub reaches : r ≡ at + length (gathered f g k)

  pub filled_none : (d : List ℕ) (at : ℕ) → Filled d at 0 d at
  unfolding gathered
  filled_none d at = record { fills = put_none d at; reaches = omega arith }

  gathered_suc : (k : ℕ) → gathered f g (suc k) ≡ gathered f g k ++ cond (f k) (g k) []
  unfolding gathered
  gathered_suc k = refl

  longer : (k : ℕ) → length (gathered f g (suc k)) ≡ length (gathered f g k) + length (cond (f k) (g k) [])
  longer k = ap length (gathered_suc k) ∙ length-append (gathered f g k) (cond (f k) (g k) [])

  pub filled_more : (d : List ℕ) (at k : ℕ) (e : List ℕ) (r : ℕ) (e' : List ℕ) (r' : ℕ) → at ≤ length d → Filled d at k e r
      → Put f g k e r e' r' → Filled d at (k + 1) e' r'
  filled_more d at k e r e' r' h c p = subst (λ (x : ℕ). Filled d at x e' r') (sym (add-one k)) next
    where
      next : Filled d at (suc k) e' r'
      next =
          record {
            fills =
                p.puts
                ∙ ap₂ (λ (u : List ℕ) (n : ℕ). patched u n (cond (f k) (g k) [])) c.fills c.reaches
                ∙ put_on d (gathered f g k) (cond (f k) (g k) []) at h
                ∙ ap (patched d at) (sym (gathered_suc k));
            reaches = let a = p.goes_on in let i = c.reaches in let j = longer k in omega arith;
          }

  -- what is gathered grows
  gathered_up : (m n : ℕ) → m ≤ n → length (gathered f g m) ≤ length (gathered f g n)
  gathered_up m zero h = let z : m ≡ 0 = omega arith in rw z (omega arith)
  gathered_up m (suc n) h = go (eq-or-lt_of_le h) (λ l. gathered_up m n l)
    where
      go : (m ≡ suc n) ⊎ (m < suc n) → (m ≤ n → length (gathered f g m) ≤ length (gathered f g n))
          → length (gathered f g m) ≤ length (gathered f g (suc n))
      go (inl e) r = rw e (omega arith)
      go (inr l) r = let a = longer n in let i = r (le_of_suc-le-suc l) in omega arith

  -- there is room for the bytes of number k
  pub filled_room : (d : List ℕ) (at n k : ℕ) (e : List ℕ) (r : ℕ) → at + length (gathered f g n) ≤ length d → length e ≡ length d → k < n
      → Filled d at k e r → r + length (cond (f k) (g k) []) ≤ length e
  filled_room d at n k e r h l m c =
      let a = gathered_up (suc k) n m in let i = longer k in let j = c.reaches in omega arith

  -- number k does not pass, or it does and has w bytes
  pub put_skip : (k : ℕ) (d : List ℕ) (at : ℕ) → f k ≡ false → Put f g k d at d at
  put_skip k d at e = record { puts = rw e (put_none d at); goes_on = rw e (omega arith) }

  pub put_here : (w k : ℕ) (d : List ℕ) (at : ℕ) (d' ys : List ℕ) → f k ≡ true → length (g k) ≡ w → d' ≡ patched d at ys → ys ≡ g k
      → Put f g k d at d' (at + w)
  put_here w k d at d' ys e l h i = record { puts = rw e (h ∙ ap (patched d at) i); goes_on = rw e (omega arith) }

  pub room_here : (w k at n : ℕ) → f k ≡ true → length (g k) ≡ w → at + length (cond (f k) (g k) []) ≤ n → at + w ≤ n
  room_here w k at n e l h = let z : at + length (g k) ≤ n = rw e at h in omega arith

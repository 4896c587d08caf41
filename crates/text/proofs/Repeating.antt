-- A text for each number below n, one after another: what a loop that puts them leaves.
use Prim.Native.Nat.{ℕ, zero, suc, ◌+◌, ◌*◌, ◌≤◌, ◌<◌}
use mathlib.Core.List.{List, [], ◌∷◌, ◌++◌, append_assoc, append-nil}
use mathlib.Core.Path.{◌≡◌, refl, sym, ap, subst, ◌∙◌}
use native.Mathlib.Nat.{suc-mul}
use native.Mathlib.Numerals.{add-one}
use native.Mathlib.Omega.{arith}
use lib.ListN.{length, length-append}
use Rattle.game.specs.Below.{upto, each}
use Rattle.text.specs.declared.Line.{Line}
use Rattle.text.specs.Puts.{Puts}
use Rattle.text.specs.PutText.{PutText}
use Rattle.text.proofs.Putting.{put_then, puts_then}

pub each_last : (f : ℕ → List ℕ) (is : List ℕ) (i : ℕ) → each (is ++ (i ∷ [])) f ≡ each is f ++ f i
each_last f [] i = append-nil (f i)
each_last f (k ∷ is) i = ap (λ (t : List ℕ). f k ++ t) (each_last f is i) ∙ sym (append_assoc (f k) (each is f) (f i))

-- one turn of a loop that puts a text for each number below n
pub puts_next : (f : ℕ → List ℕ) (k : ℕ) {l m n : Line} → Puts l (each (upto k) f) m → Puts m (f k) n → Puts l (each (upto (k + 1)) f) n
puts_next f k a b = rw (add-one k, each_last f (upto k) k) (puts_then a b)

-- the same over bytes and positions
pub put_next : (f : ℕ → List ℕ) (k : ℕ) {l m n : List ℕ} {at p q : ℕ} → PutText l at (each (upto k) f) m p → PutText m p (f k) n q
    → PutText l at (each (upto (k + 1)) f) n q
put_next f k a b = rw (add-one k, each_last f (upto k) k) (put_then a b)

-- texts that are the same, one by one
pub each_same : (f g : ℕ → List ℕ) (n : ℕ) → ((k : ℕ) → k < n → f k ≡ g k) → each (upto n) f ≡ each (upto n) g
each_same f g zero h = refl
each_same f g (suc n) h =
    each_last f (upto n) n
    ∙ (λ i. each_same f g n (λ k l. h k (omega arith)) i ++ h n (omega arith) i)
    ∙ sym (each_last g (upto n) n)

-- the loop's end
pub puts_upto : (f : ℕ → List ℕ) (k n : ℕ) {l m : Line} → k ≤ n → n ≤ k → Puts l (each (upto k) f) m → Puts l (each (upto n) f) m
puts_upto f k n {l} {m} a b put =
    let e : k ≡ n = omega arith in
    subst (λ (i : ℕ). Puts l (each (upto i) f) m) e put

pub put_upto : (f : ℕ → List ℕ) (k n : ℕ) {l m : List ℕ} {at p : ℕ} → k ≤ n → n ≤ k → PutText l at (each (upto k) f) m p
    → PutText l at (each (upto n) f) m p
put_upto f k n {l} {m} {at} {p} a b put =
    let e : k ≡ n = omega arith in
    subst (λ (i : ℕ). PutText l at (each (upto i) f) m p) e put

-- texts of at most k bytes come to at most n · k
pub short_each : (f : ℕ → List ℕ) (k n : ℕ) → ((i : ℕ) → i < n → length (f i) ≤ k) → length (each (upto n) f) ≤ n * k
short_each f k zero h = omega arith
short_each f k (suc n) h =
    let last : length (each (upto n ++ (n ∷ [])) f) ≡ length (each (upto n) f) + length (f n) =
    ap length (each_last f (upto n) n) ∙ length-append (each (upto n) f) (f n) in
    omega (arith, last, suc-mul n k, short_each f k n (λ i l. h i (omega arith)), h n (omega arith))

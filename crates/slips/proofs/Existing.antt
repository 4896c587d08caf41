-- Clauses have a Goal body, and what the call promises can be kept on every input.
use Prim.Native.Nat.{ℕ, zero, suc, ◌≤◌, ◌<◌}
use mathlib.Core.Bool.{Bool, true, false, cond}
use mathlib.Core.List.{List, [], ◌∷◌, ◌++◌, map, map-append}
use mathlib.Core.Logic.{◌⊎◌, inl, inr}
use mathlib.Core.Path.{◌≡◌, refl, sym, ◌∙◌, ap}
use native.Mathlib.Omega.{arith}
use borrow.Author.Tests.{lt-ltb, le-ltb, eqb-true, eqb-false}
use lib.Dec.{ltb, eqb}
use lib.ListN.{length, get_or, take, drop, length-map, get_or-append}
use lib.Seq.{take_all, get_or-append_seam}
use Rattle.sets.proofs.Bits.{below_or}
use Rattle.game.specs.Below.{upto}
use Rattle.game.proofs.Tests.{last_or_below}
use Rattle.rules.proofs.Arenas.{length_upto}
use Rattle.slips.specs.Clauses.{Clause}
use Rattle.slips.specs.Writing.{clauses, body_size, slips_refusal, Body, Writing, refused, written}
use Rattle.slips.specs.Filling.{body_byte, Filled}
use Rattle.slips.proofs.Bodies.{body_filled}

long_upto : (f : ℕ → ℕ) (n : ℕ) → length (map f (upto n)) ≡ n
long_upto f n = length-map (upto n) f ∙ length_upto n

at_upto : (f : ℕ → ℕ) (n y : ℕ) → y < n → get_or (map f (upto n)) y 0 ≡ f y
at_upto f zero y h = absurd (omega arith)
at_upto f (suc n) y h = ap (λ (l : List ℕ). get_or l y 0) (map-append f (upto n) (n ∷ [])) ∙ go (last_or_below h) (at_upto f n y)
  where
    go : (y ≡ n) ⊎ (y < n) → (y < n → get_or (map f (upto n)) y 0 ≡ f y) → get_or (map f (upto n) ++ (f n ∷ [])) y 0 ≡ f y
    go (inl e) rec =
        ap (λ (k : ℕ). get_or (map f (upto n) ++ (f n ∷ [])) k 0) (e ∙ sym (long_upto f n))
        ∙ get_or-append_seam (map f (upto n)) (f n) [] 0 ∙ ap f (sym e)
    go (inr l) rec = get_or-append (map f (upto n)) (f n ∷ []) 0 y (omega (arith, long_upto f n)) ∙ rec l

-- the bytes of the body, one after the other
abbrev pub body_of : List Clause → ℕ → List ℕ
body_of cs p = map (body_byte cs p) (upto (body_size cs p))

pub body_exists : (cs : List Clause) (p : ℕ) → Body cs p (body_of cs p)
body_exists cs p =
    let n : ℕ = body_size cs p in
    let long : length (body_of cs p) ≡ n = long_upto (body_byte cs p) n in
    let x : Body cs p (take n (body_of cs p)) = body_filled cs p (body_of cs p) (body_of cs p) (omega arith) filled in
    rw (take_all n (body_of cs p) (omega arith)) at x
  where
    filled : Filled (body_size cs p) (body_byte cs p) (body_of cs p) (body_of cs p)
    filled = record { as_long = refl; bytes = λ y. at y (below_or y (body_size cs p)) }
      where
        at : (y : ℕ) → (y < body_size cs p) ⊎ (body_size cs p ≤ y)
            → get_or (body_of cs p) y 0 ≡ cond (ltb y (body_size cs p)) (body_byte cs p y) (get_or (body_of cs p) y 0)
        at y (inl h) = rw (lt-ltb y (body_size cs p) h) (at_upto (body_byte cs p) (body_size cs p) y h)
        at y (inr h) = rw (le-ltb y (body_size cs p) h)

pub writing_exists : (s : List ℕ) (p : ℕ) (before : List ℕ) → (r n : ℕ) × (after : List ℕ) × Writing s p before r n after
writing_exists s p before = go (eqb (slips_refusal s p (length before)) 0) refl
  where
    go : (x : Bool) → eqb (slips_refusal s p (length before)) 0 ≡ x → (r n : ℕ) × (after : List ℕ) × Writing s p before r n after
    go false e = (slips_refusal s p (length before), 0, before, refused (eqb-false (slips_refusal s p (length before)) 0 e))
    go true e =
        let n = body_size (clauses s) p in (
          0,
          n,
          body_of (clauses s) p ++ drop n before,
          written (eqb-true (slips_refusal s p (length before)) 0 e) (body_exists (clauses s) p),
        )

-- The bytes of a formula: what is written stands there, and what stands there is written.
use Prim.Native.Nat.{ℕ, ◌+◌, ◌≤◌, ◌<◌}
use mathlib.Core.List.{List, [], ◌∷◌, ◌++◌, append_assoc, append-nil}
use mathlib.Core.Path.{◌≡◌, refl, sym, ◌∙◌, ap}
use native.Mathlib.Numerals.{add-one}
use native.Mathlib.Omega.{arith}
use lib.ListN.{length, get_or, drop, length-append, drop_of_length-le}
use lib.Seq.{drop-cons, drop-drop, drop_at, get_or-drop}
use Rattle.rules.specs.Formula.{Formula}
use Rattle.judging.specs.Formulas.{nodes, written, Atoms, Formed, byte_at, Stands}
use Rattle.judging.proofs.Forms.{stands_within}
use Rattle.judging.proofs.Readings.{stands_unique}

pub length_written : (f : Formula) → length (written f) ≡ nodes f
unfolding written nodes
length_written (Formula.atom p) = refl
length_written (Formula.not f) = omega (arith, length_written f)
length_written (Formula.and f g) = omega (arith, length-append (written f) (written g), length_written f, length_written g)
length_written (Formula.next f) = omega (arith, length_written f)
length_written (Formula.until f g) = omega (arith, length-append (written f) (written g), length_written f, length_written g)
length_written (Formula.weak_next f) = omega (arith, length_written f)
length_written (Formula.eventually f) = omega (arith, length_written f)
length_written (Formula.always f) = omega (arith, length_written f)

module _ (b : List ℕ) where
  -- ---- what is written stands there

  head_at : (i x : ℕ) (xs : List ℕ) → drop i b ≡ x ∷ xs → byte_at b i ≡ x
  head_at i x xs e =
      let z : i + 0 ≡ i = omega arith in
      sym (get_or-drop i b 0 255 ∙ ap (λ (k : ℕ). get_or b k 255) z) ∙ ap (λ (l : List ℕ). get_or l 0 255) e

  tail_at : (i x : ℕ) (xs : List ℕ) → drop i b ≡ x ∷ xs → drop (i + 1) b ≡ xs
  tail_at i x xs e = sym (drop-drop 1 i b) ∙ ap (drop 1) e

  past_at : (i : ℕ) (f : Formula) (xs : List ℕ) → drop i b ≡ written f ++ xs → drop (i + nodes f) b ≡ xs
  past_at i f xs e = sym (drop-drop (nodes f) i b) ∙ ap (drop (nodes f)) e ∙ drop_at (written f) xs (nodes f) (length_written f)

  pub stands_of : (f : Formula) (i : ℕ) (xs : List ℕ) → Atoms f → drop i b ≡ written f ++ xs → Stands b i f
  unfolding written Atoms Stands
  stands_of (Formula.atom p) i xs a e = (head_at i p xs e, a)
  stands_of (Formula.not f) i xs a e = (head_at i 16 (written f ++ xs) e, stands_of f (i + 1) xs a (tail_at i 16 (written f ++ xs) e))
  stands_of (Formula.and f g) i xs a e =
      let z : drop (i + 1) b ≡ written f ++ (written g ++ xs) = tail_at i 17 ((written f ++ written g) ++ xs) e ∙ append_assoc (written f)
      (written g) xs in (
        head_at i 17 ((written f ++ written g) ++ xs) e,
        stands_of f (i + 1) (written g ++ xs) a.0 z,
        stands_of g (i + 1 + nodes f) xs a.1 (past_at (i + 1) f (written g ++ xs) z),
      )
  stands_of (Formula.next f) i xs a e = (head_at i 18 (written f ++ xs) e, stands_of f (i + 1) xs a (tail_at i 18 (written f ++ xs) e))
  stands_of (Formula.until f g) i xs a e =
      let z : drop (i + 1) b ≡ written f ++ (written g ++ xs) = tail_at i 19 ((written f ++ written g) ++ xs) e ∙ append_assoc (written f)
      (written g) xs in (
        head_at i 19 ((written f ++ written g) ++ xs) e,
        stands_of f (i + 1) (written g ++ xs) a.0 z,
        stands_of g (i + 1 + nodes f) xs a.1 (past_at (i + 1) f (written g ++ xs) z),
      )
  stands_of (Formula.weak_next f) i xs a e = (head_at i 20 (written f ++ xs) e, stands_of f (i + 1) xs a (tail_at i 20 (written f ++ xs) e))
  stands_of (Formula.eventually f) i xs a e = (head_at i 21 (written f ++ xs) e, stands_of f (i + 1) xs a (tail_at i 21 (written f ++ xs) e))
  stands_of (Formula.always f) i xs a e = (head_at i 22 (written f ++ xs) e, stands_of f (i + 1) xs a (tail_at i 22 (written f ++ xs) e))

  -- ---- what stands there is written, with no atom above 5

  cons_at : (i x : ℕ) → i < length b → byte_at b i ≡ x → drop i b ≡ x ∷ drop (i + 1) b
  cons_at i x h e = drop-cons b i 255 h ∙ rw (e, add-one i)

  one_at : (i x : ℕ) (f : Formula) → i < length b → byte_at b i ≡ x → drop (i + 1) b ≡ written f ++ drop (i + 1 + nodes f) b
      → drop i b ≡ x ∷ (written f ++ drop (i + (1 + nodes f)) b)
  one_at i x f h e r =
      let z : i + 1 + nodes f ≡ i + (1 + nodes f) = omega arith in
      cons_at i x h e ∙ ap (λ (l : List ℕ). x ∷ l) (r ∙ ap (λ (k : ℕ). written f ++ drop k b) z)

  two_at : (i x : ℕ) (f g : Formula) → i < length b → byte_at b i ≡ x → drop (i + 1) b ≡ written f ++ drop (i + 1 + nodes f) b
      → drop (i + 1 + nodes f) b ≡ written g ++ drop (i + 1 + nodes f + nodes g) b
      → drop i b ≡ x ∷ ((written f ++ written g) ++ drop (i + (1 + nodes f + nodes g)) b)
  two_at i x f g h e r s =
      let z : i + 1 + nodes f + nodes g ≡ i + (1 + nodes f + nodes g) = omega arith in
      cons_at i x h e
      ∙ ap (λ (l : List ℕ). x ∷ l)
      (r ∙ ap (λ (l : List ℕ). written f ++ l) s ∙ sym (append_assoc (written f) (written g) (drop (i + 1 + nodes f + nodes g) b))
      ∙ ap (λ (k : ℕ). (written f ++ written g) ++ drop k b) z)

  pub written_of : (f : Formula) (i : ℕ) → Stands b i f → drop i b ≡ written f ++ drop (i + nodes f) b
  unfolding written Stands nodes
  written_of (Formula.atom p) i s = cons_at i p (stands_within b i (Formula.atom p) s) s.0
  written_of (Formula.not f) i s = one_at i 16 f (stands_within b i (Formula.not f) s) s.0 (written_of f (i + 1) s.1)
  written_of (Formula.and f g) i s =
      two_at i 17 f g (stands_within b i (Formula.and f g) s) s.0 (written_of f (i + 1) s.1) (written_of g (i + 1 + nodes f) s.2)
  written_of (Formula.next f) i s = one_at i 18 f (stands_within b i (Formula.next f) s) s.0 (written_of f (i + 1) s.1)
  written_of (Formula.until f g) i s =
      two_at i 19 f g (stands_within b i (Formula.until f g) s) s.0 (written_of f (i + 1) s.1) (written_of g (i + 1 + nodes f) s.2)
  written_of (Formula.weak_next f) i s = one_at i 20 f (stands_within b i (Formula.weak_next f) s) s.0 (written_of f (i + 1) s.1)
  written_of (Formula.eventually f) i s = one_at i 21 f (stands_within b i (Formula.eventually f) s) s.0 (written_of f (i + 1) s.1)
  written_of (Formula.always f) i s = one_at i 22 f (stands_within b i (Formula.always f) s) s.0 (written_of f (i + 1) s.1)

  pub atoms_of : (f : Formula) (i : ℕ) → Stands b i f → Atoms f
  unfolding Atoms Stands
  atoms_of (Formula.atom p) i s = s.1
  atoms_of (Formula.not f) i s = atoms_of f (i + 1) s.1
  atoms_of (Formula.and f g) i s = (atoms_of f (i + 1) s.1, atoms_of g (i + 1 + nodes f) s.2)
  atoms_of (Formula.next f) i s = atoms_of f (i + 1) s.1
  atoms_of (Formula.until f g) i s = (atoms_of f (i + 1) s.1, atoms_of g (i + 1 + nodes f) s.2)
  atoms_of (Formula.weak_next f) i s = atoms_of f (i + 1) s.1
  atoms_of (Formula.eventually f) i s = atoms_of f (i + 1) s.1
  atoms_of (Formula.always f) i s = atoms_of f (i + 1) s.1

  -- ---- the whole bytes

  pub formed_stands : (f : Formula) → Formed b f → Stands b 0 f × (nodes f ≡ length b)
  formed_stands f x = (
    stands_of f 0 [] x.atoms (x.bytes ∙ sym (append-nil (written f))),
    sym (length_written f) ∙ sym (ap length x.bytes),
  )

  pub stands_formed : (f : Formula) → length b ≤ 64 → Stands b 0 f → nodes f ≡ length b → Formed b f
  stands_formed f h s e =
      let z : length b ≤ 0 + nodes f = omega arith in
      record {
        bytes = written_of f 0 s ∙ ap (λ (l : List ℕ). written f ++ l) (drop_of_length-le b z) ∙ append-nil (written f);
        few = h;
        atoms = atoms_of f 0 s;
      }

  -- bytes are one formula at most
  pub formed_unique : (f g : Formula) → Formed b f → Formed b g → f ≡ g
  formed_unique f g x y = stands_unique b 0 f g (formed_stands f x).0 (formed_stands g y).0

-- Bytes that begin with a formula begin with no other: no formula's bytes begin another's, and two formulas have not the same bytes.
pub prefix_free : (f g : Formula) (xs ys : List ℕ) → Atoms f → Atoms g → written f ++ xs ≡ written g ++ ys → (f ≡ g) × (xs ≡ ys)
prefix_free f g xs ys a c e =
    let b = written f ++ xs in
    let same = stands_unique b 0 f g (stands_of b f 0 xs a refl) (stands_of b g 0 ys c e) in
    let left : written f ++ xs ≡ written f ++ ys = e ∙ ap (λ (h : Formula). written h ++ ys) (sym same) in
    (same, sym (drop_at (written f) xs (nodes f) (length_written f)) ∙ ap (drop (nodes f)) left ∙ drop_at (written f) ys (nodes f) (length_written f))

pub written_unique : (f g : Formula) → Atoms f → Atoms g → written f ≡ written g → f ≡ g
written_unique f g a c e = (prefix_free f g [] [] a c (ap (λ (l : List ℕ). l ++ []) e)).0

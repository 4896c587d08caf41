-- The root of a formula and its parts, and what stands in bytes.
use Prim.Native.Nat.{ℕ, zero, suc, ◌+◌, ◌≤◌, ◌<◌, max}
use mathlib.Core.Bool.{Bool, true, false, cond, not, ◌&&◌, false≢true}
use mathlib.Core.List.{List, [], ◌∷◌}
use mathlib.Core.Logic.{⊎_elim}
use mathlib.Core.Path.{◌≡◌, refl, sym, ◌∙◌, ap}
use native.Mathlib.Nat.{le_of_suc-le-suc}
use native.Mathlib.Omega.{arith}
use borrow.Author.Tests.{lt-ltb, ltb-true, eqb-true}
use lib.Dec.{ltb, eqb}
use lib.ListN.{length, get_or, get_or-eq_default}
use Rattle.sets.specs.Sets.{bit}
use Rattle.sets.proofs.Bits.{below_or}
use Rattle.rules.specs.Formula.{Formula}
use Rattle.rules.specs.Sat.{after, walk, sat}
use Rattle.judging.specs.Formulas.{nodes, depth, byte_at, Stands}
use Rattle.judging.specs.Nodes.{node_of}
use Rattle.judging.specs.declared.read.Node.{Node}
use Rattle.judging.specs.declared.read.Node.TheVariants.{Atom, Not, And, Next, Until, WeakNext, Eventually, Always, Malformed}

-- ---- the root and the parts; where there is no such part, the formula itself

unfoldable pub node : Formula → Node
node (Formula.atom p) = Atom
node (Formula.not f) = Not
node (Formula.and f g) = And
node (Formula.next f) = Next
node (Formula.until f g) = Until
node (Formula.weak_next f) = WeakNext
node (Formula.eventually f) = Eventually
node (Formula.always f) = Always

unfoldable pub first : Formula → Formula
first (Formula.atom p) = Formula.atom p
first (Formula.not f) = f
first (Formula.and f g) = f
first (Formula.next f) = f
first (Formula.until f g) = f
first (Formula.weak_next f) = f
first (Formula.eventually f) = f
first (Formula.always f) = f

unfoldable pub second : Formula → Formula
second (Formula.atom p) = Formula.atom p
second (Formula.not f) = f
second (Formula.and f g) = g
second (Formula.next f) = f
second (Formula.until f g) = g
second (Formula.weak_next f) = f
second (Formula.eventually f) = f
second (Formula.always f) = f

unfoldable pub proposition : Formula → ℕ
proposition (Formula.atom p) = p
proposition (Formula.not f) = 0
proposition (Formula.and f g) = 0
proposition (Formula.next f) = 0
proposition (Formula.until f g) = 0
proposition (Formula.weak_next f) = 0
proposition (Formula.eventually f) = 0
proposition (Formula.always f) = 0

-- the formula of a root and parts
unfoldable pub build : Node → ℕ → Formula → Formula → Formula
build Atom p f g = Formula.atom p
build Not p f g = Formula.not f
build And p f g = Formula.and f g
build Next p f g = Formula.next f
build Until p f g = Formula.until f g
build WeakNext p f g = Formula.weak_next f
build Eventually p f g = Formula.eventually f
build Always p f g = Formula.always f
build Malformed p f g = Formula.atom p

-- how many parts a root has
abbrev pub parts : Node → ℕ
parts Atom = 0
parts Not = 1
parts And = 2
parts Next = 1
parts Until = 2
parts WeakNext = 1
parts Eventually = 1
parts Always = 1
parts Malformed = 3

-- ---- the number of a root

abbrev pub number : Node → ℕ → ℕ
number Atom n = n
number Not n = 16
number And n = 17
number Next n = 18
number Until n = 19
number WeakNext n = 20
number Eventually n = 21
number Always n = 22
number Malformed n = n

-- a byte is the number of its root
pub number_of : (n : ℕ) → number (node_of n) n ≡ n
number_of n = low (ltb n 6)
  where
    Numbered : Node → Type 0
    Numbered k = number k n ≡ n

    pick : (m : ℕ) (k l : Node) → (n ≡ m → Numbered k) → Numbered l → Numbered (cond (eqb n m) k l)
    pick m k l h r = go (eqb n m) refl
      where
        go : (x : Bool) → eqb n m ≡ x → Numbered (cond x k l)
        go true e = h (eqb-true n m e)
        go false e = r

    chain : Numbered (cond (eqb n 16) Not (cond (eqb n 17) And (cond (eqb n 18) Next (cond (eqb n 19) Until
        (cond (eqb n 20) WeakNext (cond (eqb n 21) Eventually (cond (eqb n 22) Always Malformed)))))))
    chain = pick 16 Not _ sym (pick 17 And _ sym (pick 18 Next _ sym (pick 19 Until _ sym (pick 20 WeakNext _ sym
        (pick 21 Eventually _ sym (pick 22 Always _ sym refl))))))

    low : (x : Bool) → Numbered (cond x Atom (cond (eqb n 16) Not (cond (eqb n 17) And (cond (eqb n 18) Next (cond (eqb n 19) Until
        (cond (eqb n 20) WeakNext (cond (eqb n 21) Eventually (cond (eqb n 22) Always Malformed))))))))
    low true = refl
    low false = chain

-- an atom's byte is at most 5
abbrev is_atom : Node → Bool
is_atom Atom = true
is_atom Not = false
is_atom And = false
is_atom Next = false
is_atom Until = false
is_atom WeakNext = false
is_atom Eventually = false
is_atom Always = false
is_atom Malformed = false

pub atom_low : (n : ℕ) → node_of n ≡ Atom → n ≤ 5
atom_low n e = go (ltb n 6) refl
  where
    other : (x : Bool) (k l : Node) → is_atom k ≡ false → is_atom l ≡ false → is_atom (cond x k l) ≡ false
    other true k l h r = h
    other false k l h r = r

    none : is_atom (cond (eqb n 16) Not (cond (eqb n 17) And (cond (eqb n 18) Next (cond (eqb n 19) Until (cond (eqb n 20) WeakNext
        (cond (eqb n 21) Eventually (cond (eqb n 22) Always Malformed))))))) ≡ false
    none =
        other (eqb n 16) Not _ refl (other (eqb n 17) And _ refl (other (eqb n 18) Next _ refl (other (eqb n 19) Until _ refl
        (other (eqb n 20) WeakNext _ refl (other (eqb n 21) Eventually _ refl (other (eqb n 22) Always _ refl refl))))))

    go : (x : Bool) → ltb n 6 ≡ x → n ≤ 5
    go true z = le_of_suc-le-suc (ltb-true n 6 z)
    go false z = let w : is_atom (node_of n) ≡ true = ap is_atom e in absurd (false≢true (sym none ∙ (rw z at w)))

-- ---- what stands in bytes

-- the root of what stands there is that of the byte
pub stands_node : (b : List ℕ) (i : ℕ) (f : Formula) → Stands b i f → node_of (byte_at b i) ≡ node f
unfolding Stands node
stands_node b i (Formula.atom p) s = rw (s.0, lt-ltb p 6 (omega (arith, s.1)))
stands_node b i (Formula.not f) s = rw s.0
stands_node b i (Formula.and f g) s = rw s.0
stands_node b i (Formula.next f) s = rw s.0
stands_node b i (Formula.until f g) s = rw s.0
stands_node b i (Formula.weak_next f) s = rw s.0
stands_node b i (Formula.eventually f) s = rw s.0
stands_node b i (Formula.always f) s = rw s.0

-- no formula has a malformed root
pub known : (f : Formula) → Malformed ≡ node f → ⊥
unfolding node
known (Formula.atom p) e = let z : ◌≡◌ {A = ℕ} 0 1 = cc in omega arith
known (Formula.not f) e = let z : ◌≡◌ {A = ℕ} 0 1 = cc in omega arith
known (Formula.and f g) e = let z : ◌≡◌ {A = ℕ} 0 1 = cc in omega arith
known (Formula.next f) e = let z : ◌≡◌ {A = ℕ} 0 1 = cc in omega arith
known (Formula.until f g) e = let z : ◌≡◌ {A = ℕ} 0 1 = cc in omega arith
known (Formula.weak_next f) e = let z : ◌≡◌ {A = ℕ} 0 1 = cc in omega arith
known (Formula.eventually f) e = let z : ◌≡◌ {A = ℕ} 0 1 = cc in omega arith
known (Formula.always f) e = let z : ◌≡◌ {A = ℕ} 0 1 = cc in omega arith

-- what stands there begins inside the bytes
pub stands_within : (b : List ℕ) (i : ℕ) (f : Formula) → Stands b i f → i < length b
stands_within b i f s = ⊎_elim (λ h. h) past (below_or i (length b))
  where
    past : length b ≤ i → i < length b
    past h = absurd (known f (sym (ap node_of (get_or-eq_default b 255 h)) ∙ stands_node b i f s))

-- a byte that is inside, whatever is said for those that are not
pub byte_in : (b : List ℕ) (i : ℕ) → i < length b → byte_at b i ≡ get_or b i 0
byte_in [] i h = absurd (omega arith)
byte_in (x ∷ xs) zero h = refl
byte_in (x ∷ xs) (suc i) h = byte_in xs i (le_of_suc-le-suc h)

-- the parts stand after the root
pub stands_one : (b : List ℕ) (i : ℕ) (f : Formula) → Stands b i f → parts (node f) ≡ 1 → Stands b (i + 1) (first f) × (nodes f ≡ 1 + nodes (first f))
unfolding Stands node first nodes
stands_one b i (Formula.atom p) s e = absurd (omega arith)
stands_one b i (Formula.not f) s e = (s.1, refl)
stands_one b i (Formula.and f g) s e = absurd (omega arith)
stands_one b i (Formula.next f) s e = (s.1, refl)
stands_one b i (Formula.until f g) s e = absurd (omega arith)
stands_one b i (Formula.weak_next f) s e = (s.1, refl)
stands_one b i (Formula.eventually f) s e = (s.1, refl)
stands_one b i (Formula.always f) s e = (s.1, refl)

pub stands_two : (b : List ℕ) (i : ℕ) (f : Formula) → Stands b i f → parts (node f) ≡ 2
    → Stands b (i + 1) (first f) × Stands b (i + 1 + nodes (first f)) (second f) × (nodes f ≡ 1 + nodes (first f) + nodes (second f))
unfolding Stands node first second nodes
stands_two b i (Formula.atom p) s e = absurd (omega arith)
stands_two b i (Formula.not f) s e = absurd (omega arith)
stands_two b i (Formula.and f g) s e = (s.1, s.2, refl)
stands_two b i (Formula.next f) s e = absurd (omega arith)
stands_two b i (Formula.until f g) s e = (s.1, s.2, refl)
stands_two b i (Formula.weak_next f) s e = absurd (omega arith)
stands_two b i (Formula.eventually f) s e = absurd (omega arith)
stands_two b i (Formula.always f) s e = absurd (omega arith)

pub stands_atom : (b : List ℕ) (i : ℕ) (f : Formula) → Stands b i f → parts (node f) ≡ 0 → (byte_at b i ≡ proposition f) × (nodes f ≡ 1)
unfolding Stands node proposition nodes
stands_atom b i (Formula.atom p) s e = (s.0, refl)
stands_atom b i (Formula.not f) s e = absurd (omega arith)
stands_atom b i (Formula.and f g) s e = absurd (omega arith)
stands_atom b i (Formula.next f) s e = absurd (omega arith)
stands_atom b i (Formula.until f g) s e = absurd (omega arith)
stands_atom b i (Formula.weak_next f) s e = absurd (omega arith)
stands_atom b i (Formula.eventually f) s e = absurd (omega arith)
stands_atom b i (Formula.always f) s e = absurd (omega arith)

-- ---- a formula by its root

abbrev pub sat_by : Node → ℕ → (List ℕ → Bool) → (List ℕ → Bool) → List ℕ → Bool
sat_by Atom p a b t = bit (get_or t 0 0) p
sat_by Not p a b t = not (a t)
sat_by And p a b t = a t && b t
sat_by Next p a b t = after a t
sat_by Until p a b t = walk a b t
sat_by WeakNext p a b t = not (after (λ s. not (a s)) t)
sat_by Eventually p a b t = walk (λ s. true) a t
sat_by Always p a b t = not (walk (λ s. true) (λ s. not (a s)) t)
sat_by Malformed p a b t = false

pub sat_root : (f : Formula) (t : List ℕ) → sat f t ≡ sat_by (node f) (proposition f) (sat (first f)) (sat (second f)) t
unfolding sat node proposition first second
sat_root (Formula.atom p) t = refl
sat_root (Formula.not f) t = refl
sat_root (Formula.and f g) t = refl
sat_root (Formula.next f) t = refl
sat_root (Formula.until f g) t = refl
sat_root (Formula.weak_next f) t = refl
sat_root (Formula.eventually f) t = refl
sat_root (Formula.always f) t = refl

abbrev pub depth_by : Node → ℕ → ℕ → ℕ
depth_by Atom m n = 0
depth_by Not m n = m
depth_by And m n = max m n
depth_by Next m n = m
depth_by Until m n = max m n + 1
depth_by WeakNext m n = m
depth_by Eventually m n = m + 1
depth_by Always m n = m + 1
depth_by Malformed m n = 0

-- fewer operators on a path than nodes
pub depth_below : (f : Formula) → depth f < nodes f
unfolding depth nodes
depth_below (Formula.atom p) = omega arith
depth_below (Formula.not f) = omega (arith, depth_below f)
depth_below (Formula.and f g) = omega (arith, depth_below f, depth_below g)
depth_below (Formula.next f) = omega (arith, depth_below f)
depth_below (Formula.until f g) = omega (arith, depth_below f, depth_below g)
depth_below (Formula.weak_next f) = omega (arith, depth_below f)
depth_below (Formula.eventually f) = omega (arith, depth_below f)
depth_below (Formula.always f) = omega (arith, depth_below f)

-- a formula that stands ends inside the bytes
pub stands_end : (b : List ℕ) (i : ℕ) (f : Formula) → Stands b i f → i + nodes f ≤ length b
unfolding Stands nodes
stands_end b i (Formula.atom p) s = omega (arith, stands_within b i (Formula.atom p) s)
stands_end b i (Formula.not f) s = omega (arith, stands_end b (i + 1) f s.1)
stands_end b i (Formula.and f g) s = omega (arith, stands_end b (i + 1 + nodes f) g s.2)
stands_end b i (Formula.next f) s = omega (arith, stands_end b (i + 1) f s.1)
stands_end b i (Formula.until f g) s = omega (arith, stands_end b (i + 1 + nodes f) g s.2)
stands_end b i (Formula.weak_next f) s = omega (arith, stands_end b (i + 1) f s.1)
stands_end b i (Formula.eventually f) s = omega (arith, stands_end b (i + 1) f s.1)
stands_end b i (Formula.always f) s = omega (arith, stands_end b (i + 1) f s.1)

-- the root of the byte i
pub record Root (b : List ℕ) (i : ℕ) (k : Node) : Type 0 where
  pub is : node_of (byte_at b i) ≡ k

-- the root that is told of a byte read
pub root_told : (b : List ℕ) (i : ℕ) → i < length b → (r k : Node) → r ≡ node_of (get_or b i 0) → r ≡ k → Root b i k
root_told b i h r k e f = record { is = ap node_of (byte_in b i h) ∙ sym e ∙ f }

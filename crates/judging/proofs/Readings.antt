-- One formula stands at a byte at most; and what reading it answers, from what reading its parts answers.
use Prim.Native.Nat.{ℕ, zero, suc, ◌+◌, ◌≤◌, ◌<◌}
use mathlib.Core.List.{List}
use mathlib.Core.Path.{◌≡◌, refl, sym, ◌∙◌, ap}
use native.Mathlib.Omega.{arith}
use borrow.Author.Tests.{lt-ltb}
use lib.ListN.{length}
use Rattle.rules.specs.Formula.{Formula}
use Rattle.judging.specs.Formulas.{nodes, depth, byte_at, Stands}
use Rattle.judging.specs.Nodes.{node_of}
use Rattle.judging.specs.Reading.{ReadOf, good, bad, Shallow, raised, at_least}
use Rattle.judging.specs.declared.read.Node.{Node}
use Rattle.judging.specs.declared.read.Node.TheVariants.{Atom, Not, And, Next, Until, WeakNext, Eventually, Always, Malformed}
use Rattle.judging.specs.declared.read.Read.{Read}
use Rattle.std.specs.Prelude.{Option, Some, None}
use Rattle.judging.proofs.Forms.{node, first, second, build, parts, number, number_of, atom_low, stands_node, known, stands_within, stands_one}
use Rattle.judging.proofs.Forms.{stands_two, stands_end, depth_by, depth_below, Root}

-- ---- what stands at a byte can be read in one way only

-- the formula that is read from byte i on, for at most n nodes
unfoldable pub parse : ℕ → List ℕ → ℕ → Formula
parse zero b i = Formula.atom 0
parse (suc n) b i =
    build (node_of (byte_at b i)) (byte_at b i) (parse n b (i + 1)) (parse n b (i + 1 + nodes (parse n b (i + 1))))

pub parse_is : (n : ℕ) (b : List ℕ) (i : ℕ) (f : Formula) → nodes f ≤ n → Stands b i f → parse n b i ≡ f
unfolding parse build Stands nodes
parse_is zero b i f h s = absurd (omega (arith, depth_below f))
parse_is (suc n) b i (Formula.atom p) h s = rw (s.0, lt-ltb p 6 (omega (arith, s.1)))
parse_is (suc n) b i (Formula.not f) h s = rw s.0 (ap Formula.not (parse_is n b (i + 1) f (omega arith) s.1))
parse_is (suc n) b i (Formula.and f g) h s =
    rw (s.0, parse_is n b (i + 1) f (omega arith) s.1, parse_is n b (i + 1 + nodes f) g (omega arith) s.2)
parse_is (suc n) b i (Formula.next f) h s = rw s.0 (ap Formula.next (parse_is n b (i + 1) f (omega arith) s.1))
parse_is (suc n) b i (Formula.until f g) h s =
    rw (s.0, parse_is n b (i + 1) f (omega arith) s.1, parse_is n b (i + 1 + nodes f) g (omega arith) s.2)
parse_is (suc n) b i (Formula.weak_next f) h s = rw s.0 (ap Formula.weak_next (parse_is n b (i + 1) f (omega arith) s.1))
parse_is (suc n) b i (Formula.eventually f) h s = rw s.0 (ap Formula.eventually (parse_is n b (i + 1) f (omega arith) s.1))
parse_is (suc n) b i (Formula.always f) h s = rw s.0 (ap Formula.always (parse_is n b (i + 1) f (omega arith) s.1))

pub stands_unique : (b : List ℕ) (i : ℕ) (f g : Formula) → Stands b i f → Stands b i g → f ≡ g
stands_unique b i f g s r =
    sym (parse_is (nodes f + nodes g) b i f (omega arith) s) ∙ parse_is (nodes f + nodes g) b i g (omega arith) r

-- ---- what reading answers

module _ (b : List ℕ) (i : ℕ) where
  -- the byte of a root
  byte_is : (k : Node) → Root b i k → byte_at b i ≡ number k (byte_at b i)
  byte_is k e = sym (number_of (byte_at b i)) ∙ ap (λ (x : Node). number x (byte_at b i)) e.is

  root_is : (f : Formula) (k : Node) → Stands b i f → Root b i k → node f ≡ k
  root_is f k s e = sym (stands_node b i f s) ∙ e.is

  pub read_past : length b ≤ i → ReadOf b i None
  read_past h = bad λ f s. omega (arith, stands_within b i f s)

  pub read_malformed : Root b i Malformed → ReadOf b i None
  read_malformed e = bad λ f s. known f (sym e.is ∙ stands_node b i f s)

  pub read_atom : Root b i Atom → ReadOf b i (Some (record { end = i + 1; depth = 0 }))
  unfolding Stands nodes depth
  read_atom e = good (Formula.atom (byte_at b i)) (refl, atom_low (byte_at b i) e.is) refl refl

  -- ---- one part

  build_one : (k : Node) → parts k ≡ 1 → Root b i k → (f : Formula) → Stands b (i + 1) f
      → (g : Formula) × Stands b i g × (nodes g ≡ 1 + nodes f) × (depth g ≡ depth_by k (depth f) (depth f))
  unfolding Stands nodes depth
  build_one Atom h e f s = absurd (omega arith)
  build_one Not h e f s = (Formula.not f, (byte_is Not e, s), refl, refl)
  build_one And h e f s = absurd (omega arith)
  build_one Next h e f s = (Formula.next f, (byte_is Next e, s), refl, refl)
  build_one Until h e f s = absurd (omega arith)
  build_one WeakNext h e f s = (Formula.weak_next f, (byte_is WeakNext e, s), refl, refl)
  build_one Eventually h e f s = (Formula.eventually f, (byte_is Eventually e, s), refl, refl)
  build_one Always h e f s = (Formula.always f, (byte_is Always e, s), refl, refl)
  build_one Malformed h e f s = absurd (omega arith)

  read_one_good : (k : Node) → parts k ≡ 1 → Root b i k → (r : Read) → ReadOf b (i + 1) (Some r)
      → ReadOf b i (Some (record { end = r.end; depth = depth_by k r.depth r.depth }))
  read_one_good k h x r (good f s p q) =
      let (g, z, n, m) = build_one k h x f s in
      good {r = record { end = r.end; depth = depth_by k r.depth r.depth }} g z (omega (arith, p, n)) (rw q (sym m))

  pub read_one_bad : (k : Node) → parts k ≡ 1 → Root b i k → ReadOf b (i + 1) None → ReadOf b i None
  read_one_bad k h x (bad r) = bad λ f s. r (first f) (stands_one b i f s (ap parts (root_is f k s x) ∙ h)).0

  -- a root that adds nothing to the depth, and one that adds one
  pub read_same : (k : Node) → parts k ≡ 1 → ((d : ℕ) → depth_by k d d ≡ d) → Root b i k → (r : Option Read) → ReadOf b (i + 1) r
      → ReadOf b i r
  read_same k h z x (Some r) y = rw (z r.depth) at (read_one_good k h x r y)
  read_same k h z x None y = read_one_bad k h x y

  pub read_deeper : (k : Node) → parts k ≡ 1 → ((d : ℕ) → depth_by k d d ≡ d + 1) → Root b i k → (r : Read)
      → ReadOf b (i + 1) (Some r) → ReadOf b i (Some (raised r))
  read_deeper k h z x r y = rw (z r.depth) at (read_one_good k h x r y)

  -- ---- two parts

  build_two : (k : Node) → parts k ≡ 2 → Root b i k → (f g : Formula) → Stands b (i + 1) f → Stands b (i + 1 + nodes f) g
      → (a : Formula) × Stands b i a × (nodes a ≡ 1 + nodes f + nodes g) × (depth a ≡ depth_by k (depth f) (depth g))
  unfolding Stands nodes depth
  build_two Atom h e f g s r = absurd (omega arith)
  build_two Not h e f g s r = absurd (omega arith)
  build_two And h e f g s r = (Formula.and f g, (byte_is And e, s, r), refl, refl)
  build_two Next h e f g s r = absurd (omega arith)
  build_two Until h e f g s r = (Formula.until f g, (byte_is Until e, s, r), refl, refl)
  build_two WeakNext h e f g s r = absurd (omega arith)
  build_two Eventually h e f g s r = absurd (omega arith)
  build_two Always h e f g s r = absurd (omega arith)
  build_two Malformed h e f g s r = absurd (omega arith)

  read_two_good : (k : Node) → parts k ≡ 2 → Root b i k → (r w : Read) → ReadOf b (i + 1) (Some r) → ReadOf b r.end (Some w)
      → ReadOf b i (Some (record { end = w.end; depth = depth_by k r.depth w.depth }))
  read_two_good k h x r w (good f s p q) (good g z u v) =
      let (y, j, n, m) = build_two k h x f g s (rw p at z) in
      good {r = record { end = w.end; depth = depth_by k r.depth w.depth }} y j (omega (arith, p, u, n)) (rw (q, v) (sym m))

  -- the second part is none
  pub read_second_bad : (k : Node) → parts k ≡ 2 → Root b i k → (r : Read) → ReadOf b (i + 1) (Some r) → ReadOf b r.end None → ReadOf b i None
  read_second_bad k h x r (good f s p q) (bad n) = bad λ a z.
      let (u, v, m) = stands_two b i a z (ap parts (root_is a k z x) ∙ h) in
      n (second a) (rw (p, stands_unique b (i + 1) f (first a) s u) v)

  pub read_first_bad : (k : Node) → parts k ≡ 2 → Root b i k → ReadOf b (i + 1) None → ReadOf b i None
  read_first_bad k h x (bad r) = bad λ f s. r (first f) (stands_two b i f s (ap parts (root_is f k s x) ∙ h)).0

  pub read_and : Root b i And → (r w : Read) → ReadOf b (i + 1) (Some r) → ReadOf b r.end (Some w) → ReadOf b i (Some (at_least r.depth w))
  read_and x r w s z = read_two_good And refl x r w s z

  pub read_until : Root b i Until → (r w : Read) → ReadOf b (i + 1) (Some r) → ReadOf b r.end (Some w)
      → ReadOf b i (Some (raised (at_least r.depth w)))
  read_until x r w s z = read_two_good Until refl x r w s z

-- what was read goes on past its start and ends inside; its depth is below its end
pub read_goes : (b : List ℕ) (i : ℕ) (r : Read) → ReadOf b i (Some r) → (i < r.end) × (r.end ≤ length b) × (i + r.depth < r.end)
read_goes b i r (good f s p q) = (omega (arith, depth_below f, p), omega (arith, stands_end b i f s, p), omega (arith, depth_below f, p, q))

pub read_shallow : (b : List ℕ) (i : ℕ) (r : Read) → ReadOf b i (Some r) → Shallow r
read_shallow b i r x = omega (arith, (read_goes b i r x).2)

-- the deeper of two parts is below the end too
pub joined_shallow : (b : List ℕ) (i : ℕ) (r w : Read) → ReadOf b i (Some r) → ReadOf b r.end (Some w) → Shallow (at_least r.depth w)
joined_shallow b i r w s x = omega (arith, (read_goes b i r s).2, (read_goes b r.end w x).0, (read_goes b r.end w x).2)

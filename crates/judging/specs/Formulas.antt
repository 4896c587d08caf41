-- A formula in bytes, one a node, the operator before its parts.
use Rattle.std.specs.Prelude.{ℕ, ◌+◌, ◌≤◌, max, List, [], ◌∷◌, ◌++◌, ◌≡◌, length, get_or}
use Rattle.rules.specs.Formula.{Formula}

-- how many nodes a formula has
unfoldable pub nodes : Formula → ℕ
nodes (Formula.atom p) = 1
nodes (Formula.not f) = 1 + nodes f
nodes (Formula.and f g) = 1 + nodes f + nodes g
nodes (Formula.next f) = 1 + nodes f
nodes (Formula.until f g) = 1 + nodes f + nodes g
nodes (Formula.weak_next f) = 1 + nodes f
nodes (Formula.eventually f) = 1 + nodes f
nodes (Formula.always f) = 1 + nodes f

-- the most operators among until, eventually and always on one path
unfoldable pub depth : Formula → ℕ
depth (Formula.atom p) = 0
depth (Formula.not f) = depth f
depth (Formula.and f g) = max (depth f) (depth g)
depth (Formula.next f) = depth f
depth (Formula.until f g) = max (depth f) (depth g) + 1
depth (Formula.weak_next f) = depth f
depth (Formula.eventually f) = depth f + 1
depth (Formula.always f) = depth f + 1

-- the bytes of a formula
unfoldable pub written : Formula → List ℕ
written (Formula.atom p) = p ∷ []
written (Formula.not f) = 16 ∷ written f
written (Formula.and f g) = 17 ∷ (written f ++ written g)
written (Formula.next f) = 18 ∷ written f
written (Formula.until f g) = 19 ∷ (written f ++ written g)
written (Formula.weak_next f) = 20 ∷ written f
written (Formula.eventually f) = 21 ∷ written f
written (Formula.always f) = 22 ∷ written f

-- an atom is one of the propositions 0 to 5
unfoldable pub Atoms : Formula → Type 0
Atoms (Formula.atom p) = p ≤ 5
Atoms (Formula.not f) = Atoms f
Atoms (Formula.and f g) = Atoms f × Atoms g
Atoms (Formula.next f) = Atoms f
Atoms (Formula.until f g) = Atoms f × Atoms g
Atoms (Formula.weak_next f) = Atoms f
Atoms (Formula.eventually f) = Atoms f
Atoms (Formula.always f) = Atoms f

-- the bytes b are the formula f: at most 64, none left over, no atom above 5
pub record Formed (b : List ℕ) (f : Formula) : Type 0 where
  pub bytes : b ≡ written f
  pub few : length b ≤ 64
  pub atoms : Atoms f

-- the byte at a place, and past the end one that no formula has
abbrev pub byte_at : List ℕ → ℕ → ℕ
byte_at b i = get_or b i 255

-- the formula f stands in b from byte i on: its operator first, and then its parts, one after the other
unfoldable pub Stands : List ℕ → ℕ → Formula → Type 0
Stands b i (Formula.atom p) = (byte_at b i ≡ p) × (p ≤ 5)
Stands b i (Formula.not f) = (byte_at b i ≡ 16) × Stands b (i + 1) f
Stands b i (Formula.and f g) = (byte_at b i ≡ 17) × Stands b (i + 1) f × Stands b (i + 1 + nodes f) g
Stands b i (Formula.next f) = (byte_at b i ≡ 18) × Stands b (i + 1) f
Stands b i (Formula.until f g) = (byte_at b i ≡ 19) × Stands b (i + 1) f × Stands b (i + 1 + nodes f) g
Stands b i (Formula.weak_next f) = (byte_at b i ≡ 20) × Stands b (i + 1) f
Stands b i (Formula.eventually f) = (byte_at b i ≡ 21) × Stands b (i + 1) f
Stands b i (Formula.always f) = (byte_at b i ≡ 22) × Stands b (i + 1) f

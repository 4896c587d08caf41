-- A store among words, and a set with one place more.
use Prim.Native.Nat.{ℕ, ◌<◌}
use mathlib.Core.Bool.{cond, ◌||◌}
use mathlib.Core.List.{List}
use mathlib.Core.Logic.{⊎_elim}
use mathlib.Core.Path.{◌≡◌, ◌∙◌}
use borrow.Author.Tests.{lt-ltb, eq-eqb, ne_eqb}
use lib.Dec.{eqb}
use lib.ListN.{length, get_or, set}
use lib.Seq.{get_or-set_same, get_or-set_other}
use Rattle.sets.specs.Sets.{set_room, member, Put}
use Rattle.sets.proofs.Bits.{same_or}

-- a store of v at i
pub stored : (ws : List ℕ) (i v y : ℕ) → i < length ws → get_or (set ws i v) y 0 ≡ cond (eqb y i) v (get_or ws y 0)
stored ws i v y h =
    ⊎_elim
    (λ (e : y ≡ i). rw (eq-eqb y i e, e) (get_or-set_same ws i v 0 h))
    (λ (n : y ≡ i → ⊥). rw (ne_eqb y i n) (get_or-set_other ws i y v 0 n))
    (same_or y i)

-- a set with one place more
pub put_members : {ws ws' : List ℕ} {i : ℕ} → i < set_room → Put ws i ws' → (x : ℕ) → member ws' x ≡ (eqb x i || member ws x)
put_members {i} h p x = p.members x ∙ rw (lt-ltb i set_room h)

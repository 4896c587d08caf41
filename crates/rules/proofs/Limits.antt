-- The limits of each form in numbers: what refusals 3 and 5 ask of an old job and of a tall one, and what a job that keeps the rules has.
use Prim.Native.Nat.{ℕ, ◌*◌, ◌%◌, ◌≤◌}
use mathlib.Core.Bool.{Bool, true, false}
use mathlib.Core.List.{List}
use mathlib.Core.Logic.{◌↔◌}
use mathlib.Core.Path.{◌≡◌, subst}
use native.Mathlib.Omega.{arith}
use borrow.Author.Tests.{eq-eqb, ne_eqb}
use lib.ListN.{length}
use Rattle.rules.specs.Form.{form_of}
use Rattle.rules.specs.Bytes.{size, is_tall, said, counts, whole}
use Rattle.rules.specs.Keeps.{Keeps}
use Rattle.game.proofs.Tests.{and_iff, eqb_iff, leb_iff}
use Rattle.rules.proofs.Forms.{longest}
use Rattle.rules.proofs.Judged.{InRange, counts_iff}
use Rattle.rules.proofs.Kept.{length_few}

-- the tests of 3 and 5, with so many states, bytes a record and bytes of Moves
pub record Asks (b : List ℕ) (states record_bytes moves_bytes : ℕ) : Type 0 where
  pub asks_3 : let j = said b in (counts b ≡ true)
      ↔ InRange states j.states j.actions j.propositions j.goals j.first j.first_goal
  pub asks_5 : (whole b ≡ true) ↔ ((size b 2 % record_bytes ≡ 0) × (size b 2 ≤ moves_bytes))

-- a job that keeps the rules, with so many states, bytes a record, records and bytes
pub record Has (b : List ℕ) (most_states record_bytes most_records most_bytes : ℕ) : Type 0 where
  pub states : (said b).states ≤ most_states
  pub moves : size b 2 ≡ record_bytes * (said b).records
  pub records : (said b).records ≤ most_records
  pub bytes : length b ≤ most_bytes

module _ (b : List ℕ) where
  -- both by the form
  abbrev AsksOf : Bool → Type 0
  AsksOf t = let f = form_of t in Asks b f.most_states f.record_size (f.record_size * f.most_records)

  abbrev HasOf : Bool → Type 0
  HasOf t = let f = form_of t in Has b f.most_states f.record_size f.most_records (longest t)

  asks : AsksOf (is_tall b)
  asks =
      let f = form_of (is_tall b) in
      record {
        asks_3 = counts_iff b;
        asks_5 = and_iff (eqb_iff (size b 2 % f.record_size) 0) (leb_iff (size b 2) (f.record_size * f.most_records));
      }

  has : Keeps b → HasOf (is_tall b)
  has k = record { states = k.few_states; moves = k.moves_long; records = k.few_records; bytes = length_few k }

  is_old : size b 0 ≡ 6 → is_tall b ≡ false
  is_old e = ne_eqb (size b 0) 8 (λ (z : size b 0 ≡ 8). omega arith)

  pub old_asks : size b 0 ≡ 6 → Asks b 128 3 12288
  old_asks e = subst AsksOf (is_old e) asks

  pub tall_asks : size b 0 ≡ 8 → Asks b 512 5 40960
  tall_asks e = subst AsksOf (eq-eqb (size b 0) 8 e) asks

  pub old_has : Keeps b → size b 0 ≡ 6 → Has b 128 3 4096 14518
  old_has k e = subst HasOf (is_old e) (has k)

  pub tall_has : Keeps b → size b 0 ≡ 8 → Has b 512 5 8192 43576
  tall_has k e = subst HasOf (eq-eqb (size b 0) 8 e) (has k)

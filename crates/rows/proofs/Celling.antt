-- The bytes of a table's body: that the numbers stay small, and that they are the body.
use Prim.Native.Nat.{ℕ, ◌+◌, ◌*◌, ◌/◌, ◌%◌, ◌^◌, ◌≤◌, ◌<◌}
use mathlib.Core.Bool.{Bool}
use mathlib.Core.List.{List}
use mathlib.Core.Path.{◌≡◌}
use native.Mathlib.Nat.{div-lt_iff_lt-mul, mul-le-mul}
use native.Mathlib.Omega.{arith}
use lib.ListN.{length}
use lib.Pow.{pow_pos, pow_mono}
use Rattle.lines.specs.Words.{lines}
use Rattle.lines.specs.Tables.{names_of, count_of}
use Rattle.lines.specs.declared.names.Names.{Names}
use Rattle.lines.proofs.Tabling.{names_counted}
use Rattle.slips.specs.Filling.{Filled}
use Rattle.slips.proofs.Tables.{rest_kept, filled_long, row_filled, mark_filled}
use Rattle.rows.specs.Rows.{next_said, final_said, table_size}
use Rattle.rows.specs.Cells.{table_byte, TableWritten}
use Rattle.rows.proofs.Aiming.{next_below}

-- v labels of at most 6 facts, and at most 32 goal states
pub record Sized (f g v : ℕ) : Type 0 where
  pub few_facts : f ≤ 6
  pub few_goals : g ≤ 32
  pub labels : v ≡ 2 ^ f

module _ {f g v : ℕ} (x : Sized f g v) where
  some_labels : 0 < v
  some_labels = omega (arith, x.labels, pow_pos f)

  few_labels : v ≤ 64
  few_labels = let m : 2 ^ f ≤ 2 ^ 6 = pow_mono x.few_facts in omega (arith, x.labels)

  pub rows_few : g * v ≤ 2048
  rows_few = mul-le-mul {n₂ = 32} {m₂ = 64} x.few_goals few_labels

  row_state : (y : ℕ) → y < g * v → y / v < g
  row_state y h = (div-lt_iff_lt-mul some_labels).1 h

  module _ (names states : List (List ℕ)) (ls : List (List (List ℕ))) (n : length states ≡ g) (y : ℕ) where
    pub row_few : y < g * v → next_said names states ls (y / v) (y % v) < 256
    row_few h =
        let k : y / v < length states = rw n (row_state y h) in
        omega (arith, next_below names states ls (y / v) (y % v) k, n, x.few_goals)

-- ---- the whole body

module _ (t : List ℕ) (facts goals : Names) {before after : List ℕ} {v : ℕ} (x : Sized (count_of facts) (count_of goals) v) (h : 2080 ≤ length before)
    (z : Filled (count_of goals * v + count_of goals) (table_byte (names_of facts) (names_of goals) (lines t) (count_of facts)) before after) where
  size_is : count_of goals * v + count_of goals ≡ table_size (names_of goals) (count_of facts)
  size_is = rw (names_counted goals, x.labels)

  fits : table_size (names_of goals) (count_of facts) ≤ length before
  fits = omega (arith, size_is, rows_few x, x.few_goals)

  written : Filled (table_size (names_of goals) (count_of facts)) (table_byte (names_of facts) (names_of goals) (lines t) (count_of facts)) before after
      → TableWritten t facts goals before after (table_size (names_of goals) (count_of facts))
  written w =
      let s : List (List ℕ) = names_of goals in
      let f : ℕ = count_of facts in
      let n : ℕ → ℕ → ℕ = next_said (names_of facts) s (lines t) in
      let m : ℕ → Bool = final_said s (lines t) in
      record {
        as_long = w.as_long;
        inside = fits;
        body =
            record {
              long = filled_long w fits;
              rows = row_filled (length s) f n m w;
              marks = mark_filled (length s) f n m w;
            };
        rest = rest_kept w;
      }

  pub table_written : TableWritten t facts goals before after (count_of goals * v + count_of goals)
  table_written = rw size_is (written (rw size_is at z))

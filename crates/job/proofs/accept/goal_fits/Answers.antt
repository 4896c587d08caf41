-- `accept::goal_fits` meets its contract: the length, then the rows, then the marks.
use borrow.Author.Tests.{eq-eqb, ne_eqb}
use mathlib.Core.Bool.{true, true≢false}
use mathlib.Core.Path.{◌≡◌, sym, ◌∙◌}
use Prim.Native.Nat.{◌+◌, ◌*◌}
use native.Mathlib.Omega.{arith}
use lib.Dec.{ltb, eqb}
use Rattle.game.specs.Below.{every_below}
use Rattle.rules.specs.Bytes.{size, byte, rows, said}
use Rattle.job.proofs.Laying.{Bodies, bodies, marks_are}
use Rattle.job.proofs.accept.goal_fits.Goals as goal
use Rattle.job.proofs.accept.goal_fits.Goals.{then-job-l, else-job-l}

pub returns-then-bytes_below : goal.returns-then-bytes_below
returns-then-bytes_below c =
    elim c.if-job-l.branch [
      | then-job-l w ↦
          let b = c.args.job.now in
          let lain : Bodies b c.args.l = bodies b c.args.l c.requires.laid in
          let rows_of : c.args.l.goals * c.labels_of.result ≡ rows b = rw c.labels_of.ensures (lain).rows_are in
          let long : eqb (size b 3) (rows b + (said b).goals) ≡ true =
          let h = lain in
          let r = rows_of in
          let t = w.if-job-l.true in
          eq-eqb (size b 3) (rows b + (said b).goals) (omega arith) in
          let nexts : w.bytes_below.result ≡ every_below (rows b) (λ i. ltb (byte b 3 i) (said b).goals) =
          rw (w.bytes_below.ensures, c.labels_of.ensures, c.requires.laid.is_layout) in
          rw (long, sym nexts ∙ sym w.value-is ∙ c.if-bytes_below.true, c.bytes_below-then-bytes_below.ensures, c.labels_of.ensures)
          (marks_are b c.args.l c.requires.laid.is_layout)
      | else-job-l w ↦ absurd (true≢false (sym c.if-bytes_below.true ∙ w.value-is ∙ ne_eqb _ _ w.if-job-l.false))
    ]

-- `find` meets its contract: a record that has the figures is the first that does not come before them.
use mathlib.Core.Path.{sym, ◌∙◌}
use native.Mathlib.Omega.{arith}
use Rattle.rules.specs.Bytes.{said}
use Rattle.rules.proofs.Arenas.{recorded_iff}
use Rattle.job.proofs.Asking.{records_said}
use Rattle.job.proofs.Finding.{found_nowhere}
use Rattle.job.proofs.ask.find.Goals as goal
use Rattle.job.proofs.ask.find.Goals.{else-k-l-via-then-k-l+else-eq, else-k-l-via-else-k-l}

pub returns-then-eq : goal.returns-then-eq
returns-then-eq c =
    let answered = rw (c.figures.ensures, c.move_at.ensures) at c.eq.ensures in
    let h = rw (records_said c.requires) at c.if-k-l.true in
    let e = sym answered ∙ c.if-eq.true in
    ((recorded_iff (said c.args.job.now) c.args.s c.args.a c.args.t).1 (c.count_before-k.result, h, e), h, e)

pub returns : goal.returns
returns c =
    elim c.else-k-l.branch [
      | else-k-l-via-then-k-l+else-eq w ↦
          let answered = rw (w.figures.ensures, w.move_at.ensures) at w.eq.ensures in
          found_nowhere c.requires.keeps c.args.s c.args.a c.args.t c.count_before-k.ensures (λ h. sym answered ∙ w.if-eq.false)
      | else-k-l-via-else-k-l w ↦
          let none = w.if-k-l.false in
          found_nowhere c.requires.keeps c.args.s c.args.a c.args.t c.count_before-k.ensures
          (λ h. absurd (omega (arith, records_said c.requires)))
    ]

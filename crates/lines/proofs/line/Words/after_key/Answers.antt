-- `Words::after_key` meets its contract.
use Rattle.std.proofs.Common.{◌≡◌}
use mathlib.Core.Path.{sym, ◌∙◌}
use Rattle.lines.proofs.Tabling.{key_none, key_alone, key_other, key_unmarked, key_listed}
use Rattle.lines.proofs.line.Words.after_key.Goals as goal
use Rattle.lines.proofs.line.Words.after_key.Goals.{else-is-via-then-is+else-is-2, else-is-via-else-is}

pub returns-in_err-first : goal.returns-in_err-first
returns-in_err-first c = rw c.from_residual.ensures (key_none c.args.key.now c.in_err-first.ensures.steps.1)

pub returns-in_err-second : goal.returns-in_err-second
returns-in_err-second c = rw c.from_residual-in_err-second.ensures (key_alone c.args.key.now c.in_ok-first.ensures.steps.2 c.in_err-second.ensures.steps.1)

pub returns-then-is-2 : goal.returns-then-is-2
returns-then-is-2 c =
    let a = c.in_ok-first.ensures.steps in
    let b = c.in_ok-second.ensures.steps in
    (b.1 ∙ a.1, key_listed c.args.key.now a.2 b.2 (sym c.is.ensures ∙ c.if-is.true) (sym c.is-then-is.ensures ∙ c.if-is-2.true))

pub returns : goal.returns
returns c =
    let a = c.in_ok-first.ensures.steps in
    let b = c.in_ok-second.ensures.steps in
    elim c.else-is.branch [
      | else-is-via-then-is+else-is-2 w ↦ key_unmarked c.args.key.now a.2 b.2 (sym c.is.ensures ∙ w.if-is.true) (sym w.is-then-is.ensures ∙ w.if-is-2.false)
      | else-is-via-else-is w ↦ key_other c.args.key.now a.2 b.2 (sym c.is.ensures ∙ w.if-is.false)
    ]

-- `judge_run` meets its contract: each way through it gives the answer that is due.
use Rattle.std.proofs.Common.{arith}
use mathlib.Core.Logic.{⊎_elim}
use mathlib.Core.Path.{sym, ◌∙◌}
use native.Mathlib.Omega.{arith}
use Rattle.judging.proofs.Answers.{fits, none_is, some_is, refuse_empty, refuse_long, refuse_overlong, refuse_unread, refuse_left, whole}
use Rattle.judging.proofs.run.judge_run.Goals as goal

pub returns-then-is_empty : goal.returns-then-is_empty
returns-then-is_empty c =
    ⊎_elim
    (λ e. refuse_empty _ _ (none_is (sym c.is_empty.ensures ∙ e)))
    (λ h. refuse_long _ _ h.1)
    c.then-is_empty.either

pub returns-then-f-gt64 : goal.returns-then-f-gt64
returns-then-f-gt64 c = refuse_overlong _ _ (fits _ (some_is (sym c.is_empty.ensures ∙ c.if-is_empty.false)) c.if-t-gt64.false) c.if-f-gt64.true

pub returns-in_default : goal.returns-in_default
returns-in_default c = refuse_unread _ _ (fits _ (some_is (sym c.is_empty.ensures ∙ c.if-is_empty.false)) c.if-t-gt64.false) c.in_default.ensures

pub returns-then-read-f : goal.returns-then-read-f
returns-then-read-f c =
    refuse_left _ _ (fits _ (some_is (sym c.is_empty.ensures ∙ c.if-is_empty.false)) c.if-t-gt64.false) c.in-Some.read c.in-Some.ensures (λ e. omega arith)

pub judge_read-requires : goal.judge_read-requires
judge_read-requires c =
    whole c.in-Some.read (fits _ (some_is (sym c.is_empty.ensures ∙ c.if-is_empty.false)) c.if-t-gt64.false) c.if-f-gt64.false (omega arith) c.in-Some.ensures

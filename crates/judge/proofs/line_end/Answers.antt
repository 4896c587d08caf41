-- `line_end` meets its contract: no byte passed is a line feed.
use Rattle.std.proofs.Common.{eqb, length, sym, arith}
use Rattle.std.proofs.lemmas.List.Sums.{position_or_len_is}
use borrow.Author.Tests.{eq-eqb}
use Rattle.judge.proofs.line_end.Goals as goal

pub returns-then-text-i-eq10-clause-value : goal.returns-then-text-i-eq10-clause-value
returns-then-text-i-eq10-clause-value c =
    sym (position_or_len_is (λ x. eqb x 10) c.args.text.now c.loop-i.i 0 (omega arith) c.loop-i.invariant
    (λ h. eq-eqb _ 10 c.if-text-i-eq10.true))

pub returns-clause-value : goal.returns-clause-value
returns-clause-value c =
    let past = c.loop-i-test.false in
    sym (position_or_len_is (λ x. eqb x 10) c.args.text.now (length c.args.text.now) 0 (omega arith)
    (λ k h. c.loop-i.invariant k (omega arith)) (λ h. absurd (omega arith)))

-- `pairs::is_bad` meets its contract: the records passed are of the pair, with outcomes below S.
use mathlib.Core.Path.{◌≡◌, sym, ◌∙◌, ap}
use native.Mathlib.Omega.{arith}
use Rattle.rules.specs.Job.{is_from}
use Rattle.rules.specs.Bytes.{said}
use Rattle.rules.specs.declared.place.Move.{Move}
use Rattle.salvage.proofs.Mending.{clear_more, clear_bad, clear_ends}
use Rattle.salvage.proofs.Pairing.{records_said, states_said}
use Rattle.salvage.proofs.pairs.is_bad.Goals as goal

pub returns-then-not-same_pair : goal.returns-then-not-same_pair
returns-then-not-same_pair c =
    let judged : let b = c.args.job.now in let k = c.args.begin in c.same_pair.result ≡ is_from ((said b).move c.loop-i.i) ((said b).move k).state ((said b).move k).action =
    c.same_pair.ensures ∙ rw (c.forgiven_move_at-x.ensures, c.forgiven_move_at-m.ensures) in
    let h = records_said c.requires.fit_but in
    clear_ends (said c.args.job.now) c.requires.fit_but.keeps.ascending c.args.begin c.loop-i.i (omega arith) c.requires.begin_value c.loop-i.auto.i (omega arith)
    c.loop-i.invariant (λ x. sym (judged) ∙ c.if-not-same_pair.true)

pub returns-then-l-from : goal.returns-then-l-from
returns-then-l-from c =
    let judged : let b = c.args.job.now in let k = c.args.begin in c.same_pair.result ≡ is_from ((said b).move c.loop-i.i) ((said b).move k).state ((said b).move k).action =
    c.same_pair.ensures ∙ rw (c.forgiven_move_at-x.ensures, c.forgiven_move_at-m.ensures) in
    let h = records_said c.requires.fit_but in
    let g = states_said c.requires.fit_but in
    let o = ap (λ (m : Move). m.outcome) c.forgiven_move_at-x.ensures in
    let y = c.if-l-from.true in
    let z = c.from.ensures in
    clear_bad (said c.args.job.now) c.args.begin c.loop-i.i (omega arith) (sym (judged) ∙ c.if-not-same_pair.false)
    (omega arith)

pub loop-i-preserved : goal.loop-i-preserved
loop-i-preserved c =
    let judged : let b = c.args.job.now in let k = c.args.begin in c.same_pair.result ≡ is_from ((said b).move c.loop-i.i) ((said b).move k).state ((said b).move k).action =
    c.same_pair.ensures ∙ rw (c.forgiven_move_at-x.ensures, c.forgiven_move_at-m.ensures) in
    let g = states_said c.requires.fit_but in
    let o = ap (λ (m : Move). m.outcome) c.forgiven_move_at-x.ensures in
    let y = c.if-l-from.false in
    let z = c.from.ensures in
    clear_more (said c.args.job.now) c.args.begin c.loop-i.i c.loop-i.invariant (sym (judged) ∙ c.if-not-same_pair.false) (omega arith)

pub returns : goal.returns
returns c =
    let h = records_said c.requires.fit_but in
    clear_ends (said c.args.job.now) c.requires.fit_but.keeps.ascending c.args.begin c.loop-i.i (omega arith) c.requires.begin_value c.loop-i.auto.i (omega arith)
    c.loop-i.invariant (λ x. absurd (omega arith))

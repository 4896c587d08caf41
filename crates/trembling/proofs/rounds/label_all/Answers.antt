-- `label_all` meets its contract: round 0, the rounds of winning, and the rounds of hope.
use Rattle.rules.specs.Bytes.{said}
use Rattle.phases.proofs.Steps.{first_says, wins_by, wins_says}
use Rattle.larger.specs.Plans.{larger_arena}
use Rattle.trembling.proofs.Settling.{held_begin, labelled_both}
use Rattle.trembling.proofs.rounds.label_all.Goals as goal

pub returns : goal.returns
returns c =
    let t = c.requires.fit in
    let H = larger_arena (said c.args.job.now) c.args.slips in
    let won = c.all_rounds-won.ensures H.accepted (first_says H) c.args.plan.now (held_begin t c.args.slips c.begin-first.ensures) in
    labelled_both t c.args.slips won
    (c.all_rounds-all.ensures (wins_by H won.rounds) (wins_says H won.rounds) c.args.plan.now won.holds)

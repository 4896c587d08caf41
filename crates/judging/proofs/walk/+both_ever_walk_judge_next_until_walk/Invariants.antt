-- The measures: 66 for each byte left; besides 1 in `both` and `next`, and in a walk the moments left of 65.
-- So a part has a smaller one whatever the moment, and a walk a smaller one at a later moment.
use Rattle.std.proofs.Common.{◌+◌, ◌-◌, ◌*◌, length}
use Rattle.judging.proofs.walk.+both_ever_walk_judge_next_until_walk.Given as goal

abbrev pub decreases-both : goal.decreases-both
decreases-both l = (length l.f.now - l.at) * 66 + 1

abbrev pub decreases-ever_walk : goal.decreases-ever_walk
decreases-ever_walk l = (length l.f.now - l.at) * 66 + (65 - l.i)

abbrev pub decreases-judge : goal.decreases-judge
decreases-judge l = (length l.f.now - l.at) * 66

abbrev pub decreases-next : goal.decreases-next
decreases-next l = (length l.f.now - l.at) * 66 + 1

abbrev pub decreases-until_walk : goal.decreases-until_walk
decreases-until_walk l = (length l.f.now - l.at) * 66 + (65 - l.i)

-- `Places::put` meets its contract.
use borrow.Author.Rules.{rules}
use Rattle.sets.proofs.Members.{put_more}
use Rattle.sets.proofs.places.Places.put.Goals as goal

pub returns-then-w : goal.returns-then-w
returns-then-w g c = put_more g.row.N c.args.self.now.words c.args.i (search rules) c.if-w.true

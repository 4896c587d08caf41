-- `link` meets its contract: two stores.
use Rattle.backward.proofs.Listing.{linked}
use Rattle.backward.proofs.index.link.Goals as goal

-- src/index.rt:18:5
-- src/index.rt:12:1
pub returns : goal.returns
returns c = linked c.requires.t_lt_states c.requires.k_in_bounds

-- `turn::turn_named` meets its contract.
use mathlib.Core.Path.{refl}
use Rattle.lines.specs.Tables.{names_of}
use Rattle.words.proofs.Turning.{turned_named}
use Rattle.words.proofs.turn.turn_named.Goals as goal

pub returns : goal.returns
returns c =
    let n = c.args.names in
    turned_named c.args.text.now (names_of n.states) (names_of n.actions) (names_of n.facts) (names_of n.goals) _ c.facts.ensures c.facts-2.ensures refl
    c.moves.ensures c.turn_said.ensures

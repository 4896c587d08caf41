-- `turn::turn_whole` meets its contract.
use Prim.Native.Nat.{ℕ}
use mathlib.Core.Path.{refl, sym, ap, ◌∙◌}
use Rattle.std.specs.Prelude.{unwrap_or}
use Rattle.lines.proofs.Tabling.{names_counted}
use Rattle.words.specs.Within.{blamed}
use Rattle.words.proofs.Turning.{sounds_same}
use Rattle.words.proofs.turn.turn_whole.Goals as goal

pub returns-in_default : goal.returns-in_default
returns-in_default c = blamed

pub returns : goal.returns
returns c =
    let n = c.args.names in
    sounds_same c.write_goal.ensures c.in-Some.is refl refl refl (c.len-states.ensures ∙ sym (names_counted n.states))
    (c.len-actions.ensures ∙ sym (names_counted n.actions)) c.len-facts.ensures (sym (names_counted n.facts)) c.requires
    (c.unwrap_or-start.ensures ∙ (ap (λ (k : ℕ). unwrap_or c.given.result k) c.len-states.ensures ∙ c.given.ensures.index)) c.finish.ensures

-- `told::put_advice` meets its contract.
use Prim.Native.Nat.{ℕ}
use mathlib.Core.Bool.{Bool, true, false}
use mathlib.Core.Path.{◌≡◌, refl}
use Rattle.std.specs.Prelude.{◌≢◌}
use Rattle.std.specs.declared.option.Option.TheVariants.{Some}
use lib.Dec.{eqb}
use borrow.Author.Rules.{rules}
use borrow.Author.Tests.{ne_eqb}
use Rattle.game.specs.Game.{named}
use Rattle.game.specs.declared.entry.Entry.{Entry}
use Rattle.text.proofs.Putting.{puts_then}
use Rattle.telling.proofs.told.put_advice.Goals as goal
use Rattle.telling.proofs.told.put_advice.Goals.{in-Ok+in-Winning-1, in-Err-1}

-- the action that an entry names is its own, and not 255
action_named : (e : Entry) (a : ℕ) → Some a ≡ named e → (eqb e.action 255 ≡ false) × (a ≡ e.action)
action_named e a h = go (eqb e.action 255) refl
  where
    go : (x : Bool) → eqb e.action 255 ≡ x → (eqb e.action 255 ≡ false) × (a ≡ e.action)
    go true x = let none = rw x at h in absurd cc
    go false x = let some = rw x at h in (x, cc)

pub returns-in-Ok-Pending-Some : goal.returns-in-Ok-Pending-Some
returns-in-Ok-Pending-Some c =
    let hopes : c.args.e.value ≡ 1 = search rules in
    let (some, same) = action_named c.args.e c.in-Ok-Pending-Some.action c.in-Ok-Pending-Some.ensures' in
    let put = puts_then c.put_name.ensures (puts_then c.put_word-in-Ok-Pending-Some.ensures
    (puts_then c.put_moves.ensures c.put_word-in-Ok-Pending-Some-2.ensures)) in
    rw (hopes, some) (rw (c.from.ensures, same) at put)

pub returns-in_default-Some : goal.returns-in_default-Some
returns-in_default-Some c =
    let not_lost : c.args.e.value ≢ 0 = elim c.match-try_from.branch [ in-Ok+in-Winning-1 w ↦ search rules | in-Err-1 w ↦ search rules ] in
    let not_hoped : c.args.e.value ≢ 1 = elim c.match-try_from.branch [ in-Ok+in-Winning-1 w ↦ search rules | in-Err-1 w ↦ search rules ] in
    let (some, same) = action_named c.args.e c.in_default-Some.action c.in_default-Some.ensures in
    let put = puts_then c.put_name-in_default-Some.ensures (puts_then c.put_word-in_default-Some.ensures
    (puts_then c.put_moves-in_default-Some.ensures c.put_word-in_default-Some-2.ensures)) in
    rw (ne_eqb _ 0 not_lost, some, ne_eqb _ 1 not_hoped) (rw (c.from-in_default-Some.ensures, same) at put)

-- What planning leaves, read back: when it plans, and that each entry of the buffer is right.
use Prim.Native.Nat.{ℕ, ◌+◌, ◌*◌, ◌≤◌, ◌<◌}
use mathlib.Core.List.{List, ◌++◌}
use mathlib.Core.Logic.{◌↔◌}
use mathlib.Core.Path.{◌≡◌, refl}
use native.Mathlib.Omega.{arith}
use lib.Arith.{digits_lt}
use lib.ListN.{length, drop, length-append, get_or-append}
use Rattle.game.specs.Game.{Inside, Right}
use Rattle.rules.specs.Job.{places, entry_number, arena}
use Rattle.rules.specs.Fault.{Fault, only}
use Rattle.rules.specs.Bytes.{said}
use Rattle.rules.specs.Keeps.{Keeps}
use Rattle.rules.specs.Plan.{entry, room, planned_entry}
use Rattle.rules.specs.Calls.{Planning, refused, no_room, planned}
use Rattle.rules.specs.declared.place.Place.{Place}
use Rattle.game.specs.declared.entry.Entry.{Entry}
use Rattle.rules.proofs.Kept.{kept}
use Rattle.rules.proofs.Arenas.{inside_iff}

-- what a buffer says of a place of the job that b says
abbrev pub entry_of : (b after : List ℕ) → Place → Entry
entry_of b = planned_entry (said b)

-- A job is planned exactly when it keeps the rules and the plan has room.
pub planned_exactly : {b before after : List ℕ} {f : Fault} → Planning b before f after
    → (f.number ≡ 0) ↔ (Keeps b × (room (said b) ≤ length before))
planned_exactly {b} (refused n) = (λ e. absurd (n e), λ t. absurd (n ((kept b).1 t.0)))
planned_exactly {b} (no_room e l) = (λ z. absurd (omega arith), λ t. absurd (omega (arith, t.1)))
planned_exactly {b} (planned e l p) = (λ z. ((kept b).0 e, l), λ t. refl)

-- the answer is then 0 with no record
pub planned_plainly : {b before after : List ℕ} {f : Fault} → Planning b before f after → f.number ≡ 0 → f ≡ only 0
planned_plainly (refused n) z = absurd (n z)
planned_plainly (no_room e l) z = absurd (omega arith)
planned_plainly (planned e l p) z = refl

-- and the plan is all there
pub planned_long : {b before after : List ℕ} {f : Fault} → Planning b before f after → f.number ≡ 0 → room (said b) ≤ length after
planned_long (refused n) z = absurd (n z)
planned_long (no_room e l) z = absurd (omega arith)
planned_long {b} {before} (planned {p} e l plan) z = omega (arith, plan.long, length-append p (drop (room (said b)) before))

-- the entry i of a plan with more bytes behind it
pub front_entry : (p q : List ℕ) (i : ℕ) → 4 * i + 4 ≤ length p → entry (p ++ q) i ≡ entry p i
front_entry p q i h =
    let a = get_or-append p q 0 (4 * i) (omega arith) in
    let b = get_or-append p q 0 (4 * i + 1) (omega arith) in
    let c = get_or-append p q 0 (4 * i + 2) (omega arith) in
    let d = get_or-append p q 0 (4 * i + 2 + 1) (omega arith) in
    λ j. record { value = a j; action = b j; number = c j + 256 * d j }

-- Every plan byte is the one that the rules fix: each entry says what is right (`plan_unique` has the bytes),
pub planned_right : {b before after : List ℕ} {f : Fault} → Planning b before f after → f.number ≡ 0 → (p : Place)
    → Inside (arena (said b)) p
    → Right (arena (said b)) p (entry_of b after p)
planned_right (refused n) z p i = absurd (n z)
planned_right (no_room e l) z p i = absurd (omega arith)
planned_right {b} {before} (planned {p = bytes} e l plan) z p i =
    let (hs, hq) = (inside_iff (said b) p).0 i in
    let below : entry_number (said b).goals p < places (said b) = digits_lt hs hq in
    let long = plan.long in
    rw (front_entry bytes (drop (room (said b)) before) (entry_number (said b).goals p) (omega arith))
    (plan.right p.state p.goal hs hq)

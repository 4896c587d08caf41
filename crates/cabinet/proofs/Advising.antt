-- Advice on our own plan, or on one whose entries are allowed, is never refused at a place: what is allowed has one of the four shapes.
use Prim.Native.Nat.{ℕ, ◌≤◌}
use mathlib.Core.Bool.{true}
use mathlib.Core.List.{List}
use mathlib.Core.Path.{◌≡◌, refl, subst}
use borrow.Author.Tests.{eq-eqb, le-ltb}
use lib.ListN.{length}
use Rattle.game.specs.Allowed.{Allowed}
use Rattle.game.specs.Game.{Inside}
use Rattle.rules.specs.Job.{place, places, arena}
use Rattle.rules.specs.Fault.{only}
use Rattle.rules.specs.Bytes.{refusal, said}
use Rattle.rules.specs.Keeps.{Keeps}
use Rattle.rules.specs.Plan.{room, shaped}
use Rattle.rules.specs.Calls.{Planning, is_place, advice_of, advised}
use Rattle.rules.specs.declared.place.Place.{Place}
use Rattle.game.specs.declared.entry.Entry.{Entry}
use Rattle.game.proofs.Following.{right_allowed}
use Rattle.game.proofs.Tests.{and_iff, ltb_iff}
use Rattle.rules.proofs.Kept.{kept}
use Rattle.rules.proofs.Shapes.{shaped_allowed}
use Rattle.rules.proofs.Arenas.{inside_iff, size_of, arena_lawful}
use Rattle.rules.proofs.Planned.{entry_of, planned_exactly, planned_right, planned_long}

pub allowed_shaped : {b : List ℕ} → Keeps b → (p : Place) → Inside (arena (said b)) p → {x : Entry} → Allowed (arena (said b)) p x
    → shaped (said b).actions (places (said b)) x ≡ true
allowed_shaped {b} k p i {x} a =
    subst (λ (n : ℕ). shaped (said b).actions n x ≡ true) (size_of (said b)) (shaped_allowed (arena (said b)) (arena_lawful b k) p i a)

-- What advice answers of a place whose entry is allowed is that entry;
pub advice_allowed : (b p : List ℕ) → Keeps b → room (said b) ≤ length p → (s q : ℕ) → is_place (said b) s q ≡ true
    → Allowed (arena (said b)) (place s q) (entry_of b p (place s q)) → advised b p s q ≡ advice_of (entry_of b p (place s q))
advice_allowed b p k l s q h a =
    let i = (inside_iff (said b) (place s q)).1 ((and_iff (ltb_iff s (said b).states) (ltb_iff q (said b).goals)).0 h) in
    rw (eq-eqb (refusal b) 0 ((kept b).1 k), le-ltb (length p) (room (said b)) l, h, allowed_shaped k (place s q) i a)

-- so it is of each place of a plan just made.
pub advice_planned : {b before after : List ℕ} → Planning b before (only 0) after → (s q : ℕ) → is_place (said b) s q ≡ true
    → advised b after s q ≡ advice_of (entry_of b after (place s q))
advice_planned {b} {after} done s q p =
    let i = (inside_iff (said b) (place s q)).1 ((and_iff (ltb_iff s (said b).states) (ltb_iff q (said b).goals)).0 p) in
    advice_allowed b after ((planned_exactly done).0 refl).0 (planned_long done refl) s q p
    (right_allowed (arena (said b)) (planned_right done refl (place s q) i))

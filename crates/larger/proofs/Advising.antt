-- Advice on our own plans for slips of the arm is never refused at a larger place: what is right has one of the four shapes.
use Prim.Native.Nat.{ℕ, suc, ◌*◌, ◌≤◌, ◌<◌}
use mathlib.Core.Bool.{true}
use mathlib.Core.List.{List}
use mathlib.Core.Path.{◌≡◌, refl, ap, ◌∙◌, subst}
use native.Mathlib.Omega.{arith}
use borrow.Author.Tests.{lt-ltb, le-ltb}
use lib.ListN.{length}
use Rattle.rules.specs.Job.{place, arena}
use Rattle.rules.specs.Fault.{only}
use Rattle.rules.specs.Bytes.{said}
use Rattle.rules.specs.Plan.{shaped}
use Rattle.rules.specs.Calls.{advice_of}
use Rattle.rules.proofs.Kept.{kept}
use Rattle.game.proofs.Rounds.{size}
use Rattle.rules.proofs.Shapes.{shaped_allowed}
use Rattle.game.proofs.Following.{right_allowed}
use Rattle.rules.proofs.Arenas.{inside_iff, size_of, arena_lawful}
use Rattle.larger.specs.Larger.{larger}
use Rattle.larger.specs.Plans.{larger_arena, larger_places, larger_room, Trembling}
use Rattle.larger.specs.Calls.{advised_slips}
use Rattle.larger.proofs.Slipping.{inside_slipping, size_slipping, slipping_lawful}
use Rattle.larger.proofs.Trembled.{larger_entry, trembled_exactly, trembled_right, trembled_long}

-- What advice answers of each larger place of plans just made is the plans' entry.
pub advice_trembled : {b before after : List ℕ} {K : ℕ} → Trembling b K before (only 0) after → (k s q : ℕ) → k ≤ K → s < (said b).states
    → q < (said b).goals → advised_slips b K after s q k ≡ advice_of (larger_entry b after (larger k (place s q)))
advice_trembled {b} {before} {after} {K} done k s q hk hs hq =
    let (keeps, few, fits) = (trembled_exactly done).0 refl in
    let L = arena_lawful b keeps in
    let i = (inside_slipping (arena (said b)) K (larger k (place s q))).1 ((inside_iff (said b) (place s q)).1 (hs, hq), hk) in
    let many : size (larger_arena (said b) K) ≡ larger_places (said b) K =
    size_slipping (arena (said b)) K ∙ ap (λ (n : ℕ). suc K * n) (size_of (said b)) in
    let shape = subst (λ (n : ℕ). shaped (said b).actions n (larger_entry b after (larger k (place s q))) ≡ true) many
    (shaped_allowed (larger_arena (said b) K) (slipping_lawful (arena (said b)) L K) (larger k (place s q)) i
    (right_allowed (larger_arena (said b) K) (trembled_right done refl (larger k (place s q)) i))) in
    rw (
      (kept b).1 keeps,
      le-ltb 3 K few,
      le-ltb (length after) (larger_room (said b) K) (trembled_long done refl),
      lt-ltb s (said b).states hs,
      lt-ltb q (said b).goals hq,
      lt-ltb k (suc K) (omega arith),
      shape,
    )

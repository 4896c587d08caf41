-- The call that plans for slips of the arm: one answer and one content of the buffer; K = 0 gives today's; when it plans; the numbers lie below the count
-- of larger places; and what comes of following it where the chooser sees what was done.
use Prim.Native.Nat.{ℕ, ◌≤◌, ◌<◌}
use mathlib.Core.List.{List, ◌++◌, Memᴰ}
use mathlib.Core.Logic.{◌↔◌}
use mathlib.Core.Path.{◌≡◌, refl, ap}
use native.Mathlib.Nat.{one-mul}
use native.Mathlib.Omega.{arith}
use lib.ListN.{length, drop, length-append}
use Rattle.game.specs.Game.{Arena, Play, last, Inside, Unmet, Lawful, Way, run, Obeys, Follows, Winning, Right, lost, met, wins, hopes}
use Rattle.game.specs.Game.{WinsIn, HopesIn}
use Rattle.game.specs.Allowed.{Allowed}
use Rattle.game.specs.Behaviour.{BestEffort, Better}
use Rattle.game.specs.Demands.{ValueTold, WinningKept, PendingKept}
use Rattle.game.specs.declared.entry.Entry.{Entry}
use Rattle.rules.specs.Job.{places, start, arena}
use Rattle.rules.specs.Fault.{Fault, only}
use Rattle.rules.specs.Bytes.{said}
use Rattle.rules.specs.Keeps.{Keeps}
use Rattle.rules.specs.Plan.{entry}
use Rattle.rules.specs.Calls as calls
use Rattle.rules.specs.declared.place.Place.{Place}
use Rattle.game.proofs.Hopes.{run_inside}
use Rattle.game.proofs.Bounds.{wins_below, hopes_below, wins_within}
use Rattle.game.proofs.Following.{right_allowed, follow, follow_follows, follows_on, says_wins}
use Rattle.game.proofs.Demands.{value_told, winning_kept, pending_kept}
use Rattle.game.proofs.Undominated.{best_effort, nothing_better}
use Rattle.rules.proofs.Kept.{kept}
use Rattle.rules.proofs.Arenas.{inside_iff, size_of, arena_lawful, start_inside}
use Rattle.rules.proofs.Planned.{front_entry}
use Rattle.larger.specs.Larger.{Larger, Watched, watched, unwatched, watching}
use Rattle.larger.specs.Plans.{larger_arena, larger_number, larger_places, larger_room}
use Rattle.larger.specs.Plans.{Trembling, refused, too_many, no_room, planned}
use Rattle.larger.proofs.Slipping.{inside_slipping, size_slipping, slipping_lawful, right_watched, inside_watching, watching_lawful}
use Rattle.larger.proofs.Layers.{number_below, larger_unique, larger_today}

pub trembling_unique : {b before after after' : List ℕ} {K : ℕ} {f f' : Fault} → Trembling b K before f after → Trembling b K before f' after'
    → (f ≡ f') × (after ≡ after')
trembling_unique {b} {before} {K = K} w w' = one K w w'
  where
    one : (K : ℕ) {after after' : List ℕ} {f f' : Fault} → Trembling b K before f after → Trembling b K before f' after' → (f ≡ f') × (after ≡ after')
    one K (refused n) (refused n') = (refl, refl)
    one K (refused n) (too_many e t) = absurd (n e)
    one K (refused n) (no_room e t l) = absurd (n e)
    one K (refused n) (planned e t l p) = absurd (n e)
    one K (too_many e t) (refused n) = absurd (n e)
    one K (too_many e t) (too_many e' t') = (refl, refl)
    one K (too_many e t) (no_room e' t' l) = absurd (omega arith)
    one K (too_many e t) (planned e' t' l p) = absurd (omega arith)
    one K (no_room e t l) (refused n) = absurd (n e)
    one K (no_room e t l) (too_many e' t') = absurd (omega arith)
    one K (no_room e t l) (no_room e' t' l') = (refl, refl)
    one K (no_room e t l) (planned e' t' l' p) = absurd (omega arith)
    one K (planned e t l p) (refused n) = absurd (n e)
    one K (planned e t l p) (too_many e' t') = absurd (omega arith)
    one K (planned e t l p) (no_room e' t' l') = absurd (omega arith)
    one K (planned e t l p) (planned e' t' l' p') = (
      refl,
      ap (λ (x : List ℕ). x ++ drop (larger_room (said b) K) before) (larger_unique (said b) (arena_lawful b ((kept b).0 e)) K p p'),
    )

-- K = 0 gives today's answer and plan bytes.
pub trembling_today : {b before after : List ℕ} {f : Fault} → Trembling b 0 before f after → calls.Planning b before f after
trembling_today (refused n) = calls.refused n
trembling_today (too_many e t) = absurd (omega arith)
trembling_today {b} (no_room e t l) = calls.no_room e (rw (one-mul (places (said b))) at l)
trembling_today {b} {before} (planned {p} e t l a) =
    rw (one-mul (places (said b)))
    (calls.planned e (rw (one-mul (places (said b))) at l)
    ((larger_today (said b) (arena_lawful b ((kept b).0 e)) p).0 a))

-- ---- what the plan says, and what comes of following it

-- what a buffer says of a larger place
abbrev pub larger_entry : (b after : List ℕ) → Larger Place → Entry
larger_entry b after x = entry after (larger_number (said b) x)

-- A job is planned exactly when it keeps the rules, the slips are 3 at most and there is room.
pub trembled_exactly : {b before after : List ℕ} {K : ℕ} {f : Fault} → Trembling b K before f after
    → (f.number ≡ 0) ↔ (Keeps b × (K ≤ 3) × (larger_room (said b) K ≤ length before))
trembled_exactly {b} {before} {K = K} w = exactly K w
  where
    exactly : (K : ℕ) {after : List ℕ} {f : Fault} → Trembling b K before f after
        → (f.number ≡ 0) ↔ (Keeps b × (K ≤ 3) × (larger_room (said b) K ≤ length before))
    exactly K (refused n) = (λ e. absurd (n e), λ t. absurd (n ((kept b).1 t.0)))
    exactly K (too_many e t) = (λ z. absurd (omega arith), λ u. absurd (omega (arith, u.1)))
    exactly K (no_room e t l) = (λ z. absurd (omega arith), λ u. absurd (omega (arith, u.2)))
    exactly K (planned e t l p) = (λ z. ((kept b).0 e, t, l), λ u. refl)

pub trembled_right : {b before after : List ℕ} {K : ℕ} {f : Fault} → Trembling b K before f after → f.number ≡ 0 → (x : Larger Place)
    → Inside (larger_arena (said b) K) x → Right (larger_arena (said b) K) x (larger_entry b after x)
trembled_right {b} {before} {K = K} w z x i = told K w z i
  where
    told : (K : ℕ) {after : List ℕ} {f : Fault} → Trembling b K before f after → f.number ≡ 0 → Inside (larger_arena (said b) K) x
        → Right (larger_arena (said b) K) x (larger_entry b after x)
    told K (refused n) z i = absurd (n z)
    told K (too_many e t) z i = absurd (omega arith)
    told K (no_room e t l) z i = absurd (omega arith)
    told K (planned {p = bytes} e t l plan) z i =
        let L = arena_lawful b ((kept b).0 e) in
        let (h, k) = (inside_slipping (arena (said b)) K x).0 i in
        let (hs, hq) = (inside_iff (said b) x.at).0 h in
        let below = number_below (said b) L K x i in
        let long = plan.long in
        rw (front_entry bytes (drop (larger_room (said b) K) before) (larger_number (said b) x) (omega arith))
        (plan.right x.slips x.at.state x.at.goal k hs hq)

-- the answer is then 0 with no record
pub trembled_plainly : {b before after : List ℕ} {K : ℕ} {f : Fault} → Trembling b K before f after → f.number ≡ 0 → f ≡ only 0
trembled_plainly {b} {before} {K = K} w z = plainly K w z
  where
    plainly : (K : ℕ) {after : List ℕ} {f : Fault} → Trembling b K before f after → f.number ≡ 0 → f ≡ only 0
    plainly K (refused n) z = absurd (n z)
    plainly K (too_many e t) z = absurd (omega arith)
    plainly K (no_room e t l) z = absurd (omega arith)
    plainly K (planned e t l p) z = refl

-- and the plans are all there
pub trembled_long : {b before after : List ℕ} {K : ℕ} {f : Fault} → Trembling b K before f after → f.number ≡ 0
    → larger_room (said b) K ≤ length after
trembled_long {b} {before} {K = K} w z = long K w z
  where
    long : (K : ℕ) {after : List ℕ} {f : Fault} → Trembling b K before f after → f.number ≡ 0 → larger_room (said b) K ≤ length after
    long K (refused n) z = absurd (n z)
    long K (too_many e t) z = absurd (omega arith)
    long K (no_room e t l) z = absurd (omega arith)
    long K (planned {p} e t l plan) z = omega (arith, plan.long, length-append p (drop (larger_room (said b) K) before))

module _ {b before after : List ℕ} {K : ℕ} (done : Trembling b K before (only 0) after) where
  keeps : Keeps b
  keeps = ((trembled_exactly done).0 refl).0

  few : (said b).actions ≤ 255
  few = let h = keeps.few_actions in omega arith

  lawful : Lawful (arena (said b))
  lawful = arena_lawful b keeps

  -- Bounds count larger places.
  pub numbers_below : (x : Larger Place) (n : ℕ) → Inside (larger_arena (said b) K) x → WinsIn (larger_arena (said b) K) x n
      → n < larger_places (said b) K
  numbers_below x n i w =
      let h = wins_below (larger_arena (said b) K) (slipping_lawful (arena (said b)) lawful K) n x i w in
      let e = size_slipping (arena (said b)) K in
      let e' = size_of (said b) in
      rw (← e') (rw (← e) h)

  pub hopes_numbers_below : (x : Larger Place) (n : ℕ) → Inside (larger_arena (said b) K) x → HopesIn (larger_arena (said b) K) x n
      → n < larger_places (said b) K
  hopes_numbers_below x n i w =
      let h = hopes_below (larger_arena (said b) K) (slipping_lawful (arena (said b)) lawful K) n x i w in
      let e = size_slipping (arena (said b)) K in
      let e' = size_of (said b) in
      rw (← e') (rw (← e) h)

  -- so each entry's number lies below the count of larger places
  pub entries_below : (x : Larger Place) → Inside (larger_arena (said b) K) x → (larger_entry b after x).number < larger_places (said b) K
  entries_below x i = go (trembled_right done refl x i)
    where
      go : {e : Entry} → Right (larger_arena (said b) K) x e → e.number < larger_places (said b) K
      go (lost l) = let h = number_below (said b) lawful K x i in omega arith
      go (met y) = let h = number_below (said b) lawful K x i in omega arith
      go (wins {a} {n} u w s) = numbers_below x n i w
      go (hopes {a} {n} h w s) = hopes_numbers_below x n i w

  -- A number is at most the count of larger places that are winning and where the goal is not yet met.
  pub larger_at_most : (x : Larger Place) → Inside (larger_arena (said b) K) x → (larger_entry b after x).value ≡ 2 → (ts : List (Larger Place))
      → ((t : Larger Place) → Inside (larger_arena (said b) K) t → Winning (larger_arena (said b) K) t → Unmet (larger_arena (said b) K) t
      → Memᴰ t ts)
      → (larger_entry b after x).number ≤ length ts
  larger_at_most x i v =
      let H = larger_arena (said b) K in
      let LH = slipping_lawful (arena (said b)) lawful K in
      wins_within H LH (larger_entry b after x).number x i (says_wins H LH x (right_allowed H (trembled_right done refl x i)) v)

  -- ---- The chooser sees what was done and how many slips remain.

  abbrev W : Arena
  W = watching (arena (said b)) K

  -- what the plans say of a larger place, whatever was done before
  abbrev plans : Watched Place → Entry
  plans x = larger_entry b after (unwatched x)

  LW : Lawful W
  LW = watching_lawful (arena (said b)) lawful K

  -- a run starts with K slips left, and nothing done yet: the number of actions, which no action has, stands for that
  pub watched_start : Inside W (watched K (said b).actions (start (said b)))
  watched_start =
      (inside_watching (arena (said b)) lawful K (watched K (said b).actions (start (said b)))).1 (start_inside b keeps, omega arith, omega arith)

  -- the entries are right for such a chooser: all of demand 2 over her places,
  pub watched_right : (x : Watched Place) → Inside W x → Right W x (plans x)
  watched_right x i =
      let (h, k, d) = (inside_watching (arena (said b)) lawful K x).0 i in
      (right_watched (arena (said b)) lawful K x i (plans x)).1
      (trembled_right done refl (unwatched x) ((inside_slipping (arena (said b)) K (unwatched x)).1 (h, k)))

  allowed : (x : Watched Place) → Inside W x → Allowed W x (plans x)
  allowed x i = right_allowed W (watched_right x i)

  -- each value is the place's,
  pub watched_told : (x : Watched Place) → Inside W x → ValueTold W x (plans x)
  watched_told x i = value_told W LW (allowed x i)

  -- the plans can be followed after every play, and whoever follows them keeps the third demand and makes the best effort.
  pub watched_followable : (h : Play (Watched Place)) → Inside W (last h) → (σ : Way W) × Follows W plans σ h
  watched_followable h i = (follow W plans, follow_follows W LW few plans allowed h i)

  module _ (σ : Way W) (h : Play (Watched Place)) (follows : Follows W plans σ h) (i : Inside W (last h)) where
    -- in mid-run they are followed still
    pub watched_on : (o : ℕ → Watched Place) → Obeys W σ o h → (n : ℕ) → Follows W plans σ (run W σ o h n) × Inside W (last (run W σ o h n))
    watched_on o obeys n = (follows_on W plans σ n h o obeys follows, run_inside W LW σ n h o i obeys)

    pub watched_wins : (plans (last h)).value ≡ 2 → WinningKept W plans σ h
    watched_wins = winning_kept W LW few plans allowed σ h follows i

    pub watched_hopes : (plans (last h)).value ≡ 1 → PendingKept W plans σ h
    watched_hopes = pending_kept W LW few plans allowed σ h follows i

    pub watched_best : BestEffort W σ h
    watched_best = best_effort W LW few plans allowed σ h follows i

    pub watched_none_better : (τ : Way W) → Better W τ σ h → ⊥
    watched_none_better = nothing_better W LW few plans allowed σ h follows i

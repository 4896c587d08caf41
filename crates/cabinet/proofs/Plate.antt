-- What best effort buys in One plate, which starts at 0, 0, a pending place: whoever lifts there, as the plan says, does better than whoever
-- waits for a sure thing.
use Prim.Native.Nat.{ℕ}
use mathlib.Core.Bool.{Bool, true, false, cond, ◌&&◌, true≢false}
use mathlib.Core.List.Memᴰ
use mathlib.Core.List.{List}
use mathlib.Core.Path.{◌≡◌, refl, sym, ap, ap₂, ◌∙◌, subst}
use lib.Dec.{eqb}
use Rattle.game.specs.Game.{Arena, Play, begin, then, last, stop, act, says, Listed, Unmet, Way, Follows}
use Rattle.game.specs.Behaviour.{Behaviour, Meets, Better, lazy}
use Rattle.game.specs.declared.entry.Entry.{Entry}
use Rattle.rules.specs.Job.{place, arena}
use Rattle.rules.specs.Fault.{only}
use Rattle.rules.specs.Bytes.{said}
use Rattle.rules.specs.Calls.{Planning}
use Rattle.rules.specs.Examples.{plate, case, CaseHolds}
use Rattle.rules.specs.declared.place.Place.{Place}
use Rattle.game.proofs.Lists.{every, some, sure}
use Rattle.game.proofs.Search.{lowest}
use Rattle.game.proofs.Tests.{and_iff, eqb_iff}
use Rattle.game.proofs.Rounds.{win, hope}
use Rattle.game.proofs.Plays.{some_obeys}
use Rattle.game.proofs.Following.{follows_then}
use Rattle.game.proofs.Facing.{meets_on}
use Rattle.game.proofs.Undominated.{stopped, lead, help, helping}
use Rattle.rules.proofs.Arenas.{arena_lawful}
use Rattle.rules.proofs.Planned.{entry_of}
use Rattle.rules.proofs.Marked.{marked_planned}
use Rattle.cabinet.proofs.Effort.{winning_worth, lazy_bettered}

abbrev Plate : Arena
Plate = arena (said plate)

plate_start : CaseHolds (case plate (place 0 0) (says 1 0 2))
plate_start = marked_planned _ (Memᴰ.head refl)

-- on the stage, and just exposed
plate_stage : CaseHolds (case plate (place 1 0) (says 1 1 1))
plate_stage = marked_planned _ (Memᴰ.tail (Memᴰ.tail (Memᴰ.tail (Memᴰ.head refl))))

plate_exposed : CaseHolds (case plate (place 2 1) (says 2 2 1))
plate_exposed =
    marked_planned _ (Memᴰ.tail (Memᴰ.tail (Memᴰ.tail (Memᴰ.tail (Memᴰ.tail (Memᴰ.tail (Memᴰ.tail
    (Memᴰ.head refl))))))))

-- the plays in which the lift has succeeded, and then the shutter
abbrev pub lifted : Play Place
lifted = then (begin (place 0 0)) 0 (place 1 0)

abbrev pub exposed : Play Place
exposed = then lifted 1 (place 2 1)

module _ {before after : List ℕ} (done : Planning plate before (only 0) after) (σ τ : Way Plate)
    (follows : Follows Plate (entry_of plate after) σ (begin (place 0 0)))
    (waits : Follows Plate (lazy (entry_of plate after)) τ (begin (place 0 0))) where
  pub plate_lazy_bettered : Better Plate σ τ (begin (place 0 0))
  plate_lazy_bettered =
      lazy_bettered done (begin (place 0 0)) plate_start.inside σ follows
      (ap (λ (x : Entry). x.value) (plate_start.there before after done)) τ waits

  -- the action that the plan names at a place where the goal is not met
  takes : (h : Play Place) → Follows Plate (entry_of plate after) σ h → Unmet Plate (last h) → (v a n : ℕ) → eqb a 255 ≡ false
      → entry_of plate after (last h) ≡ says v a n → σ.choose h ≡ act a
  takes h f u v a n z e =
      let (o, b) = some_obeys Plate σ h in
      f o b 0 u ∙ subst (λ (x : Entry). cond (eqb x.action 255) stop (act x.action) ≡ act a) (sym e) (rw z)

  -- Against every behaviour by which the first lift and the first exposure succeed, whatever else it picks, the plan meets the goal, and
  -- whoever waits does not.
  pub plate_works : (v : Behaviour Plate) → v.picks (begin (place 0 0)) 0 ≡ place 1 0 → v.picks lifted 1 ≡ place 2 1
      → Meets Plate σ v (begin (place 0 0)) × (Meets Plate τ v (begin (place 0 0)) → ⊥)
  plate_works v lifts exposes = (meets, missed)
    where
      c : σ.choose (begin (place 0 0)) ≡ act 0
      c = takes (begin (place 0 0)) follows refl 1 0 2 refl (plate_start.there before after done)

      on_stage : Follows Plate (entry_of plate after) σ lifted
      on_stage =
          follows_then Plate (entry_of plate after) σ (begin (place 0 0)) follows refl c
          (subst (Listed Plate (place 0 0) 0) lifts (v.listed (begin (place 0 0)) 0 (place 1 0, Memᴰ.head refl)))

      c' : σ.choose lifted ≡ act 1
      c' = takes lifted on_stage refl 1 1 1 refl (plate_stage.there before after done)

      met : Meets Plate σ v exposed
      met =
          winning_worth done exposed plate_exposed.inside σ
          (follows_then Plate (entry_of plate after) σ lifted on_stage refl c'
          (subst (Listed Plate (place 1 0) 1) exposes (v.listed lifted 1 (place 1 0, Memᴰ.head refl))))
          (ap (λ (x : Entry). x.value) (plate_exposed.there before after done)) v

      meets : Meets Plate σ v (begin (place 0 0))
      meets =
          meets_on Plate σ v (begin (place 0 0)) 0 refl c
          (subst (λ (t : Place). Meets Plate σ v (then (begin (place 0 0)) 0 t)) (sym lifts)
          (meets_on Plate σ v lifted 1 refl c' (subst (λ (t : Place). Meets Plate σ v (then lifted 1 t)) (sym exposes) met)))

      missed : Meets Plate τ v (begin (place 0 0)) → ⊥
      missed m =
          let (o, b) = some_obeys Plate τ (begin (place 0 0)) in
          let s : τ.choose (begin (place 0 0)) ≡ stop =
          waits o b 0 refl
          ∙ ap (λ (x : Entry). let y = lazy (λ (p : Place). x) (place 0 0) in cond (eqb y.action 255) stop (act y.action))
          (plate_start.there before after done) in
          true≢false (sym m.1 ∙ ap (λ (k : Play Place). Plate.accepted (last k)) (stopped Plate τ v (begin (place 0 0)) s m.0))

-- There is such a behaviour: the one that helps wherever it can.
abbrev kind : Behaviour Plate
kind = helping Plate (arena_lawful plate plate_start.keeps)

is_at : Place → ℕ → ℕ → Bool
is_at p x y = eqb p.state x && eqb p.goal y

at_place : (p : Place) (x y : ℕ) → is_at p x y ≡ true → p ≡ place x y
unfolding is_at
at_place p x y e = let (s, q) = (and_iff (eqb_iff p.state x) (eqb_iff p.goal y)).0 e in ap₂ place s q

lift_helped : is_at (kind.picks (begin (place 0 0)) 0) 1 0 ≡ true
unfolding is_at helping help lead lowest win hope every some sure
lift_helped = refl

exposure_helped : is_at (kind.picks lifted 1) 2 1 ≡ true
unfolding is_at helping help lead lowest win hope every some sure
exposure_helped = refl

pub plate_helped : (v : Behaviour Plate) × (v.picks (begin (place 0 0)) 0 ≡ place 1 0) × (v.picks lifted 1 ≡ place 2 1)
plate_helped =
    (kind, at_place (kind.picks (begin (place 0 0)) 0) 1 0 lift_helped, at_place (kind.picks lifted 1) 2 1 exposure_helped)

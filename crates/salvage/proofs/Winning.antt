-- A place that is winning after salvage is winning, with a number no larger, in every job that keeps the rules and all else, and gives the
-- removed pairs any outcomes or none.
use Prim.Native.Nat.{ℕ, ◌≤◌, ◌<◌}
use mathlib.Core.Bool.{true, not, ◌&&◌}
use mathlib.Core.List.{List}
use mathlib.Core.Path.{◌≡◌, refl, sym, ◌∙◌, ap, ap₂, subst}
use native.Mathlib.Omega.{arith}
use Rattle.game.specs.Game.{Inside, Listed, Open, Accepted, Winning, WinsIn}
use Rattle.game.proofs.Search.{least_unique}
use Rattle.game.proofs.Hopes.{wins_winning}
use Rattle.game.proofs.Grown.{Grown, winning_grown, wins_grown}
use Rattle.game.proofs.Following.{right_allowed, says_wins}
use Rattle.game.proofs.Demands.{value_told}
use Rattle.rules.specs.Job.{Job, place, entered, recorded, arena}
use Rattle.rules.specs.Bytes.{said}
use Rattle.rules.specs.Fault.{Fault}
use Rattle.rules.specs.Keeps.{KeepsBut, Keeps}
use Rattle.rules.specs.Calls.{Planning}
use Rattle.rules.specs.declared.place.Place.{Place}
use Rattle.rules.proofs.Planned.{entry_of, planned_right}
use Rattle.rules.proofs.Arenas.{inside_iff, recorded_iff, is_record_iff, leads_iff, arena_lawful}
use Rattle.salvage.specs.Mended.{KeepsRest}
use Rattle.salvage.specs.Salvage.{salvaged}
use Rattle.salvage.proofs.Bodies.{salvaged_says, width_same}
use Rattle.salvage.proofs.Kept.{salvaged_keeps, recorded_kept, recorded_good}

-- an outcome is listed where some record has the state, the action and it
led_iff : (j : Job) (p u : Place) (a : ℕ) → (Listed (arena j) p a u → (t : ℕ) × (recorded j p.state a t ≡ true) × (u ≡ entered j p.goal t))
    × ((t : ℕ) → recorded j p.state a t ≡ true → Listed (arena j) p a (entered j p.goal t))
led_iff j p u a = (
  λ m.
      let (k, h, f, e) = (leads_iff j p u a).0 m in
      let t = (j.move k).outcome in
      (t, (recorded_iff j p.state a t).1 (k, h, (is_record_iff (j.move k) p.state a t).1 (f, refl)), e),
  λ t r.
      let (k, h, x) = (recorded_iff j p.state a t).0 r in
      let (f, q) = (is_record_iff (j.move k) p.state a t).0 x in
      (leads_iff j p (entered j p.goal t) a).1 (k, h, f, ap (entered j p.goal) (sym q)),
)

module _ {b : List ℕ} (k : KeepsBut true b) (d : List ℕ) (kd : Keeps d) (r : KeepsRest (said b) (said d)) where
  kc : Keeps (salvaged b)
  kc = salvaged_keeps k

  grown : Grown (arena (said (salvaged b))) (arena (said d)) (λ p. p)
  grown = record { accepted = accepted; still_open = still_open; no_more = no_more }
    where
      -- a place inside, by the counts of b
      within : (p : Place) → Inside (arena (said (salvaged b))) p → (p.state < (said b).states) × (p.goal < (said b).goals)
      within p i =
          let (h, l) = (inside_iff (said (salvaged b)) p).0 i in
          let s = salvaged_says k in
          (omega (arith, s.states), omega (arith, s.goals))

      accepted : (p : Place) → Inside (arena (said (salvaged b))) p → Accepted (arena (said (salvaged b))) p → Accepted (arena (said d)) p
      accepted p i y =
          let s = salvaged_says k in
          let (h, l) = (inside_iff (said (salvaged b)) p).0 i in
          let (h', l') = within p i in
          let final = r.final p.goal l' ∙ sym (s.final p.goal l) in
          let busy = r.busy p.state h' ∙ sym (s.busy p.state h) in
          ap₂ (λ x z. x && not z) final busy ∙ y

      -- a pair that is open has the same outcomes in both
      outcomes : (s a t u : ℕ) → recorded (said (salvaged b)) s a u ≡ true → recorded (said d) s a t ≡ recorded (said (salvaged b)) s a t
      outcomes s a t u y =
          let z = recorded_good k s a u y in
          r.outcomes s a t z ∙ sym (recorded_kept k s a t z)

      same_entered : (q t : ℕ) → q < (said b).goals → t < (said b).states → entered (said d) q t ≡ entered (said (salvaged b)) q t
      same_entered q t hq ht =
          let s = salvaged_says k in
          let hs : t < (said (salvaged b)).states = omega (arith, s.states) in
          let hg : q < (said (salvaged b)).goals = omega (arith, s.goals) in
          let l = r.label t ht in
          let w = k.label_below t ht in
          let l' = s.label t hs in
          let n = r.next q ((said b).label t) hq w in
          let w' = subst (λ (x : ℕ). (said b).label t < x) (sym (width_same k)) w in
          let n' = s.next q ((said b).label t) hg w' in
          ap (place t) (ap ((said d).next q) l ∙ n ∙ sym n' ∙ ap ((said (salvaged b)).next q) (sym l'))

      below : (s a t : ℕ) → recorded (said (salvaged b)) s a t ≡ true → t < (said b).states
      below s a t y =
          let (i, h, x) = (recorded_iff (said (salvaged b)) s a t).0 y in
          let o = kc.outcome_below i h in
          let e = ((is_record_iff ((said (salvaged b)).move i) s a t).0 x).1 in
          omega (arith, (salvaged_says k).states, o, e)

      still_open : (p : Place) (a : ℕ) → Inside (arena (said (salvaged b))) p → Open (arena (said (salvaged b))) p a → Open (arena (said d)) p a
      still_open p a i (u, m) =
          let (t, y, q) = (led_iff (said (salvaged b)) p u a).0 m in
          (entered (said d) p.goal t, (led_iff (said d) p u a).1 t (outcomes p.state a t t y ∙ y))

      no_more : (p u : Place) (a : ℕ) → Inside (arena (said (salvaged b))) p → Open (arena (said (salvaged b))) p a
          → Listed (arena (said d)) p a u → (t : Place) × Listed (arena (said (salvaged b))) p a t × (t ≡ u)
      no_more p u a i (v, m) l =
          let (o, y, q) = (led_iff (said (salvaged b)) p v a).0 m in
          let (t, x, z) = (led_iff (said d) p u a).0 l in
          let y' = sym (outcomes p.state a t o y) ∙ x in (
            entered (said (salvaged b)) p.goal t,
            (led_iff (said (salvaged b)) p u a).1 t y',
            sym (same_entered p.goal t (within p i).1 (below p.state a t y')) ∙ sym z,
          )

  module _ (p : Place) (i : Inside (arena (said (salvaged b))) p) where
    pub salvage_winning : Winning (arena (said (salvaged b))) p → Winning (arena (said d)) p
    salvage_winning =
        winning_grown (arena (said (salvaged b))) (arena (said d)) (arena_lawful (salvaged b) kc) (arena_lawful d kd) (λ p. p) grown p i

    pub salvage_wins : (n : ℕ) → WinsIn (arena (said (salvaged b))) p n → (m : ℕ) × WinsIn (arena (said d)) p m × (m ≤ n)
    salvage_wins n =
        wins_grown (arena (said (salvaged b))) (arena (said d)) (arena_lawful (salvaged b) kc) (arena_lawful d kd) (λ p. p) grown n p i

  -- So it is with the plans of both: where the plan after salvage says winning, the other plan does, with a number no larger.
  pub salvage_planned : {before after before' after' : List ℕ} {f f' : Fault} → Planning (salvaged b) before f after → f.number ≡ 0
      → Planning d before' f' after' → f'.number ≡ 0 → (p : Place) → Inside (arena (said (salvaged b))) p
      → (entry_of (salvaged b) after p).value ≡ 2
      → ((entry_of d after' p).value ≡ 2) × ((entry_of d after' p).number ≤ (entry_of (salvaged b) after p).number)
  salvage_planned {after = after} {after' = after'} y z y' z' p i e =
      let G = arena (said (salvaged b)) in
      let H = arena (said d) in
      let s = salvaged_says k in
      let (hs, hq) = (inside_iff (said (salvaged b)) p).0 i in
      let i' : Inside H p = (inside_iff (said d) p).1 (omega (arith, s.states, r.states), omega (arith, s.goals, r.goals)) in
      let o = right_allowed G (planned_right y z p i) in
      let o' = right_allowed H (planned_right y' z' p i') in
      let (m, w, l) = salvage_wins p i (entry_of (salvaged b) after p).number (says_wins G (arena_lawful (salvaged b) kc) p o e) in
      let e' = (value_told H (arena_lawful d kd) o').winning.1 (wins_winning H (arena_lawful d kd) m p w) in
      let n : (entry_of d after' p).number ≡ m = least_unique (says_wins H (arena_lawful d kd) p o' e') w in
      (e', omega (arith, n, l))

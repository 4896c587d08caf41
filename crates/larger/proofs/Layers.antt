-- The plans for slips of the arm, in bytes: one content only; without slips they are today's plan; a slip fewer never hurts.
use Prim.Native.Nat.{ℕ, zero, suc, ◌+◌, ◌*◌, ◌≤◌, ◌<◌, zero-le}
use mathlib.Core.List.{List}
use mathlib.Core.Logic.{◌↔◌}
use mathlib.Core.Path.{◌≡◌, sym, ◌∙◌, subst}
use native.Mathlib.Nat.{one-mul, zero-mul, zero-add}
use native.Mathlib.Omega.{arith}
use lib.Arith.{digits_lt}
use Rattle.game.specs.Game.{Inside, Lawful, Right}
use Rattle.rules.specs.Job.{Job, place, places, entry_number, arena}
use Rattle.rules.specs.Plan.{entry, Plan}
use Rattle.rules.specs.declared.place.Place.{Place}
use Rattle.game.proofs.Search.{least_unique}
use Rattle.game.proofs.Right.{right_unique}
use Rattle.game.proofs.Hopes.{wins_winning}
use Rattle.game.proofs.Following.{right_allowed, says_wins}
use Rattle.game.proofs.Demands.{value_told}
use Rattle.rules.proofs.Arenas.{inside_iff}
use Rattle.rules.proofs.Rows.{rows_iff}
use Rattle.rules.proofs.Plans.{same_plan, some_goals}
use Rattle.larger.specs.Larger.{Larger, larger}
use Rattle.larger.specs.Plans.{larger_arena, larger_number, larger_places, LargerPlan}
use Rattle.larger.proofs.Slipping.{inside_slipping, slipping_lawful, right_today, wins_fewer}

module _ (j : Job) (L : Lawful (arena j)) where
  -- Each larger place has an entry of its own below the count of larger places, and each such number is one's.
  pub number_below : (K : ℕ) (x : Larger Place) → Inside (larger_arena j K) x → larger_number j x < larger_places j K
  number_below K x i =
      let (h, k) = (inside_slipping (arena j) K x).0 i in
      let (hs, hq) = (inside_iff j x.at).0 h in
      digits_lt (let l : x.slips < suc K = omega arith in l) (let l : entry_number j.goals x.at < places j = digits_lt hs hq in l)

  pub each_larger : (P : ℕ → Type 0) (K : ℕ)
      → ((k s q : ℕ) → k ≤ K → s < j.states → q < j.goals → P (larger_number j (larger k (place s q))))
      → (i : ℕ) → i < larger_places j K → P i
  each_larger P K h i l =
      (rows_iff P (suc K) (places j) (some_goals (suc K) (places j) i l)).1
      (λ k r hk hr.
      (rows_iff (λ r. P (k * places j + r)) j.states j.goals (some_goals j.states j.goals r hr)).1
      (λ s q hs hq. h k s q (omega arith) hs hq) r hr)
      i l

  pub larger_unique : (K : ℕ) {p p' : List ℕ} → LargerPlan j K p → LargerPlan j K p' → p ≡ p'
  larger_unique K {p} {p'} a b =
      same_plan (larger_places j K) a.long b.long a.bytes b.bytes
      (each_larger (λ i. entry p i ≡ entry p' i) K (λ k s q hk hs hq.
      right_unique (larger_arena j K) (slipping_lawful (arena j) L K) (a.right k s q hk hs hq) (b.right k s q hk hs hq)))

  -- ---- no slips

  pub larger_today : (p : List ℕ) → LargerPlan j 0 p ↔ Plan j p
  larger_today p = (
    λ a. record { long = a.long ∙ rw (one-mul (places j)); bytes = a.bytes; right = λ s q hs hq. to s q hs hq (a.right 0 s q zero-le hs hq) },
    λ a. record { long = a.long ∙ rw (one-mul (places j)); bytes = a.bytes; right = λ k s q hk hs hq. from k s q hk hs hq (a.right s q hs hq) },
  )
    where
      inside : (s q : ℕ) → s < j.states → q < j.goals → Inside (arena j) (place s q)
      inside s q hs hq = (inside_iff j (place s q)).1 (hs, hq)

      first : (s q : ℕ) → larger_number j (larger 0 (place s q)) ≡ entry_number j.goals (place s q)
      first s q = rw (zero-mul (places j)) (zero-add _)

      to : (s q : ℕ) → s < j.states → q < j.goals
          → Right (larger_arena j 0) (larger 0 (place s q)) (entry p (larger_number j (larger 0 (place s q))))
          → Right (arena j) (place s q) (entry p (entry_number j.goals (place s q)))
      to s q hs hq r =
          (right_today (arena j) L 0 (place s q) (inside s q hs hq) (entry p (entry_number j.goals (place s q)))).0
          (subst (λ i. Right (larger_arena j 0) (larger 0 (place s q)) (entry p i)) (first s q) r)

      from : (k s q : ℕ) → k ≤ 0 → s < j.states → q < j.goals → Right (arena j) (place s q) (entry p (entry_number j.goals (place s q)))
          → Right (larger_arena j 0) (larger k (place s q)) (entry p (larger_number j (larger k (place s q))))
      from zero s q hk hs hq r =
          subst (λ i. Right (larger_arena j 0) (larger 0 (place s q)) (entry p i)) (sym (first s q))
          ((right_today (arena j) L 0 (place s q) (inside s q hs hq) (entry p (entry_number j.goals (place s q)))).1 r)
      from (suc k) s q hk hs hq r = absurd (omega arith)

  -- and in every plan with slips the first entries, without slips, say what today's plan says
  pub larger_first : (K : ℕ) {p : List ℕ} → LargerPlan j K p → (s q : ℕ) → s < j.states → q < j.goals
      → Right (arena j) (place s q) (entry p (entry_number j.goals (place s q)))
  larger_first K {p} a s q hs hq =
      let first : larger_number j (larger 0 (place s q)) ≡ entry_number j.goals (place s q) = rw (zero-mul (places j)) (zero-add _) in
      (right_today (arena j) L K (place s q) ((inside_iff j (place s q)).1 (hs, hq)) (entry p (entry_number j.goals (place s q)))).0
      (subst (λ i. Right (larger_arena j K) (larger 0 (place s q)) (entry p i)) first (a.right 0 s q zero-le hs hq))

  -- ---- a slip fewer

  -- In a plan: where an entry with one more slip is winning, so is the one without it, and its number is no larger.
  pub fewer_slips : (K : ℕ) {p : List ℕ} → LargerPlan j K p → (k s q : ℕ) → suc k ≤ K → s < j.states → q < j.goals
      → (entry p (larger_number j (larger (suc k) (place s q)))).value ≡ 2
      → ((entry p (larger_number j (larger k (place s q)))).value ≡ 2)
      × ((entry p (larger_number j (larger k (place s q)))).number ≤ (entry p (larger_number j (larger (suc k) (place s q)))).number)
  fewer_slips K {p} a k s q hk hs hq v =
      let H = larger_arena j K in
      let LH = slipping_lawful (arena j) L K in
      let r = a.right k s q (omega arith) hs hq in
      let w = wins_fewer (arena j) L K _ k (place s q) (says_wins H LH (larger (suc k) (place s q)) (right_allowed H (a.right (suc k) s q hk hs hq)) v) in
      let t = (value_told H LH (right_allowed H r)).winning.1 (wins_winning H LH w.0 (larger k (place s q)) w.1) in
      let n : (entry p (larger_number j (larger k (place s q)))).number ≡ w.0 =
      least_unique (says_wins H LH (larger k (place s q)) (right_allowed H r) t) w.1 in
      let l = w.2 in
      (t, omega arith)

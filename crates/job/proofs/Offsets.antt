-- Where asking reads: each offset lies inside the job, and what stands there is what the job says.
use Prim.Native.Nat.{ℕ, ◌+◌, ◌-◌, ◌*◌, ◌%◌, ◌^◌, ◌≤◌, ◌<◌}
use mathlib.Core.Bool.{Bool}
use mathlib.Core.List.{List}
use mathlib.Core.Path.{◌≡◌, sym, subst, ◌∙◌}
use native.Mathlib.Nat.{mod-eq_of_lt}
use native.Mathlib.Omega.{arith}
use lib.Dec.{eqb}
use lib.ListN.{length, get_or}
use lib.Pow.{mod-mod-pow}
use Rattle.sets.specs.Sets.{bit}
use Rattle.rules.specs.Job.{entered}
use Rattle.rules.specs.Bytes.{byte, is_tall, said}
use Rattle.rules.specs.declared.place.Move.{Move}
use Rattle.rules.proofs.Kept as kept
use Rattle.job.specs.Forms.{in_rules}
use Rattle.job.proofs.Named.{named_back}
use Rattle.job.specs.Layout.{Fit, FitBut}
use Rattle.job.specs.declared.layout.Layout.{Layout}
use Rattle.job.proofs.Asking.{states_said, goals_said}
use Rattle.job.proofs.Laying.{record_inside}

-- the part of n below the mark, where it is below 2^p, is the part of n below 2^p
mod_below : (n : ℕ) {p : ℕ} → p ≤ 6 → n % 128 < 2 ^ p → n % 2 ^ p ≡ n % 128
mod_below n {p} h l =
    let e : 7 - p + p ≡ 7 = omega arith in
    sym (subst (λ (k : ℕ). n % 2 ^ k % 2 ^ p ≡ n % 2 ^ p) e (mod-mod-pow n (7 - p) p)) ∙ mod-eq_of_lt l

module _ {b : List ℕ} {l : Layout} (f : Fit b l) where
  pub label_inside : {s : ℕ} → s < l.states → l.labels_at + s < length b
  label_inside h = rw f.is_layout (omega (arith, kept.labels_end f.keeps, states_said f))

  -- below 2^P it has nothing to mask away but the mark
  pub label_masked : {s r : ℕ} → s < l.states → r ≡ get_or b (l.labels_at + s) 0 % 2 ^ l.propositions → r ≡ (said b).label s
  label_masked {s} h e =
      (rw f.is_layout at e)
      ∙ mod_below (byte b 1 s) f.keeps.few_propositions (f.keeps.label_below s (rw (states_said f) at h))

  pub busy_value : (s : ℕ) {r : Bool} → r ≡ bit (get_or b (l.labels_at + s) 0) 7 → r ≡ (said b).busy s
  busy_value s e = rw f.is_layout at e

  -- w is how many labels there are, and x the label of state t
  module _ {q t w x : ℕ} (h : q < l.goals) (g : t < l.states) (e : w ≡ 2 ^ l.propositions) (d : x ≡ (said b).label t) where
    pub next_inside : l.goal_at + (q * w + x) < length b
    next_inside =
        rw (e, d, f.is_layout)
        (kept.next_inside f.keeps (rw (goals_said f) at h) (f.keeps.label_below t (rw (states_said f) at g)))

    pub next_value : {r : ℕ} → r ≡ get_or b (l.goal_at + (q * w + x)) 0 → r ≡ (entered (said b) q t).goal
    next_value y = rw (e, d, f.is_layout) at y

  module _ {q w : ℕ} (h : q < l.goals) (e : w ≡ 2 ^ l.propositions) where
    pub mark_inside : l.goal_at + (l.goals * w + q) < length b
    mark_inside = rw (e, f.is_layout) (omega (arith, kept.goal_end f.keeps, goals_said f))

    pub mark_value : {r : ℕ} → r ≡ get_or b (l.goal_at + (l.goals * w + q)) 0 → eqb r 1 ≡ (said b).final q
    mark_value y = let z = rw (e, f.is_layout) at y in rw z

-- ---- the records, whatever their outcomes

module _ {forgive : Bool} {b : List ℕ} {l : Layout} (f : FitBut forgive b l) where
  pub move_inside : {k : ℕ} → k < l.records
      → l.moves_at + (in_rules l.form).record_size * k + (in_rules l.form).record_size ≤ length b
  move_inside h = record_inside l.form l.moves_at h (rw (f.is_layout, named_back (is_tall b)) (kept.moves_end f.keeps))

  pub move_value : (k : ℕ) {m : Move}
      → m ≡ (in_rules l.form).record_at b (l.moves_at + (in_rules l.form).record_size * k) → m ≡ (said b).move k
  move_value k e = rw (f.is_layout, named_back (is_tall b)) at e

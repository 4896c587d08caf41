-- The bytes that no number refuses are those that keep the rules; and the laws of such bytes, so that nothing after has to open them.
use Prim.Native.Nat.{ℕ, ◌+◌, ◌*◌, ◌≤◌, ◌<◌}
use mathlib.Core.Bool.{Bool, false}
use mathlib.Core.List.{List}
use mathlib.Core.Logic.{⊎_elim, ◌↔◌}
use mathlib.Core.Path.{◌≡◌, sym}
use native.Mathlib.Nat.{le_refl, le_trans, mul-le-mul, eq-or-lt_of_le}
use native.Mathlib.Omega.{arith}
use lib.ListN.{length}
use lib.Arith.{digits_lt}
use lib.Pow.{pow_mono}
use Rattle.rules.specs.Job.{places}
use Rattle.rules.specs.Bytes.{offset, size, is_tall, form, width, said, refusal, refusal_but}
use Rattle.rules.specs.Keeps.{KeepsBut, Keeps}
use Rattle.rules.proofs.Order.{before_state, before_differ}
use Rattle.rules.proofs.Forms.{states_most, records_most, counts_sized, longest, longest_most}
use Rattle.rules.proofs.Judged.{contents_iff, counts_iff, labels_iff, whole_iff, records_iff, goal_iff}
use Rattle.rules.proofs.Numbers.{refusal_0}
use Rattle.sets.specs.Sets.{set_room}

pub kept_but : (forgive : Bool) (b : List ℕ) → (refusal_but forgive b ≡ 0) ↔ KeepsBut forgive b
kept_but forgive b = (into, back)
  where
    into : refusal_but forgive b ≡ 0 → KeepsBut forgive b
    into e =
        let (a, (c, (n, (l, (w, (r, g)))))) = (refusal_0 forgive b).0 e in
        let (c0, (c1, (c2, (c3, (c4, c5))))) = (contents_iff b).0 c in
        let (n0, (n1, (n2, (n3, (n4, (n5, (n6, (n7, n8)))))))) = (counts_iff b).0 n in
        let (l0, l1) = (labels_iff b).0 l in
        let (m0, m1) = (whole_iff b).0 w in
        let (m2, m3) = (records_iff forgive (said b)).0 r in
        let (g0, (g1, g2)) = (goal_iff b).0 g in
        record {
          contents_long = a;
          counts_at = c0;
          labels_at = c1;
          moves_at = c2;
          goal_at = c3;
          ends = c4;
          counts_long = c5;
          some_states = n0;
          few_states = n1;
          some_actions = n2;
          few_actions = n3;
          few_propositions = n4;
          some_goals = n5;
          few_goals = n6;
          first_state = n7;
          first_goal_state = n8;
          labels_long = l0;
          label_below = l1;
          moves_long = m0;
          few_records = m1;
          state_below = λ k h. (m2 k h).0;
          action_below = λ k h. (m2 k h).1.0;
          outcome_below = λ k h. (m2 k h).1.1;
          ascending = m3;
          goal_long = g0;
          next_below = g1;
          mark_range = g2;
        }

    back : KeepsBut forgive b → refusal_but forgive b ≡ 0
    back k =
        let c = (contents_iff b).1 (k.counts_at, (k.labels_at, (k.moves_at, (k.goal_at, (k.ends, k.counts_long))))) in
        let n = (counts_iff b).1 (omega arith) in
        let l = (labels_iff b).1 (k.labels_long, k.label_below) in
        let w = (whole_iff b).1 (k.moves_long, k.few_records) in
        let r = (records_iff forgive (said b)).1 (λ i h. (k.state_below i h, (k.action_below i h, k.outcome_below i h)), k.ascending) in
        let g = (goal_iff b).1 (k.goal_long, (k.next_below, k.mark_range)) in
        (refusal_0 forgive b).1 (k.contents_long, (c, (n, (l, (w, (r, g))))))

pub kept : (b : List ℕ) → (refusal b ≡ 0) ↔ Keeps b
kept = kept_but false

-- ---- laws of bytes that keep the rules

module _ {forgive : Bool} {b : List ℕ} (k : KeepsBut forgive b) where
  pub sorted : (i m : ℕ) → i ≤ m → m < (said b).records → ((said b).move i).state ≤ ((said b).move m).state
  sorted i m h l = ⊎_elim (λ (e : i ≡ m). rw e (omega arith)) (λ (g : i < m). before_state (k.ascending i m g l)) (eq-or-lt_of_le h)

  -- no two records are the same
  pub distinct : (i m : ℕ) → i < (said b).records → m < (said b).records → ((said b).move i).state ≡ ((said b).move m).state
      → ((said b).move i).action ≡ ((said b).move m).action → ((said b).move i).outcome ≡ ((said b).move m).outcome → i ≡ m
  distinct i m h l s a t =
      let no_less : ¬ (i < m) = λ g. before_differ (k.ascending i m g l) s a t in
      let no_more : ¬ (m < i) = λ g. before_differ (k.ascending m i g h) (sym s) (sym a) (sym t) in
      omega arith

  -- ---- how much of everything there is at most, in either form

  pub states_few : (said b).states ≤ 512
  states_few = le_trans k.few_states (states_most (is_tall b))

  pub records_few : (said b).records ≤ 8192
  records_few = le_trans k.few_records (records_most (is_tall b))

  pub labels_end : offset b 1 + (said b).states ≤ length b
  labels_end = omega arith

  pub moves_end : offset b 2 + (form b).record_size * (said b).records ≤ length b
  moves_end = omega arith

  pub goal_end : offset b 3 + ((said b).goals * width b + (said b).goals) ≤ length b
  goal_end = omega arith

  pub next_inside : {q l : ℕ} → q < (said b).goals → l < width b → offset b 3 + (q * width b + l) < length b
  next_inside h g = omega (arith, digits_lt h g, goal_end)

  pub places_few : places (said b) ≤ set_room
  places_few = mul-le-mul states_few k.few_goals

  pub width_few : width b ≤ 64
  width_few = pow_mono k.few_propositions

  -- the longest job of each form
  pub length_few : length b ≤ longest (is_tall b)
  length_few =
      let records = mul-le-mul (le_refl (form b).record_size) k.few_records in
      omega (arith, counts_sized (size b 0) k.counts_long, records, mul-le-mul k.few_goals width_few)

  -- and of either
  pub length_most : length b ≤ 43576
  length_most = le_trans length_few (longest_most (is_tall b))

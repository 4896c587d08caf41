-- The salvaged job keeps the rules, and it is one of the jobs that keep all else.
use Prim.Native.Nat.{ℕ, ◌+◌, ◌*◌, ◌≤◌, ◌<◌}
use mathlib.Core.Bool.{Bool, true, false, not}
use mathlib.Core.List.{List}
use mathlib.Core.Path.{◌≡◌, refl, sym, ◌∙◌, ap, ap₂, subst, subst₂}
use native.Mathlib.Nat.{lt_of_not-le}
use native.Mathlib.Omega.{arith}
use borrow.Author.Tests.{not-true}
use Rattle.sets.specs.Sets.{count}
use Rattle.game.proofs.Tests.{same_test}
use Rattle.rules.specs.Form.{form_of}
use Rattle.rules.specs.Job.{is_record, recorded}
use Rattle.rules.specs.Bytes.{form, said}
use Rattle.rules.specs.Keeps.{Before, KeepsBut, Keeps}
use Rattle.rules.specs.declared.place.Move.{Move}
use Rattle.rules.proofs.Arenas.{recorded_iff, is_record_iff, is_from_iff}
use Rattle.salvage.specs.Mended.{bad_pair, stays, KeepsRest}
use Rattle.salvage.specs.Salvage.{salvaged}
use Rattle.salvage.proofs.Keeping.{count_up, count_passing}
use Rattle.salvage.proofs.Mending.{stays_below}
use Rattle.salvage.proofs.Bodies.{many_few, labels_at, moves_at, goal_at, counts_size, labels_size, moves_size, goal_size}
use Rattle.salvage.proofs.Bodies.{salvaged_length, same_form, width_same, mark_same, records_many, record_kept, record_of, salvaged_says}

module _ {b : List ℕ} (k : KeepsBut true b) where
  pub salvaged_keeps : Keeps (salvaged b)
  salvaged_keeps =
      let s = salvaged_says k in
      record {
        contents_long = omega (arith, salvaged_length k, k.counts_at, k.labels_at, k.moves_at);
        counts_at = refl;
        labels_at = omega (arith, labels_at k, counts_size k, k.labels_at, k.counts_at);
        moves_at = omega (arith, moves_at k, labels_at k, labels_size k, k.moves_at);
        goal_at = omega (arith, goal_at k, moves_at k, moves_size k);
        ends = omega (arith, salvaged_length k, goal_at k, goal_size k);
        counts_long = rw (counts_size k) k.counts_long;
        some_states = rw s.states k.some_states;
        few_states = subst₂ (λ (n : ℕ) (t : Bool). n ≤ (form_of t).most_states) (sym s.states) (sym (same_form k)) k.few_states;
        some_actions = rw s.actions k.some_actions;
        few_actions = rw s.actions k.few_actions;
        few_propositions = rw s.propositions k.few_propositions;
        some_goals = rw s.goals k.some_goals;
        few_goals = rw s.goals k.few_goals;
        first_state = subst₂ ◌<◌ (sym s.first) (sym s.states) k.first_state;
        first_goal_state = subst₂ ◌<◌ (sym s.first_goal) (sym s.goals) k.first_goal_state;
        labels_long = labels_size k ∙ k.labels_long ∙ sym s.states;
        label_below = λ x h.
            let l : x < (said b).states = omega (arith, s.states) in
            subst₂ ◌<◌ (sym (s.label x h)) (sym (width_same k)) (k.label_below x l);
        moves_long =
            moves_size k ∙ ap₂ (λ (t : Bool) (n : ℕ). (form_of t).record_size * n) (sym (same_form k)) (sym (records_many k));
        few_records =
            let few : (said (salvaged b)).records ≤ (form b).most_records = omega (arith, records_many k, many_few k, k.few_records) in
            subst (λ (t : Bool). (said (salvaged b)).records ≤ (form_of t).most_records) (sym (same_form k)) few;
        state_below = λ x h.
            let (i, l, y, e, m) = record_of k x h in
            subst₂ ◌<◌ (sym (ap (λ (t : Move). t.state) m)) (sym s.states) (k.state_below i l);
        action_below = λ x h.
            let (i, l, y, e, m) = record_of k x h in
            subst₂ ◌<◌ (sym (ap (λ (t : Move). t.action) m)) (sym s.actions) (k.action_below i l);
        outcome_below = λ x h.
            let (i, l, y, e, m) = record_of k x h in
            subst₂ ◌<◌ (sym (ap (λ (t : Move). t.outcome) m)) (sym s.states) (stays_below (said b) i l y);
        ascending = λ x y d h.
            let (i, l, z, e, m) = record_of k x (omega arith) in
            let (i', l', z', e', m') = record_of k y h in
            let later : i' ≤ i → count (stays (said b)) i' ≤ count (stays (said b)) i = count_up (stays (said b)) i' i in
            subst₂ Before (sym m) (sym m') (k.ascending i i' (lt_of_not-le (λ g. let u = later g in omega arith)) l');
        goal_long = goal_size k ∙ k.goal_long ∙ sym (ap₂ (λ (g w : ℕ). g * w + g) s.goals (width_same k));
        next_below = λ q l h g.
            subst₂ ◌<◌ (sym (s.next q l h g)) (sym s.goals)
            (k.next_below q l (omega (arith, s.goals)) (subst (λ (x : ℕ). l < x) (width_same k) g));
        mark_range = λ q h.
            let l : q < (said b).goals = omega (arith, s.goals) in
            subst (λ (x : ℕ). x ≤ 1) (sym (mark_same k q l)) (k.mark_range q l);
      }

  -- ---- a pair that stays has the records that it had, and one that does not has none

  pub recorded_kept : (s a t : ℕ) → bad_pair (said b) s a ≡ false → recorded (said (salvaged b)) s a t ≡ recorded (said b) s a t
  recorded_kept s a t z = same_test there back
    where
      there : recorded (said (salvaged b)) s a t ≡ true → recorded (said b) s a t ≡ true
      there r =
          let (x, h, y) = (recorded_iff (said (salvaged b)) s a t).0 r in
          let (i, l, g, e, m) = record_of k x h in
          (recorded_iff (said b) s a t).1 (i, l, subst (λ (v : Move). is_record v s a t ≡ true) m y)

      back : recorded (said b) s a t ≡ true → recorded (said (salvaged b)) s a t ≡ true
      back r =
          let (i, l, y) = (recorded_iff (said b) s a t).0 r in
          let (f, q) = (is_record_iff ((said b).move i) s a t).0 y in
          let (p, w) = (is_from_iff ((said b).move i) s a).0 f in
          let g : stays (said b) i ≡ true = ap not (ap₂ (bad_pair (said b)) p w ∙ z) in
          (recorded_iff (said (salvaged b)) s a t).1 (
            count (stays (said b)) i,
            omega (arith, records_many k, count_passing (stays (said b)) i (said b).records l g),
            subst (λ (v : Move). is_record v s a t ≡ true) (sym (record_kept k i l g)) y,
          )

  pub recorded_good : (s a t : ℕ) → recorded (said (salvaged b)) s a t ≡ true → bad_pair (said b) s a ≡ false
  recorded_good s a t r =
      let (x, h, y) = (recorded_iff (said (salvaged b)) s a t).0 r in
      let (i, l, g, e, m) = record_of k x h in
      let (f, q) = (is_record_iff ((said b).move i) s a t).0 (subst (λ (v : Move). is_record v s a t ≡ true) m y) in
      let (p, w) = (is_from_iff ((said b).move i) s a).0 f in
      sym (ap₂ (bad_pair (said b)) p w) ∙ not-true _ g

  -- the salvaged job is itself one of those that keep all else: it gives the removed pairs no outcomes
  pub rest_kept : KeepsRest (said b) (said (salvaged b))
  rest_kept =
      let s = salvaged_says k in
      record {
        states = s.states;
        actions = s.actions;
        propositions = s.propositions;
        goals = s.goals;
        first = s.first;
        first_goal = s.first_goal;
        label = λ x h. s.label x (omega (arith, s.states));
        busy = λ x h. s.busy x (omega (arith, s.states));
        next = λ q l h g. s.next q l (omega (arith, s.goals)) (subst (λ (x : ℕ). l < x) (sym (width_same k)) g);
        final = λ q h. s.final q (omega (arith, s.goals));
        outcomes = recorded_kept;
      }

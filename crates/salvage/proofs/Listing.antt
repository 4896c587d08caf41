-- The list of the removed pairs names every bad pair and no other, in order, each once.
use Prim.Native.Nat.{ℕ, ◌+◌, ◌*◌, ◌/◌, ◌%◌, ◌≤◌, ◌<◌}
use mathlib.Core.Bool.{true}
use mathlib.Core.List.{List}
use mathlib.Core.Logic.{◌⊎◌}
use mathlib.Core.Path.{◌≡◌, refl, sym, ◌∙◌, ap₂, subst, subst₂}
use native.Mathlib.Nat.{lt_of_not-le}
use native.Mathlib.Omega.{arith}
use lib.ListN.{length, get_or}
use Rattle.sets.specs.Sets.{count}
use Rattle.rules.specs.Form.{word}
use Rattle.rules.specs.Bytes.{said}
use Rattle.rules.specs.Keeps.{KeepsBut}
use Rattle.salvage.specs.Mended.{bad_pair, lists, PairsOf}
use Rattle.salvage.specs.Salvage.{pair_bytes, removed}
use Rattle.salvage.proofs.Keeping.{count_up, count_passing, nth_passing, gathered_length, gathered_at}
use Rattle.salvage.proofs.Mending.{bad_listed, listed_iff, listed_ascend}

module _ (b : List ℕ) where
  pub removed_length : length (removed b) ≡ 3 * count (lists (said b)) (said b).records
  removed_length = gathered_length (lists (said b)) (pair_bytes b) 3 (said b).records (λ i h. refl) (said b).records (omega arith)

  -- the pair of record i, if it lists one, is where as many are listed before it
  listed_at : (i : ℕ) → i < (said b).records → lists (said b) i ≡ true
      → (word (removed b) (3 * count (lists (said b)) i) ≡ ((said b).move i).state)
      × (get_or (removed b) (3 * count (lists (said b)) i + 2) 0 ≡ ((said b).move i).action)
  listed_at i h e =
      let x = count (lists (said b)) i in
      let at : (d : ℕ) → d < 3 → get_or (removed b) (3 * x + d) 0 ≡ get_or (pair_bytes b i) d 0 =
      λ d l. gathered_at (lists (said b)) (pair_bytes b) 3 (said b).records (λ i h. refl) (said b).records i d (omega arith) h e l in
      let z : 3 * x + 0 ≡ 3 * x = omega arith in
      let low : get_or (removed b) (3 * x) 0 ≡ ((said b).move i).state % 256 =
      subst (λ (y : ℕ). get_or (removed b) y 0 ≡ ((said b).move i).state % 256) z (at 0 (omega arith)) in
      let high : get_or (removed b) (3 * x + 1) 0 ≡ ((said b).move i).state / 256 = at 1 (omega arith) in
      (omega arith, at 2 (omega arith))

  -- the x-th pair is listed by some record
  listed_by : (x : ℕ) → x < count (lists (said b)) (said b).records
      → (i : ℕ) × (i < (said b).records) × (lists (said b) i ≡ true) × (count (lists (said b)) i ≡ x)
      × (word (removed b) (3 * x) ≡ ((said b).move i).state) × (get_or (removed b) (3 * x + 2) 0 ≡ ((said b).move i).action)
  listed_by x h =
      let (i, l, e, n) = nth_passing (lists (said b)) (said b).records x h in
      let (p, q) = subst (λ (y : ℕ). (word (removed b) (3 * y) ≡ ((said b).move i).state) × (get_or (removed b) (3 * y + 2) 0 ≡ ((said b).move i).action)) n
      (listed_at i l e) in
      (i, l, e, n, p, q)

  pub removed_pairs : KeepsBut true b → PairsOf (said b) (removed b)
  removed_pairs k =
      record {
        many = count (lists (said b)) (said b).records;
        three_each = removed_length;
        is_bad = λ x h.
            let (i, l, e, n, p, q) = listed_by x h in
            ap₂ (bad_pair (said b)) p q ∙ ((listed_iff (said b) i).0 e).0;
        all_bad = λ s a y.
            let (i, l, e, p, q) = bad_listed (said b) s a y in
            let (u, v) = listed_at i l e in
            (count (lists (said b)) i, count_passing (lists (said b)) i (said b).records l e, u ∙ p, v ∙ q);
        in_order = λ x y d h.
            let (i, l, e, n, p, q) = listed_by x (omega arith) in
            let (i', l', e', n', p', q') = listed_by y h in
            let later : i' ≤ i → count (lists (said b)) i' ≤ count (lists (said b)) i = count_up (lists (said b)) i' i in
            let up = listed_ascend (said b) k.ascending i i' (lt_of_not-le (λ g. let u = later g in omega arith)) l' ((listed_iff (said b) i').0 e').1 in
            subst₂ (λ (s s' : ℕ). (s < s') ⊎ ((s ≡ s') × (get_or (removed b) (3 * x + 2) 0 < get_or (removed b) (3 * y + 2) 0))) (sym p) (sym p')
            (subst₂ (λ (a a' : ℕ). (((said b).move i).state < ((said b).move i').state) ⊎ ((((said b).move i).state ≡ ((said b).move i').state) × (a < a')))
            (sym q) (sym q') up);
      }

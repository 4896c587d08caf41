-- What writing leaves: the salvaged job part by part, and the answer with both outputs.
use Prim.Native.Nat.{ℕ, ◌+◌, ◌*◌, ◌-◌, ◌≤◌, ◌<◌}
use mathlib.Core.Bool.{true}
use mathlib.Core.List.{List, [], ◌++◌, append_assoc}
use mathlib.Core.Logic.{inl, inr}
use mathlib.Core.Path.{◌≡◌, refl, sym, ◌∙◌, ap, ap₂, subst}
use native.Mathlib.Omega.{arith}
use lib.ListN.{length, take, drop, length-append}
use lib.Seq.{take-add, drop-drop}
use Rattle.rules.specs.Fault.{only}
use Rattle.rules.specs.Bytes.{offset, size, form}
use Rattle.rules.specs.Retold.{two, body}
use Rattle.rules.proofs.Kept.{kept_but, length_most}
use Rattle.job.specs.Layout.{FitBut}
use Rattle.job.specs.declared.layout.Layout.{Layout}
use Rattle.salvage.specs.Salvage.{moves_kept, removed, salvaged, salvage_fault, Salvaging, no_room, done}
use Rattle.rules.specs.Retold.{patched}
use Rattle.salvage.specs.Passes.{Tallied, Sized, head}
use Rattle.salvage.specs.declared.tally.Tally.{Tally}
use Rattle.salvage.proofs.Bodies.{counts_long, labels_long, goal_long, kept_length, many_bytes, salvaged_length}
use Rattle.salvage.proofs.Listing.{removed_length}
use Rattle.salvage.proofs.Pairing.{records_said}
use Rattle.salvage.proofs.Putting.{put_more}

-- ---- lengths

module _ {b : List ℕ} {l : Layout} (f : FitBut true b l) (t : Tally) (h : Tallied b l.records t) where
  kept_count : (form b).record_size * t.kept ≡ length (moves_kept b)
  kept_count =
      let e = (subst (λ (n : ℕ). Tallied b n t) (records_said f) h).kept_are in
      ap (λ (n : ℕ). (form b).record_size * n) e ∙ sym (kept_length f.keeps)

  pub listed_count : 3 * t.listed ≡ length (removed b)
  listed_count =
      let e = (subst (λ (n : ℕ). Tallied b n t) (records_said f) h).listed_are in
      omega (arith, removed_length b)

  pub sized : (w : ℕ) → w ≡ (form b).record_size → Sized b l (w * t.kept)
  sized w e =
      let k = f.keeps in
      let m : l.moves_at ≡ offset b 2 = rw f.is_layout refl in
      let a : l.labels_at ≡ offset b 1 = rw f.is_layout refl in
      let g : l.goal_at ≡ offset b 3 = rw f.is_layout refl in
      let n : w * t.kept ≡ length (moves_kept b) = ap (λ (x : ℕ). x * t.kept) e ∙ kept_count in
      record {
        counts_begin = k.counts_at;
        labels_begin = a;
        moves_begin = m;
        goal_begins = g;
        counts_end = omega arith;
        labels_end = omega arith;
        goal_end = omega arith;
        moves_before = omega arith;
        kept_is = n;
        kept_few = omega (arith, kept_length k, many_bytes k);
        few = length_most k;
        long = omega (arith, salvaged_length k, kept_length k);
      }

-- ---- the parts

module _ {b : List ℕ} {l : Layout} {kept : ℕ} (f : FitBut true b l) (s : Sized b l kept) where
  -- the contents, Counts and Labels
  pub head_written : (d e1 e2 e3 e4 e5 : List ℕ) → e1 ≡ patched d 0 (two 16 (two (l.labels_at - 16) []))
      → e2 ≡ patched e1 4 (two l.labels_at (two (l.moves_at - l.labels_at) []))
      → e3 ≡ patched e2 8 (two l.moves_at (two kept []))
      → e4 ≡ patched e3 12 (two (l.moves_at + kept) (two (length b - l.goal_at) []))
      → e5 ≡ patched e4 16 (take (l.moves_at - 16) (drop 16 b)) → e5 ≡ patched d 0 (head b)
  head_written d e1 e2 e3 e4 e5 h1 h2 h3 h4 h5 =
      put_more d e4 e5 (((x1 ++ x2) ++ x3) ++ x4) x5 16
      (put_more d e3 e4 ((x1 ++ x2) ++ x3) x4 12 (put_more d e2 e3 (x1 ++ x2) x3 8 (put_more d e1 e2 x1 x2 4 h1 refl h2) refl h3) refl h4) refl h5
      ∙ ap (patched d 0) whole
    where
      x1 : List ℕ
      x1 = two 16 (two (l.labels_at - 16) [])

      x2 : List ℕ
      x2 = two l.labels_at (two (l.moves_at - l.labels_at) [])

      x3 : List ℕ
      x3 = two l.moves_at (two kept [])

      x4 : List ℕ
      x4 = two (l.moves_at + kept) (two (length b - l.goal_at) [])

      x5 : List ℕ
      x5 = take (l.moves_at - 16) (drop 16 b)

      n0 : l.labels_at - 16 ≡ length (body b 0)
      n0 = omega (arith, counts_long f.keeps, s.counts_end)

      n1 : l.labels_at ≡ 16 + length (body b 0)
      n1 = omega (arith, counts_long f.keeps, s.counts_end)

      n2 : l.moves_at - l.labels_at ≡ length (body b 1)
      n2 = omega (arith, labels_long f.keeps, s.labels_end)

      n3 : l.moves_at ≡ 16 + length (body b 0) + length (body b 1)
      n3 = omega (arith, labels_long f.keeps, s.labels_end, n1)

      n4 : l.moves_at + kept ≡ 16 + length (body b 0) + length (body b 1) + length (moves_kept b)
      n4 = omega (arith, n3, s.kept_is)

      n5 : length b - l.goal_at ≡ length (body b 3)
      n5 = omega (arith, goal_long f.keeps, s.goal_end)

      copied : take (l.moves_at - 16) (drop 16 b) ≡ body b 0 ++ body b 1
      copied =
          ap (λ (n : ℕ). take n (drop 16 b)) (let z : l.moves_at - 16 ≡ size b 0 + size b 1 = omega (arith, s.counts_end, s.labels_end) in z)
          ∙ take-add (size b 0) (size b 1) (drop 16 b)
          ∙ ap₂ (λ (u v : List ℕ). u ++ take (size b 1) v)
          (ap (λ (n : ℕ). take (size b 0) (drop n b)) (sym s.counts_begin))
          (drop-drop (size b 0) 16 b ∙ ap (λ (n : ℕ). drop n b) (sym s.counts_end ∙ s.labels_begin))

      whole : (((x1 ++ x2) ++ x3) ++ x4) ++ x5 ≡ head b
      whole = λ i.
          two 16 (two (n0 i) (two (n1 i) (two (n2 i) (two (n3 i) (two (s.kept_is i) (two (n4 i) (two (n5 i) (copied i))))))))

  -- the salvaged job
  pub job_written : (d e1 e2 e3 : List ℕ) → e1 ≡ patched d 0 (head b) → e2 ≡ patched e1 l.moves_at (moves_kept b)
      → e3 ≡ patched e2 (l.moves_at + kept) (take (length b - l.goal_at) (drop l.goal_at b))
      → e3 ≡ patched d 0 (salvaged b)
  job_written d e1 e2 e3 h1 h2 h3 =
      put_more d e2 e3 (head b ++ moves_kept b) (take (length b - l.goal_at) (drop l.goal_at b)) (l.moves_at + kept)
      (put_more d e1 e2 (head b) (moves_kept b) l.moves_at h1 long1 h2) long2 h3
      ∙ ap (patched d 0) whole
    where
      c : List ℕ
      c = body b 0

      a : List ℕ
      a = body b 1

      m : List ℕ
      m = moves_kept b

      g : List ℕ
      g = body b 3

      long1 : length (head b) ≡ l.moves_at
      long1 = omega (arith, length-append (body b 0) (body b 1), counts_long f.keeps, labels_long f.keeps, s.counts_end, s.labels_end)

      long2 : length (head b ++ moves_kept b) ≡ l.moves_at + kept
      long2 = omega (arith, length-append (head b) (moves_kept b), long1, s.kept_is)

      last : take (length b - l.goal_at) (drop l.goal_at b) ≡ body b 3
      last =
          ap₂ (λ (n at : ℕ). take n (drop at b)) (let z : length b - l.goal_at ≡ size b 3 = omega (arith, s.goal_end) in z) s.goal_begins

      together : ((c ++ a) ++ m) ++ g ≡ c ++ (a ++ (m ++ g))
      together = append_assoc (c ++ a) m g ∙ append_assoc c a (m ++ g)

      whole : (head b ++ moves_kept b) ++ take (length b - l.goal_at) (drop l.goal_at b) ≡ salvaged b
      whole =
          ap (λ (z : List ℕ). (head b ++ moves_kept b) ++ z) last
          ∙ ap (λ (z : List ℕ).
          two 16 (two (length (body b 0))
          (two (16 + length (body b 0)) (two (length (body b 1))
          (two (16 + length (body b 0) + length (body b 1)) (two (length (moves_kept b))
          (two (16 + length (body b 0) + length (body b 1) + length (moves_kept b)) (two (length (body b 3)) z)))))))) together

-- ---- the answers

module _ {b : List ℕ} {l : Layout} (f : FitBut true b l) (d p : List ℕ) where
  none : (salvage_fault b).number ≡ 0
  none = (kept_but true b).1 f.keeps

  pub job_no_room : length d < length (salvaged b) → Salvaging b d p (only 7) 0 0 d p
  job_no_room h = no_room none (inl h)

  pub pairs_no_room : length p < length (removed b) → Salvaging b d p (only 7) 0 0 d p
  pairs_no_room h = no_room none (inr h)

  pub both_written : (m n : ℕ) (d' p' : List ℕ) → m ≡ length (salvaged b) → n ≡ length (removed b) → m ≤ length d → n ≤ length p
      → d' ≡ patched d 0 (salvaged b) → p' ≡ patched p 0 (removed b) → Salvaging b d p (only 0) m n d' p'
  both_written m n d' p' e g h i j k =
      let e0 : 0 + length (salvaged b) ≡ length (salvaged b) = omega arith in
      let g0 : 0 + length (removed b) ≡ length (removed b) = omega arith in
      let j' : d' ≡ salvaged b ++ drop (length (salvaged b)) d = j ∙ ap (λ (x : ℕ). salvaged b ++ drop x d) e0 in
      let k' : p' ≡ removed b ++ drop (length (removed b)) p = k ∙ ap (λ (x : ℕ). removed b ++ drop x p) g0 in
      rw (e, g, j', k') (done none (subst (λ (x : ℕ). x ≤ length d) e h) (subst (λ (x : ℕ). x ≤ length p) g i))

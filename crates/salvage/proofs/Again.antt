-- A good job comes out byte for byte with no pairs listed, and so does a salvaged one.
use Prim.Native.Nat.{ℕ, zero, suc, ◌+◌, ◌*◌, ◌/◌, ◌%◌, ◌-◌, ◌≤◌, ◌<◌}
use mathlib.Core.Bool.{Bool, true, false, cond, ◌&&◌}
use mathlib.Core.List.{List, [], ◌∷◌, ◌++◌}
use mathlib.Core.Path.{◌≡◌, sym, ◌∙◌, ap, ap₂, subst}
use native.Mathlib.Omega.{arith}
use borrow.Author.Tests.{not-true}
use lib.ListN.{length, get_or, take, drop, length-drop, take-append-drop}
use lib.Seq.{ext_get_or, take_all, drop-cons, drop-drop, get_or-drop}
use Rattle.sets.specs.Sets.{count}
use Rattle.rules.specs.Form.{word, form_of}
use Rattle.rules.specs.Bytes.{offset, size, is_tall, said}
use Rattle.rules.specs.Keeps.{KeepsBut, Keeps}
use Rattle.rules.specs.Retold.{two, job_of, body}
use Rattle.rules.proofs.Kept.{moves_end, length_most}
use Rattle.rules.proofs.Retelling.{Bytes, none_bytes, two_bytes, append_bytes, take_bytes, body_bytes, body_long, body_at}
use Rattle.salvage.specs.Mended.{spoilt, stays, first_of_pair, lists}
use Rattle.salvage.specs.Salvage.{gathered, record_bytes, pair_bytes, moves_kept, removed, salvaged}
use Rattle.salvage.proofs.Keeping.{count_all, gathered_none}
use Rattle.salvage.proofs.Mending.{all_stay}
use Rattle.salvage.proofs.AsPlanning.{keeps_forgiven}
use Rattle.salvage.proofs.Bodies.{wide, many_bytes, kept_length, kept_at, counts_long, labels_long, goal_long}
use Rattle.salvage.proofs.Kept.{salvaged_keeps}

-- ---- a job is its contents and its four bodies

-- the bytes from a place on begin with the number of two bytes that stands there
drop_two : {b : List ℕ} → Bytes b → (i : ℕ) → i + 1 < length b → drop i b ≡ two (word b i) (drop (suc (suc i)) b)
drop_two {b} h i l =
    let low : get_or b i 0 ≡ word b i % 256 = omega (arith, h.at i, h.at (i + 1)) in
    let high : get_or b (suc i) 0 ≡ word b i / 256 =
    let e : i + 1 ≡ suc i = omega arith in subst (λ (x : ℕ). get_or b x 0 ≡ word b i / 256) e (omega (arith, h.at i, h.at (i + 1))) in
    drop-cons b i 0 (omega arith)
    ∙ ap₂ (λ (x : ℕ) (xs : List ℕ). x ∷ xs) low (drop-cons b (suc i) 0 (omega arith) ∙ ap (λ (x : ℕ). x ∷ drop (suc (suc i)) b) high)

-- a body, and what comes after it
join : (b : List ℕ) (at next n : ℕ) → at + n ≡ next → take n (drop at b) ++ drop next b ≡ drop at b
join b at next n e =
    ap (λ (xs : List ℕ). take n (drop at b) ++ xs) (ap (λ (x : ℕ). drop x b) (sym e) ∙ sym (drop-drop n at b)) ∙ take-append-drop n (drop at b)

module _ {b : List ℕ} (k : KeepsBut true b) where
  moves_body : length (body b 2) ≡ size b 2
  moves_body = body_long b 2 (omega (arith, moves_end k, k.moves_long))

  pub bodies_whole : Bytes b → job_of (body b 0) (body b 1) (body b 2) (body b 3) ≡ b
  bodies_whole h =
      sym
      (contents
      ∙ (λ i. two (p0 i) (two (p1 i) (two (p2 i) (two (p3 i) (two (p4 i) (two (p5 i) (two (p6 i) (two (p7 i) (rest i))))))))))
    where
      long : 16 ≤ length b
      long = k.contents_long

      contents : b ≡ two (word b 0) (two (word b 2) (two (word b 4) (two (word b 6) (two (word b 8) (two (word b 10) (two (word b 12) (two (word b 14) (drop 16 b))))))))
      contents =
          drop_two h 0 (omega arith)
          ∙ ap (two (word b 0)) (drop_two h 2 (omega arith)
          ∙ ap (two (word b 2)) (drop_two h 4 (omega arith)
          ∙ ap (two (word b 4)) (drop_two h 6 (omega arith)
          ∙ ap (two (word b 6)) (drop_two h 8 (omega arith)
          ∙ ap (two (word b 8)) (drop_two h 10 (omega arith)
          ∙ ap (two (word b 10)) (drop_two h 12 (omega arith)
          ∙ ap (two (word b 12)) (drop_two h 14 (omega arith))))))))

      l0 : length (body b 0) ≡ size b 0
      l0 = counts_long k

      l1 : length (body b 1) ≡ size b 1
      l1 = labels_long k

      l2 : length (body b 2) ≡ size b 2
      l2 = moves_body

      p0 : word b 0 ≡ 16
      p0 = k.counts_at

      p1 : word b 2 ≡ length (body b 0)
      p1 = sym l0

      p2 : word b 4 ≡ 16 + length (body b 0)
      p2 = k.labels_at ∙ ap₂ (λ (x y : ℕ). x + y) k.counts_at (sym l0)

      p3 : word b 6 ≡ length (body b 1)
      p3 = sym l1

      p4 : word b 8 ≡ 16 + length (body b 0) + length (body b 1)
      p4 = k.moves_at ∙ ap₂ (λ (x y : ℕ). x + y) p2 (sym l1)

      p5 : word b 10 ≡ length (body b 2)
      p5 = sym l2

      p6 : word b 12 ≡ 16 + length (body b 0) + length (body b 1) + length (body b 2)
      p6 = k.goal_at ∙ ap₂ (λ (x y : ℕ). x + y) p4 (sym l2)

      p7 : word b 14 ≡ length (body b 3)
      p7 = sym (goal_long k)

      last : body b 3 ≡ drop (offset b 3) b
      last =
          let e : length (drop (offset b 3) b) ≡ length b - offset b 3 = length-drop (offset b 3) b in
          take_all (size b 3) (drop (offset b 3) b) (omega (arith, k.ends))

      rest : drop 16 b ≡ body b 0 ++ (body b 1 ++ (body b 2 ++ body b 3))
      rest =
          ap (λ (x : ℕ). drop x b) (sym k.counts_at)
          ∙ sym (join b (offset b 0) (offset b 1) (size b 0) (sym k.labels_at))
          ∙ ap (λ (xs : List ℕ). body b 0 ++ xs) (sym (join b (offset b 1) (offset b 2) (size b 1) (sym k.moves_at))
          ∙ ap (λ (xs : List ℕ). body b 1 ++ xs) (sym (join b (offset b 2) (offset b 3) (size b 2) (sym k.goal_at))
          ∙ ap (λ (xs : List ℕ). body b 2 ++ xs) (sym last)))

  -- ---- where every record stays, nothing changes

  module _ (all : (i : ℕ) → stays (said b) i ≡ true) where
    all_many : count (stays (said b)) (said b).records ≡ (said b).records
    all_many = count_all (stays (said b)) (said b).records (λ i h. all i)

    -- byte y is byte y % w of record y / w
    parted : (t : Bool) (n y : ℕ) → y < (form_of t).record_size * n
        → (y / (form_of t).record_size < n) × (y % (form_of t).record_size < (form_of t).record_size)
        × ((form_of t).record_size * (y / (form_of t).record_size) + y % (form_of t).record_size ≡ y)
    parted true n y h = (omega arith, omega arith, omega arith)
    parted false n y h = (omega arith, omega arith, omega arith)

    moves_same : moves_kept b ≡ body b 2
    moves_same = ext_get_or 0 (moves_kept b) (body b 2) long (λ y h. go y (omega (arith, h, long, moves_body)))
      where
        long : length (moves_kept b) ≡ length (body b 2)
        long = kept_length k ∙ ap (λ (n : ℕ). wide k * n) all_many ∙ sym (moves_body ∙ k.moves_long)

        go : (y : ℕ) → y < size b 2 → get_or (moves_kept b) y 0 ≡ get_or (body b 2) y 0
        go y h =
            let w = wide k in
            let (i, d, e) = parted (is_tall b) (said b).records y (omega (arith, k.moves_long)) in
            let n : count (stays (said b)) (y / w) ≡ y / w = count_all (stays (said b)) (y / w) (λ i h. all i) in
            let z : offset b 2 + w * (y / w) + y % w ≡ offset b 2 + y = omega (arith, e) in
            ap (λ (x : ℕ). get_or (moves_kept b) x 0) (sym e)
            ∙ ap (λ (x : ℕ). get_or (moves_kept b) (w * x + y % w) 0) (sym n)
            ∙ kept_at k (y / w) (y % w) i (all (y / w)) d
            ∙ ap (λ (x : ℕ). get_or b x 0) z
            ∙ sym (body_at b 2 y h)

    unchanged : Bytes b → salvaged b ≡ b
    unchanged h = ap (λ (m : List ℕ). job_of (body b 0) (body b 1) m (body b 3)) moves_same ∙ bodies_whole h

    none_listed : removed b ≡ []
    none_listed =
        gathered_none (lists (said b)) (pair_bytes b) (said b).records (λ i h. ap (λ (x : Bool). x && first_of_pair (said b) i) (not_spoilt i))
      where
        not_spoilt : (i : ℕ) → spoilt (said b) i ≡ false
        not_spoilt i = not-true (spoilt (said b) i) (all i)

  -- ---- the salvaged job is in bytes

  gathered_bytes : (f : ℕ → Bool) (g : ℕ → List ℕ) (n : ℕ) → ((i : ℕ) → Bytes (g i)) → Bytes (gathered f g n)
  unfolding gathered
  gathered_bytes f g zero h = none_bytes
  gathered_bytes f g (suc n) h = append_bytes (gathered_bytes f g n h) (go (f n))
    where
      go : (x : Bool) → Bytes (cond x (g n) [])
      go true = h n
      go false = none_bytes

  pub salvaged_bytes : Bytes b → Bytes (salvaged b)
  salvaged_bytes h =
      two_bytes 16 (omega arith) (two_bytes (length (body b 0)) (omega (arith, few, goes))
      (two_bytes (16 + length (body b 0)) (omega (arith, few, goes)) (two_bytes (length (body b 1)) (omega (arith, few, goes))
      (two_bytes (16 + length (body b 0) + length (body b 1)) (omega (arith, few, goes)) (two_bytes (length (moves_kept b)) (omega (arith, few, goes))
      (two_bytes (16 + length (body b 0) + length (body b 1) + length (moves_kept b)) (omega (arith, few, goes))
      (two_bytes (length (body b 3)) (omega (arith, few, goes))
      (append_bytes (body_bytes b 0 h) (append_bytes (body_bytes b 1 h) (append_bytes moves (body_bytes b 3 h)))))))))))
    where
      few : length b ≤ 43576
      few = length_most k

      goes : 16 + length (body b 0) + length (body b 1) + length (moves_kept b) + length (body b 3) ≤ length b
      goes =
          omega (
            arith,
            counts_long k,
            labels_long k,
            kept_length k,
            goal_long k,
            many_bytes k,
            k.counts_at,
            k.labels_at,
            k.moves_at,
            k.goal_at,
            k.ends,
          )

      moves : Bytes (moves_kept b)
      moves =
          gathered_bytes (stays (said b)) (record_bytes b) (said b).records (λ i.
          take_bytes (wide k) (record { at = λ y. rw (get_or-drop (offset b 2 + wide k * i) b y 0) (h.at (offset b 2 + wide k * i + y)) }))

-- A good job comes out byte for byte, with no pairs listed.
pub good_unchanged : (b : List ℕ) → Bytes b → Keeps b → (salvaged b ≡ b) × (removed b ≡ [])
good_unchanged b h k =
    let f = keeps_forgiven k in
    let all = all_stay (said b) k.outcome_below in
    (unchanged f all h, none_listed f all)

-- And a salvaged job salvaged again stays the same, with no pairs listed.
pub again_unchanged : (b : List ℕ) → Bytes b → KeepsBut true b → (salvaged (salvaged b) ≡ salvaged b) × (removed (salvaged b) ≡ [])
again_unchanged b h k = good_unchanged (salvaged b) (salvaged_bytes k h) (salvaged_keeps k)

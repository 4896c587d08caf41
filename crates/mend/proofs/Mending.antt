-- What is said of a salvaged job, from what salvaging leaves in buffers that always have room.
use Prim.Native.Nat.{ℕ, ◌+◌, ◌*◌, ◌/◌, ◌-◌, ◌≤◌, ◌<◌}
use mathlib.Core.Bool.{Bool, true, false}
use mathlib.Core.List.{List, ◌++◌}
use mathlib.Core.Logic.{◌≢◌, ⊎_elim}
use mathlib.Core.Path.{◌≡◌, refl, sym, ap, ap₂, ◌∙◌, subst, subst⁻¹}
use native.Mathlib.Nat.{mul-le-mul, le_refl}
use native.Mathlib.Omega.{arith}
use lib.ListN.{length, get_or, take, drop, length-append, get_or-append}
use lib.Seq.{take_at, length-take-le}
use Rattle.io.specs.Counts.{IsPrefixLen}
use Rattle.sets.specs.Sets.{count}
use Rattle.sets.proofs.Sizes.{count_le}
use Rattle.game.specs.Below.{upto, each}
use Rattle.rules.specs.Form.{word, form_of}
use Rattle.rules.specs.Fault.{Fault}
use Rattle.rules.specs.Bytes.{offset, size, is_tall, form, said}
use Rattle.rules.specs.Keeps.{KeepsBut}
use Rattle.rules.proofs.Kept.{kept_but, records_few, states_few, length_most}
use Rattle.rules.proofs.Numbers.{told_but}
use Rattle.text.specs.declared.Line.{Line}
use Rattle.text.specs.PutText.{PutText}
use Rattle.text.specs.Puts.{Puts}
use Rattle.text.specs.Lines.{decimal, bytes, refusal_line}
use Rattle.text.proofs.Digits.{decimal_length}
use Rattle.text.proofs.Repeating.{each_same, short_each}
use Rattle.text.proofs.Lengths.{short_refusal, fault_few_but, put_front}
use Rattle.salvage.specs.Mended.{lists}
use Rattle.salvage.specs.Salvage.{salvaged, removed, Salvaging, refused, no_room, done}
use Rattle.salvage.proofs.Bodies.{salvaged_length, many_few, records_many}
use Rattle.salvage.proofs.Kept.{salvaged_keeps}
use Rattle.salvage.proofs.Listing.{removed_length, removed_pairs}
use Rattle.salvage.proofs.Mending.{bad_iff}
use Rattle.rules.proofs.Arenas.{is_from_iff}
use Rattle.mend.specs.Mends.{pair_line, listed_line, mended_text, Mends, refuses, mends, Mended}

-- ---- how many records went

parted : (t : Bool) (a m n z : ℕ) → m ≤ n
    → (a + (form_of t).record_size * n + z - (a + (form_of t).record_size * m + z)) / (form_of t).record_size ≡ n - m
parted true a m n z h = omega arith
parted false a m n z h = omega arith

pub gone_is : {b : List ℕ} (k : KeepsBut true b)
    → (length b - length (salvaged b)) / (form b).record_size ≡ (said b).records - (said (salvaged b)).records
gone_is {b} k =
    let whole : length b ≡ offset b 2 + (form b).record_size * (said b).records + size b 3 = omega (arith, k.goal_at, k.moves_long, k.ends) in
    ap₂ (λ (x y : ℕ). (x - y) / (form b).record_size) whole (salvaged_length k)
    ∙ parted (is_tall b) (offset b 2) _ (said b).records (size b 3) (many_few k)
    ∙ ap (λ (n : ℕ). (said b).records - n) (sym (records_many k))

-- ---- what is said is short

module _ (b : List ℕ) (k : KeepsBut true b) where
  few_pairs : length (removed b) / 3 ≤ 8192
  few_pairs = omega (arith, removed_length b, count_le (lists (said b)) (said b).records, records_few k)

  short_line : (x : ℕ) → x < length (removed b) / 3 → length (listed_line (removed b) x) ≤ 30
  short_line x h =
      let p = removed_pairs b k in
      let (i, l, t) = (bad_iff (said b) (word (removed b) (3 * x)) (get_or (removed b) (3 * x + 2) 0)).0 (p.is_bad x (omega (arith, p.three_each))) in
      let (s, a) = (is_from_iff ((said b).move i) (word (removed b) (3 * x)) (get_or (removed b) (3 * x + 2) 0)).0 t.0 in
      simp length-append
      (omega (
        arith,
        decimal_length (word (removed b) (3 * x)) 2 (omega (arith, s, k.state_below i l, states_few k)),
        decimal_length (get_or (removed b) (3 * x + 2) 0) 1 (omega (arith, a, k.action_below i l, k.few_actions)),
      ))

  short_text : (gone : ℕ) → gone ≤ 8192 → length (mended_text (removed b) (length (removed b) / 3) gone) ≤ 245782
  short_text gone h =
      let n = length (removed b) / 3 in
      let lines = short_each (listed_line (removed b)) 30 n short_line in
      let all = mul-le-mul few_pairs (le_refl 30) in
      simp length-append (omega (arith, lines, all, decimal_length gone 3 (omega arith)))

-- two jobs that may be written of one input are the same, and so is what is said
pub mends_unique : {b new new' text text' : List ℕ} → Mends b new text → Mends b new' text' → (new ≡ new') × (text ≡ text')
mends_unique (refuses n) (refuses m) = (refl, refl)
mends_unique (refuses n) (mends e) = absurd (n e)
mends_unique (mends e) (refuses n) = absurd (n e)
mends_unique (mends e) (mends d) = (refl, refl)

pub mends_short : {b new text : List ℕ} → Mends b new text → length text ≤ 245782
mends_short {b} (refuses n) = let (h, l) = fault_few_but true b (told_but true b).among in omega (arith, short_refusal _ h l)
mends_short {b} (mends e) = let k = (kept_but true b).0 e in short_text b k _ (omega (arith, records_few k))

pub mended_whole : {b new out left : List ℕ} {line after : Line} {m n : ℕ} (r : Mended b new line after m) → PutText out 0 r.text left n
    → 245782 ≤ length out → IsPrefixLen m new × IsPrefixLen n left × Mends b (take m new) (take n left)
mended_whole {b} {new = new} {m = m} r put room =
    let (count, text) = put_front put (omega (arith, mends_short r.right)) in
    ((r.fits, sym (length-take-le m new r.fits)), count, subst⁻¹ (Mends b (take m new)) text r.right)

-- ---- what salvaging leaves, where both buffers have room for all

-- a refusal is the one of the bytes
pub mended_refused : {b d p d' p' : List ℕ} {line after : Line} {f : Fault} {m n : ℕ} → Salvaging b d p f m n d' p' → f.number ≢ 0 → 43576 ≤ length d
    → 24576 ≤ length p → Puts line (refusal_line f) after → Mended b d' line after 0
mended_refused (refused n) z h g put = record { text = _; fits = omega arith; right = refuses n; put = put }
mended_refused {b} {d} {p} (no_room e l) z h g put =
    let k = (kept_but true b).0 e in
    let job : length (salvaged b) ≤ 43576 = length_most (salvaged_keeps k) in
    let list : length (removed b) ≤ 24576 = omega (arith, removed_length b, count_le (lists (said b)) (said b).records, records_few k) in
    absurd (⊎_elim (λ x. omega (arith, x, job, h)) (λ x. omega (arith, x, list, g)) l)
mended_refused (done e h g) z l k put = absurd (z refl)

pub record Done (b d' p' : List ℕ) (m n : ℕ) : Type 0 where
  pub none : KeepsBut true b
  pub job_long : m ≡ length (salvaged b)
  pub pairs_long : n ≡ length (removed b)
  pub job_is : take m d' ≡ salvaged b
  pub job_fits : m ≤ length d'
  pub pairs_fit : n ≤ length p'
  pub lines : each (upto (n / 3)) (listed_line p') ≡ each (upto (n / 3)) (listed_line (removed b))

pub mended_done : {b d p d' p' : List ℕ} {f : Fault} {m n : ℕ} → Salvaging b d p f m n d' p' → f.number ≡ 0 → Done b d' p' m n
mended_done (refused h) z = absurd (h z)
mended_done (no_room e h) z = absurd (omega arith)
mended_done {b} {d} {p} (done e h g) z =
    record {
      none = (kept_but true b).0 e;
      job_long = refl;
      pairs_long = refl;
      job_is = take_at (salvaged b) (drop (length (salvaged b)) d) (length (salvaged b)) refl;
      job_fits = omega (arith, length-append (salvaged b) (drop (length (salvaged b)) d));
      pairs_fit = omega (arith, length-append (removed b) (drop (length (removed b)) p));
      lines =
          each_same (listed_line (removed b ++ drop (length (removed b)) p)) (listed_line (removed b)) (length (removed b) / 3) (λ x l.
          let rest = drop (length (removed b)) p in
          let at : (y : ℕ) → y < length (removed b) → get_or (removed b ++ rest) y 0 ≡ get_or (removed b) y 0 =
          λ y i. get_or-append (removed b) rest 0 y i in
          ap₂ pair_line (ap₂ (λ (u v : ℕ). u + 256 * v) (at (3 * x) (omega arith)) (at (3 * x + 1) (omega arith))) (at (3 * x + 2) (omega arith)));
    }

pub mended_said : {b d' p' : List ℕ} {line after : Line} {m n gone : ℕ} → Done b d' p' m n → gone ≡ (said b).records - (said (salvaged b)).records
    → Puts line (mended_text p' (n / 3) gone) after → Mended b d' line after m
mended_said {b} {d'} {p'} {m = m} {n} {gone} w e put =
    record {
      text = mended_text p' (n / 3) gone;
      fits = w.job_fits;
      right =
          subst (λ (x : List ℕ). Mends b x (mended_text p' (n / 3) gone)) (sym w.job_is)
          (subst (Mends b (salvaged b)) (sym same) (mends ((kept_but true b).1 w.none)));
      put = put;
    }
  where
    same : mended_text p' (n / 3) gone
        ≡ mended_text (removed b) (length (removed b) / 3) ((said b).records - (said (salvaged b)).records)
    same =
        ap (λ (xs : List ℕ). xs ++ (bytes "records removed: " ++ (decimal gone ++ bytes "\n"))) w.lines
        ∙ ap₂ (λ (x y : ℕ). mended_text (removed b) (x / 3) y) w.pairs_long e

-- The contents of a bundle: what each answer of judging them says, and that they are judged exactly.
use Prim.Native.Nat.{ℕ, zero, suc, ◌+◌, ◌*◌, ◌≤◌, ◌<◌}
use mathlib.Core.Bool.{Bool, true, false, not}
use mathlib.Core.List.{List, [], ◌∷◌, ◌++◌, append_assoc, append-nil}
use mathlib.Core.Logic.{◌↔◌, ◌≢◌}
use mathlib.Core.Path.{◌≡◌, refl, sym, ap, subst, ◌∙◌}
use native.Mathlib.Omega.{arith}
use native.Mathlib.Numerals.{add-one}
use borrow.Author.Tests.{le-ltb, ne_eqb, ltb-false, eqb-true, eqb-false, not-true}
use lib.Dec.{ltb, eqb}
use lib.ListN.{length, get_or, take, drop, length-append, get_or-append, take-append-drop}
use lib.Seq.{take_at, drop_at, length-take-le}
use Rattle.game.proofs.Tests.{and_iff, eqb_iff, every_iff, every_more, every_stops}
use Rattle.game.specs.Below.{every_below}
use Rattle.rules.specs.Form.{word}
use Rattle.totals.specs.Bundle.{double, entries, offset, size, contents_size, due, Bundle}
use Rattle.totals.specs.Bundle.{job, jobs_from, jobs, entries_counted, in_order, contents_fit}

-- ---- the count of the first two bytes

module _ (h : List ℕ) {n : ℕ} (long : 2 ≤ length h) (is : n ≡ entries h) where
  pub counted_is : n ≤ 64 → n ≡ entries_counted h
  counted_is l = rw (le-ltb (length h) 2 long, le-ltb 64 (entries h) (omega arith)) is

-- what it says that some are counted
record Counted (h : List ℕ) : Type 0 where
  counted : 2 ≤ length h
  some : 1 ≤ entries h
  few : entries h ≤ 64
  is : entries_counted h ≡ entries h

counted_back : (h : List ℕ) → entries_counted h ≢ 0 → Counted h
counted_back h d = go (ltb (length h) 2) refl (ltb 64 (entries h)) refl
  where
    go : (x : Bool) → ltb (length h) 2 ≡ x → (y : Bool) → ltb 64 (entries h) ≡ y → Counted h
    go true e y f = absurd (d (rw e))
    go false e true f = absurd (d (rw (e, f)))
    go false e false f =
        let same : entries_counted h ≡ entries h = rw (e, f) in
        record { counted = ltb-false (length h) 2 e; some = some_of (entries h) (λ z. d (same ∙ z)); few = ltb-false 64 (entries h) f; is = same }
      where
        some_of : (n : ℕ) → n ≢ 0 → 1 ≤ n
        some_of zero z = absurd (z refl)
        some_of (suc n) z = omega arith

-- ---- the contents alone

-- these bytes are the contents of 1 to 64 entries without gaps
pub record Contents (h : List ℕ) : Type 0 where
  pub counted : 2 ≤ length h
  pub some : 1 ≤ entries h
  pub few : entries h ≤ 64
  pub whole : length h ≡ contents_size (entries h)
  pub offsets : (i : ℕ) → i < entries h → offset h i ≡ due h i

-- entry i begins where it is due
abbrev pub begins_due : List ℕ → ℕ → Bool
begins_due h i = eqb (offset h i) (due h i)

some_iff : (n : ℕ) → (not (eqb n 0) ≡ true) ↔ (n ≢ 0)
some_iff n = (λ e. eqb-false n 0 (not-true (eqb n 0) e), λ d. rw (ne_eqb n 0 d))

pub contents_iff : (h : List ℕ) → (contents_fit h ≡ true) ↔ Contents h
contents_iff h = (there, back)
  where
    parts : (contents_fit h ≡ true)
        ↔ ((entries_counted h ≢ 0) × ((length h ≡ contents_size (entries_counted h)) × ((i : ℕ) → i < entries h → offset h i ≡ due h i)))
    parts =
        and_iff (some_iff (entries_counted h))
        (and_iff (eqb_iff (length h) (contents_size (entries_counted h)))
        (every_iff (begins_due h) (λ i. eqb_iff (offset h i) (due h i)) (entries h)))

    there : contents_fit h ≡ true → Contents h
    there e =
        let (d, (l, o)) = parts.0 e in
        let g = counted_back h d in
        record { counted = g.counted; some = g.some; few = g.few; whole = l ∙ ap contents_size g.is; offsets = o }

    back : Contents h → contents_fit h ≡ true
    back c =
        let e : entries h ≡ entries_counted h = counted_is h c.counted refl c.few in
        parts.1 (λ z. omega (arith, c.some), (c.whole ∙ ap contents_size e, c.offsets))

-- ---- the contents at the front of a bundle

module _ (h r : List ℕ) where
  word_front : (i : ℕ) → i + 2 ≤ length h → word (h ++ r) i ≡ word h i
  word_front i l =
      let a = get_or-append h r 0 i (omega arith) in
      let b = get_or-append h r 0 (i + 1) (omega arith) in
      λ j. a j + 256 * b j

  double_front : (i : ℕ) → i + 4 ≤ length h → double (h ++ r) i ≡ double h i
  double_front i l =
      let a = word_front i (omega arith) in
      let b = word_front (i + 2) (omega arith) in
      λ j. a j + 65536 * b j

  module _ (whole : length h ≡ contents_size (entries h)) where
    pub entries_front : entries (h ++ r) ≡ entries h
    entries_front = word_front 0 (omega arith)

    pub offset_front : (i : ℕ) → i < entries h → offset (h ++ r) i ≡ offset h i
    offset_front i l = double_front (2 + 8 * i) (omega arith)

    pub size_front : (i : ℕ) → i < entries h → size (h ++ r) i ≡ size h i
    size_front i l = double_front (6 + 8 * i) (omega arith)

    pub due_front : (i : ℕ) → i ≤ entries h → due (h ++ r) i ≡ due h i
    due_front zero l = ap contents_size entries_front
    due_front (suc i) l = λ j. offset_front i (omega arith) j + size_front i (omega arith) j

    -- a bundle is contents that are good, and entries that end where the last one does
    pub bundle_iff : Bundle (h ++ r) ↔ (Contents h × (length (h ++ r) ≡ due h (entries h)))
    bundle_iff = (there, back)
      where
        n : entries (h ++ r) ≡ entries h
        n = entries_front

        there : Bundle (h ++ r) → Contents h × (length (h ++ r) ≡ due h (entries h))
        there b = (
          record {
            counted = omega arith;
            some = omega (arith, b.some, n);
            few = omega (arith, b.few, n);
            whole = whole;
            offsets = λ i l. sym (offset_front i l) ∙ b.offsets i (omega (arith, n)) ∙ due_front i (omega arith);
          },
          b.ends ∙ ap (due (h ++ r)) n ∙ due_front (entries h) (omega arith),
        )

        back : Contents h × (length (h ++ r) ≡ due h (entries h)) → Bundle (h ++ r)
        back t = record {
          counted = omega (arith, length-append h r);
          some = omega (arith, t.0.some, n);
          few = omega (arith, t.0.few, n);
          whole = omega (arith, length-append h r, n);
          offsets = λ i l.
              let m : i < entries h = omega (arith, n) in
              offset_front i m ∙ t.0.offsets i m ∙ sym (due_front i (omega arith));
          ends = t.1 ∙ sym (ap (due (h ++ r)) n ∙ due_front (entries h) (omega arith));
        }

-- The bytes that the first two count are judged exactly: they fit, and the bundle ends where its last entry does, where it is a bundle.
pub judged : (b : List ℕ) → Bundle b ↔ ((contents_fit (take (contents_size (entries_counted b)) b) ≡ true) × (length b ≡ due b (entries b)))
judged b = (there, back)
  where
    h : List ℕ
    h = take (contents_size (entries_counted b)) b

    r : List ℕ
    r = drop (contents_size (entries_counted b)) b

    both : h ++ r ≡ b
    both = take-append-drop (contents_size (entries_counted b)) b

    there : Bundle b → (contents_fit h ≡ true) × (length b ≡ due b (entries b))
    there g =
        let e : entries b ≡ entries_counted b = counted_is b g.counted refl g.few in
        let l : length h ≡ contents_size (entries_counted b) = length-take-le (contents_size (entries_counted b)) b (omega (arith, g.whole)) in
        let n : entries h ≡ entries b = sym (word_front h r 0 (omega arith)) ∙ ap entries both in
        let w : length h ≡ contents_size (entries h) = omega arith in
        ((contents_iff h).1 ((bundle_iff h r w).0 (subst Bundle (sym both) g)).0, g.ends)

    back : (contents_fit h ≡ true) × (length b ≡ due b (entries b)) → Bundle b
    back t =
        let c = (contents_iff h).0 t.0 in
        let n : entries b ≡ entries h = sym (ap entries both) ∙ entries_front h r c.whole in
        let d : due b (entries b) ≡ due h (entries h) =
        sym (ap (λ (x : List ℕ). due x (entries x)) both) ∙ ap (due (h ++ r)) (entries_front h r c.whole)
        ∙ due_front h r c.whole (entries h) (omega arith) in
        subst Bundle both ((bundle_iff h r c.whole).1 (c, ap length both ∙ t.1 ∙ d))

-- ---- the entries, one after another

-- the entries without gaps
abbrev pub together : List (List ℕ) → List ℕ
together [] = []
together (b ∷ bs) = b ++ together bs

-- from entry i on, which begins after the front, the entries are bs
walk : (b : List ℕ) (i : ℕ) (front : List ℕ) (bs : List (List ℕ)) → b ≡ front ++ together bs → length front ≡ due b i
    → ((k : ℕ) → k < length bs → offset b (i + k) ≡ due b (i + k))
    → ((k : ℕ) → k < length bs → length (get_or bs k []) ≡ size b (i + k))
    → (jobs_from b i (length bs) ≡ bs) × (length b ≡ due b (i + length bs))
walk b i front [] e l o s =
    let z : i ≡ i + 0 = omega arith in
    (refl, ap length e ∙ ap length (append-nil front) ∙ l ∙ ap (due b) z)
walk b i front (c ∷ cs) e l o s =
    let zero_more : i + 0 ≡ i = omega arith in
    let at : offset b i ≡ due b i = rw zero_more at (o 0 (omega arith)) in
    let long : length c ≡ size b i = rw zero_more at (s 0 (omega arith)) in
    let one_more : (k : ℕ) → i + suc k ≡ suc i + k = λ k. omega arith in
    let rest = walk b (suc i) (front ++ c) cs (e ∙ sym (append_assoc front c (together cs)))
    (length-append front c ∙ omega (arith, l, at, long))
    (λ k h. subst (λ (m : ℕ). offset b m ≡ due b m) (one_more k) (o (suc k) (omega arith)))
    (λ k h. subst (λ (m : ℕ). length (get_or cs k []) ≡ size b m) (one_more k) (s (suc k) (omega arith))) in
    let past : drop (offset b i) b ≡ c ++ together cs =
    ap (drop (offset b i)) e ∙ drop_at front (c ++ together cs) (offset b i) (l ∙ sym at) in
    let first : job b i ≡ c = ap (take (size b i)) past ∙ take_at c (together cs) (size b i) long in
    ((λ j. first j ∷ rest.0 j), rest.1 ∙ ap (due b) (sym (one_more (length cs))))

-- Good contents, with as many entries after them and each of its size, are a bundle of these entries.
pub bundle_made : (h : List ℕ) → Contents h → (bs : List (List ℕ)) → length bs ≡ entries h
    → ((k : ℕ) → k < length bs → length (get_or bs k []) ≡ size h k)
    → Bundle (h ++ together bs) × (jobs (h ++ together bs) ≡ bs)
bundle_made h c bs n s =
    let b = h ++ together bs in
    let w = c.whole in
    let none : (k : ℕ) → k ≡ 0 + k = λ k. omega arith in
    let t = walk b 0 h bs refl (w ∙ sym (due_front h (together bs) w 0 (omega arith)))
    (λ k l.
    let m : k < entries h = omega arith in
    subst (λ (i : ℕ). offset b i ≡ due b i) (none k)
    (offset_front h (together bs) w k m ∙ c.offsets k m ∙ sym (due_front h (together bs) w k (omega arith))))
    (λ k l.
    let m : k < entries h = omega arith in
    subst (λ (i : ℕ). length (get_or bs k []) ≡ size b i) (none k) (s k l ∙ sym (size_front h (together bs) w k m))) in
    let same : length bs ≡ entries b = n ∙ sym (entries_front h (together bs) w) in
    let ends : length b ≡ due h (entries h) =
    t.1 ∙ ap (due b) (sym (none (length bs)) ∙ n) ∙ due_front h (together bs) w (entries h) (omega arith) in
    ((bundle_iff h (together bs) w).1 (c, ends), ap (jobs_from b 0) (sym same) ∙ t.0)

-- ---- the loop over the entries, where entry i is due at this number, and x is whether it begins there

module _ (h : List ℕ) (i at : ℕ) (x : Bool) (is : at ≡ due h i) (test : x ≡ eqb (offset h i) at) where
  tested : x ≡ begins_due h i
  tested = test ∙ ap (eqb (offset h i)) is

  pub order_stops : i < entries h → x ≡ false → false ≡ in_order h
  order_stops l e = sym (every_stops (begins_due h) (entries h) i l (sym tested ∙ e))

  pub order_more : x ≡ true → every_below i (begins_due h) ≡ true → every_below (i + 1) (begins_due h) ≡ true
  order_more e before = every_more (begins_due h) i before (sym tested ∙ e)

  pub due_next : x ≡ true → (n : ℕ) → n ≡ size h i → at + n ≡ due h (i + 1)
  due_next e n s =
      let here : offset h i ≡ due h i = eqb-true (offset h i) (due h i) (sym tested ∙ e) in
      rw (add-one i) (omega (arith, is, here, s))

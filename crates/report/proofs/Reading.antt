-- What was read makes a bundle: the contents, and then the entries, one after another.
use Prim.Native.Nat.{ℕ, zero, suc, ◌+◌, ◌-◌, ◌≤◌, ◌<◌, min}
use mathlib.Core.Bool.{Bool, true, false, false≢true}
use mathlib.Core.List.{List, [], ◌∷◌, ◌++◌, append-nil}
use mathlib.Core.Logic.{◌↔◌, ◌⊎◌, inl, inr}
use mathlib.Core.Path.{◌≡◌, refl, sym, ap, subst, ◌∙◌}
use native.Mathlib.Omega.{arith}
use native.Mathlib.Numerals.{add-one}
use borrow.Author.Tests.{eqb-true, eqb-false}
use lib.Dec.{eqb}
use lib.ListN.{length, get_or, take, drop, length-append, replicate, length-replicate, get_or-append, take-append-drop}
use lib.Seq.{get_or-append_seam, length-take-le, take_at, take_all}
use Rattle.std.specs.Prelude.{Option, Some, None, Result, Ok, Err}
use Rattle.std.specs.Bool.{then_some}
use Rattle.sets.proofs.Bits.{same_or, below_or}
use Rattle.totals.specs.Bundle.{entries, offset, size, due, contents_size, entries_counted, contents_fit, Bundle}
use Rattle.totals.specs.Classes.{entry_room, Falls, FallsAs}
use Rattle.totals.specs.Reported.{Reported, Gathered}
use Rattle.totals.specs.Totals.{no_totals, added}
use Rattle.totals.specs.declared.class.Class.{Class}
use Rattle.totals.specs.declared.tally.Totals.{Totals}
use Rattle.totals.proofs.Bundles.{Contents, contents_iff, counted_is, entries_front, bundle_iff, judged, together, bundle_made}
use Rattle.totals.proofs.Reporting.{reported_none, reported_more}
use Rattle.report.specs.Read.{CameOf, whole, cut, Entries, contents, Gives, Fits, MonthOf, told_of, told, Told, told_refused, told_reported}
use Rattle.report.specs.Report.{report, refused, Tells, refuses, reports}
use Rattle.report.specs.declared.Month.{Month}

-- the class of an entry that came
abbrev class_in : Result Class ℕ → Class
class_in (Ok c) = c
class_in (Err k) = Class.Losing

-- how many bytes of a cut one came
abbrev bytes_in : Result Class ℕ → ℕ
bytes_in (Ok c) = 0
bytes_in (Err k) = k

abbrev came_line : Result Class ℕ → ℕ
came_line (Ok c) = 0
came_line (Err k) = 1

cut_not : {c : Class} {k : ℕ} → ◌≡◌ {A = Result Class ℕ} (Err k) (Ok c) → ⊥
cut_not e = let z : ◌≡◌ {A = ℕ} 1 0 = ap came_line e in omega arith

-- fewer bytes than that came
pub cut_short : {b : List ℕ} {size k : ℕ} {x : Result Class ℕ} → CameOf b size x → x ≡ Err k → k < size
cut_short {b} {size} {k} {x} came i = go x came i
  where
    go : (y : Result Class ℕ) → CameOf b size y → y ≡ Err k → k < size
    go (Ok c) came j = absurd (cut_not (sym j))
    go (Err j) (cut l) e = subst (λ (m : ℕ). m < size) (ap bytes_in e) l

-- ---- an entry

-- the first bytes with as many zeros after them as the entry is longer
filled : (first : List ℕ) (n : ℕ) → length first ≡ min n entry_room
    → (length (first ++ replicate (n - length first) 0) ≡ n) × (take entry_room (first ++ replicate (n - length first) 0) ≡ first)
filled first n e = go (below_or entry_room n)
  where
    more : List ℕ
    more = replicate (n - length first) 0

    long : length (first ++ more) ≡ n
    long = omega (arith, length-append first more, length-replicate {A = ℕ} (n - length first) 0, e)

    go : (entry_room < n) ⊎ (n ≤ entry_room) → (length (first ++ more) ≡ n) × (take entry_room (first ++ more) ≡ first)
    go (inl h) = (long, take_at first more entry_room (omega arith))
    go (inr h) =
        let none : n - length first ≡ 0 = omega arith in
        (long, rw none (ap (take entry_room) (append-nil first) ∙ take_all entry_room first (omega arith)))

-- there is an entry of which these are the first bytes
entry_with : {first : List ℕ} {size : ℕ} {c : Class} → length first ≡ min size entry_room → FallsAs first size c
    → (b : List ℕ) × (length b ≡ size) × Falls b c
entry_with {first} {size} e f =
    let (long, same) = filled first size e in
    (first ++ replicate (size - length first) 0, long, f (first ++ replicate (size - length first) 0) long same)

pub came_whole : {b : List ℕ} {n size : ℕ} {c : Class} → n ≡ min size entry_room → FallsAs (take n b) size c → CameOf b size (Ok c)
came_whole {b} {n} {size} {c} e f = whole (subst (λ (k : ℕ). FallsAs (take k b) size c) e f)

-- ---- the entries

pub entries_none : (h : List ℕ) → Entries h 0 no_totals
entries_none h = record { all = []; count = refl; sizes = λ k l. absurd (omega arith); reported = reported_none }

module _ {h : List ℕ} {n : ℕ} {t : Totals} (e : Entries h n t) where
  pub entries_few : n ≤ 63 → Gathered t 63
  entries_few l = (e.all, e.reported, omega (arith, e.count))

  pub entries_all : n ≤ 64 → Gathered t 64
  entries_all l = (e.all, e.reported, omega (arith, e.count))

  -- one more came
  pub entries_more : {f : List ℕ} {m : ℕ} {c : Class} {x : Result Class ℕ} {u : Totals} → CameOf f m x → x ≡ Ok c
      → m ≡ size h n → u ≡ added t c → entry_room ≤ length f → Entries h (n + 1) u
  entries_more {f} {m} {c} {x} {u} came i s r room = subst (Entries h (n + 1)) (sym r) (go x came i)
    where
      go : (y : Result Class ℕ) → CameOf f m y → y ≡ Ok c → Entries h (n + 1) (added t c)
      go (Ok d) (whole w) j = with_entry (entry_with (length-take-le (min m entry_room) f (omega arith)) w)
        where
          same_class : {d : Class} → ◌≡◌ {A = Result Class ℕ} (Ok d) (Ok c) → d ≡ c
          same_class q = ap class_in q

          with_entry : (b : List ℕ) × (length b ≡ m) × Falls b d → Entries h (n + 1) (added t c)
          with_entry (b, long, falls) =
              record {
                all = e.all ++ (b ∷ []);
                count = length-append e.all (b ∷ []) ∙ omega (arith, e.count);
                sizes = λ k l. sized k l (same_or k n);
                reported = reported_more e.reported (subst (Falls b) (same_class j) falls);
              }
            where
              sized : (k : ℕ) → k < n + 1 → (k ≡ n) ⊎ (k ≡ n → ⊥) → length (get_or (e.all ++ (b ∷ [])) k []) ≡ size h k
              sized k l (inl z) =
                  subst (λ (i : ℕ). length (get_or (e.all ++ (b ∷ [])) i []) ≡ size h i) (sym z)
                  (ap (λ (i : ℕ). length (get_or (e.all ++ (b ∷ [])) i [])) (sym e.count) ∙ ap length (get_or-append_seam e.all b [] [])
                  ∙ long ∙ s)
              sized k l (inr d) =
                  let below : k < n = omega arith in
                  ap length (get_or-append e.all (b ∷ []) [] k (omega (arith, e.count))) ∙ e.sizes k below
      go (Err k) came j = absurd (cut_not j)

-- ---- how many bytes came

none_not : {t : Totals} → ◌≡◌ {A = Option Totals} None (Some t) → ⊥
none_not e = let z : ◌≡◌ {A = ℕ} 0 1 = ap has e in omega arith
  where
    has : Option Totals → ℕ
    has None = 0
    has (Some t) = 1

whole_month : (h : List ℕ) (k : ℕ) (t : Totals) → Fits h k → Entries h (entries h) t → Gathered t 64
    → MonthOf h (record { came = k; totals = Some t })
whole_month h k t f all few =
    record {
      fits = λ e. f;
      fails = λ z. absurd (none_not (sym z));
      all = λ e. subst (Entries h (entries h)) (ap taken e) all;
      gathered = λ u e. subst (λ (u : Totals). Gathered u 64) (ap taken e) few;
    }
  where
    taken : Option Totals → Totals
    taken None = t
    taken (Some u) = u

no_month : (h : List ℕ) (k : ℕ) → (Fits h k → ⊥) → MonthOf h (record { came = k; totals = None })
no_month h k bad =
    record { fits = λ e. absurd (none_not e); fails = λ z. bad; all = λ e. absurd (none_not e); gathered = λ t e. absurd (none_not e) }

-- entries begin one after another
rises : (h : List ℕ) → Contents h → (i j : ℕ) → i ≤ j → j ≤ entries h → due h i ≤ due h j
rises h c i zero l m = let z : i ≡ 0 = omega arith in subst (λ (x : ℕ). due h x ≤ due h 0) (sym z) (omega arith)
rises h c i (suc j) l m = go (λ k. rises h c i j k (omega arith)) (same_or i (suc j))
  where
    go : (i ≤ j → due h i ≤ due h j) → (i ≡ suc j) ⊎ (i ≡ suc j → ⊥) → due h i ≤ due h (suc j)
    go before (inl e) = subst (λ (x : ℕ). due h i ≤ due h x) e (omega arith)
    go before (inr d) =
        let k : i ≤ j = omega arith in
        let here : offset h j ≡ due h j = c.offsets j (omega arith) in
        omega (arith, before k, here)

pub due_first : (h : List ℕ) → contents_fit h ≡ true → length h ≡ due h 0
due_first h fit = ((contents_iff h).0 fit).whole

module _ (h : List ℕ) (n at m : ℕ) (fit : contents_fit h ≡ true) (below : n < entries h) (is : at ≡ due h n) (s : m ≡ size h n) where
  -- after entry n the next is due
  pub due_more : at + m ≡ due h (n + 1)
  due_more = let here : offset h n ≡ due h n = ((contents_iff h).0 fit).offsets n below in rw (add-one n) (omega (arith, is, here, s))

  -- where the input ended in entry n, it is no bundle
  pub month_cut : (k : ℕ) → k < m → MonthOf h (record { came = at + k; totals = None })
  month_cut k l =
      let c = (contents_iff h).0 fit in
      let last = rises h c (n + 1) (entries h) (omega arith) (omega arith) in
      no_month h (at + k) (λ f. omega (arith, f.1, due_more, last))

-- all entries came, and so many bytes more
pub month_ended : (h : List ℕ) (n at more : ℕ) {t : Totals} {x : Option Totals} → contents_fit h ≡ true → n ≡ entries h → at ≡ due h n
    → Entries h n t → x ≡ then_some (eqb more 0) t → MonthOf h (record { came = at + more; totals = x })
month_ended h n at more {t} {x} fit all is e test =
    subst (λ (y : Option Totals). MonthOf h (record { came = at + more; totals = y })) (sym test) (go (eqb more 0) refl)
  where
    ends : at ≡ due h (entries h)
    ends = is ∙ ap (due h) all

    go : (y : Bool) → eqb more 0 ≡ y → MonthOf h (record { came = at + more; totals = then_some y t })
    go true i =
        let none : more ≡ 0 = eqb-true more 0 i in
        whole_month h (at + more) t (fit, omega (arith, ends)) (subst (λ (k : ℕ). Entries h k t) all e)
        (entries_all e (omega (arith, ((contents_iff h).0 fit).few)))
    go false i = no_month h (at + more) (λ f. eqb-false more 0 i (omega (arith, ends, f.1)))

-- the contents do not fit
pub month_none : {h : List ℕ} {k : ℕ} → contents_fit h ≡ false → MonthOf h (record { came = k; totals = None })
month_none {h} {k} bad = no_month h k (λ f. false≢true (sym bad ∙ f.0))

-- what is said of it is what is to be printed
pub month_told : {h text : List ℕ} {m : Month} → MonthOf h m → text ≡ told m → Told h m.came text
month_told {h} {text} {m} o e = subst (Told h m.came) (sym e) (go m.totals refl)
  where
    go : (x : Option Totals) → m.totals ≡ x → Told h m.came (told_of m.totals)
    go (Some t) i = rw i (told_reported (o.fits i) (o.all i))
    go None i = rw i (told_refused (o.fails i))

-- ---- what is printed is what `Tells` asks for

module _ (b : List ℕ) (came : ℕ) where
  both : contents b ++ drop (contents_size (entries_counted b)) b ≡ b
  both = take-append-drop (contents_size (entries_counted b)) b

  -- of its own contents
  came_own : (contents_fit (contents b) ≡ true → came ≤ length b)
      → (contents_fit (contents b) ≡ true → came ≤ due (contents b) (entries (contents b)) → length b ≡ came) → Bundle b ↔ Fits (contents b) came
  came_own least ended = (there, back)
    where
      rest : List ℕ
      rest = drop (contents_size (entries_counted b)) b

      there : Bundle b → Fits (contents b) came
      there g =
          let fit = ((judged b).0 g).0 in
          let w = ((contents_iff (contents b)).0 fit).whole in
          let ends : length b ≡ due (contents b) (entries (contents b)) =
          ap length (sym both) ∙ ((bundle_iff (contents b) rest w).0 (subst Bundle (sym both) g)).1 in
          (fit, sym (ended fit (omega (arith, least fit, ends))) ∙ ends)

      back : Fits (contents b) came → Bundle b
      back f =
          let c = (contents_iff (contents b)).0 f.0 in
          let ends : length b ≡ came = ended f.0 (omega (arith, f.1)) in
          subst Bundle both ((bundle_iff (contents b) rest c.whole).1 (c, ap length both ∙ ends ∙ f.1))

-- Of bytes of which these contents and so many bytes come: they are a bundle exactly where that fits.
pub came_iff : {b h : List ℕ} {came : ℕ} → Gives b h came → Bundle b ↔ Fits h came
came_iff {b} {h} {came} g =
    subst
    (λ (x : List ℕ). (contents_fit x ≡ true → came ≤ length b) → (contents_fit x ≡ true → came ≤ due x (entries x) → length b ≡ came)
    → Bundle b ↔ Fits x came) g.front (came_own b came) g.least g.ended

-- So where it does not fit, "refused 23" is what is to be printed of them.
pub refused_right : {b h : List ℕ} {came : ℕ} → Gives b h came → (Fits h came → ⊥) → Tells b refused
refused_right g bad = refuses (λ z. bad ((came_iff g).0 z))

-- Where it fits, and entries of these sizes have these totals, they are those of a bundle of which the same comes.
pub reported_right : {h : List ℕ} {came : ℕ} {t : Totals} → Fits h came → Entries h (entries h) t
    → (b : List ℕ) × Gives b h came × Tells b (report t)
reported_right {h} {came} {t} f e =
    let c = (contents_iff h).0 f.0 in
    let r = together e.all in
    let (made, all) = bundle_made h c e.all e.count (λ k l. e.sizes k (omega (arith, e.count))) in
    let right = subst (λ (x : List (List ℕ)). Reported x t) (sym all) e.reported in
    let same : entries (h ++ r) ≡ entries h = entries_front h r c.whole in
    let counted : entries (h ++ r) ≡ entries_counted (h ++ r) = counted_is (h ++ r) made.counted refl made.few in
    let front : contents (h ++ r) ≡ h = take_at h r (contents_size (entries_counted (h ++ r))) (omega (arith, c.whole, same, counted)) in
    let long : length (h ++ r) ≡ came = ((bundle_iff h r c.whole).0 made).1 ∙ sym f.1 in
    (h ++ r, record { front = front; least = λ z. omega (arith, long); ended = λ z l. long }, reports made right)

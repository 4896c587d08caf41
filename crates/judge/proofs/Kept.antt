-- Of a formula or a trace as numbers of any size, the first 65 as bytes tell all that judging asks.
use Prim.Native.Nat.{ℕ, suc, ◌≤◌, ◌<◌, min}
use mathlib.Core.List.{List, [], ◌∷◌, ◌++◌, map}
use mathlib.Core.Path.{◌≡◌, refl, sym, ap, ap₂, ◌∙◌, subst}
use native.Mathlib.Omega.{arith}
use lib.ListN.{length, take, length-take, length-map}
use lib.Seq.{take_all}
use Rattle.rules.specs.Formula.{Formula, Satisfies}
use Rattle.judging.specs.Formulas.{written, Atoms, Formed}
use Rattle.judging.specs.Judging.{TraceFits, LabelsFit, Judging, trace_bad, formula_bad, too_deep, label_bad, yes, no}
use Rattle.judge.specs.Lines.{capped}

abbrev pub kept : List ℕ → List ℕ
kept ns = take 65 (map capped ns)

-- each number is one that a byte shows as it is
unfoldable AllLow : List ℕ → Type 0
AllLow [] = Unit {0}
AllLow (x ∷ xs) = (x < 255) × AllLow xs

low_append : (xs ys : List ℕ) → AllLow xs → AllLow ys → AllLow (xs ++ ys)
unfolding AllLow
low_append [] ys l m = m
low_append (x ∷ xs) ys l m = (l.0, low_append xs ys l.1 m)

low_written : (f : Formula) → Atoms f → AllLow (written f)
unfolding AllLow Atoms written
low_written (Formula.atom p) a = (omega arith, tt)
low_written (Formula.not f) a = (omega arith, low_written f a)
low_written (Formula.and f g) a = (omega arith, low_append (written f) (written g) (low_written f a.0) (low_written g a.1))
low_written (Formula.next f) a = (omega arith, low_written f a)
low_written (Formula.until f g) a = (omega arith, low_append (written f) (written g) (low_written f a.0) (low_written g a.1))
low_written (Formula.weak_next f) a = (omega arith, low_written f a)
low_written (Formula.eventually f) a = (omega arith, low_written f a)
low_written (Formula.always f) a = (omega arith, low_written f a)

low_labels : (t : List ℕ) → LabelsFit t → AllLow t
unfolding AllLow
low_labels [] h = tt
low_labels (l ∷ ls) h = (omega (arith, h 0 (omega arith)), low_labels ls (λ i k. h (suc i) (omega arith)))

-- such numbers stay as they are, and came from no others
capped_low : (ns : List ℕ) → AllLow ns → map capped ns ≡ ns
unfolding AllLow
capped_low [] l = refl
capped_low (x ∷ xs) l = let e : capped x ≡ x = omega (arith, l.0) in ap₂ (λ (y : ℕ) (ys : List ℕ). y ∷ ys) e (capped_low xs l.1)

came_low : (ns : List ℕ) → AllLow (map capped ns) → map capped ns ≡ ns
unfolding AllLow
came_low [] l = refl
came_low (x ∷ xs) l = let e : capped x ≡ x = omega (arith, l.0) in ap₂ (λ (y : ℕ) (ys : List ℕ). y ∷ ys) e (came_low xs l.1)

module _ (ns : List ℕ) where
  length_kept : length (kept ns) ≡ min 65 (length ns)
  length_kept = length-take 65 (map capped ns) ∙ ap (min 65) (length-map ns capped)

  whole : length ns ≤ 64 → kept ns ≡ map capped ns
  whole h = take_all 65 (map capped ns) (omega (arith, length-map ns capped))

  kept_same : length ns ≤ 64 → AllLow ns → kept ns ≡ ns
  kept_same h l = whole h ∙ capped_low ns l

  kept_came : length (kept ns) ≤ 64 → AllLow (kept ns) → kept ns ≡ ns
  kept_came h l =
      let e = whole (omega (arith, length_kept)) in e ∙ came_low ns (subst AllLow e l)

  kept_formed : (f : Formula) → Formed ns f → Formed (kept ns) f
  kept_formed f x = subst (λ (w : List ℕ). Formed w f) (sym (kept_same x.few (subst AllLow (sym x.bytes) (low_written f x.atoms)))) x

  came_formed : (f : Formula) → Formed (kept ns) f → Formed ns f
  came_formed f x = subst (λ (w : List ℕ). Formed w f) (kept_came x.few (subst AllLow (sym x.bytes) (low_written f x.atoms))) x

  kept_fits : TraceFits ns → TraceFits (kept ns)
  kept_fits u = record { some = omega (arith, u.some, length_kept); few = omega (arith, u.few, length_kept) }

  came_fits : TraceFits (kept ns) → TraceFits ns
  came_fits u = record { some = omega (arith, u.some, length_kept); few = omega (arith, u.few, length_kept) }

  kept_labels : TraceFits ns → LabelsFit ns → LabelsFit (kept ns)
  kept_labels u l = subst LabelsFit (sym (kept_same u.few (low_labels ns l))) l

  came_trace : TraceFits (kept ns) → LabelsFit (kept ns) → kept ns ≡ ns
  came_trace u l = kept_came u.few (low_labels (kept ns) l)

-- So what judging answers of these bytes it answers of the numbers.
pub kept_judged : {f t : List ℕ} {r a : ℕ} → Judging (kept f) (kept t) r a → Judging f t r a
kept_judged {f} {t} (trace_bad n) = trace_bad (λ u. n (kept_fits t u))
kept_judged {f} {t} (formula_bad u n) = formula_bad (came_fits t u) (λ g x. n g (kept_formed f g x))
kept_judged {f} {t} (too_deep {f = g} u x d) = too_deep (came_fits t u) (came_formed f g x) d
kept_judged {f} {t} (label_bad {f = g} u x d l) =
    label_bad (came_fits t u) (came_formed f g x) d (λ m. l (kept_labels t (came_fits t u) m))
kept_judged {f} {t} (yes {f = g} u x d l s) =
    let e = came_trace t u l in
    yes (came_fits t u) (came_formed f g x) d (subst LabelsFit e l) (subst (λ (w : List ℕ). Satisfies w g) e s)
kept_judged {f} {t} (no {f = g} u x d l s) =
    let e = came_trace t u l in
    no (came_fits t u) (came_formed f g x) d (subst LabelsFit e l) (λ z. s (subst (λ (w : List ℕ). Satisfies w g) (sym e) z))

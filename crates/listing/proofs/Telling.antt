-- The text of an answer, by the case that was matched; and lines that are the same, place by place.
use Prim.Native.Nat.{ℕ, ◌<◌}
use mathlib.Core.List.{List}
use mathlib.Core.Path.{◌≡◌, refl, sym, ap, subst, ◌∙◌}
use lib.Dec.{eqb-suc-zero}
use Rattle.game.specs.Below.{upto, each}
use Rattle.rules.specs.Answers.{refusal_fault, advised_figures}
use Rattle.std.specs.Prelude.{Ok, Err}
use Rattle.rules.specs.declared.answer.Refusal.{Refusal}
use Rattle.rules.specs.Calls.{advised}
use Rattle.rules.proofs.Figures.{refusal_some}
use Rattle.cabinet.specs.Figures.{moved_figures}
use Rattle.cabinet.specs.declared.place.Moved.{Moved}
use Rattle.text.specs.declared.Line.{Line}
use Rattle.text.specs.Puts.{Puts}
use Rattle.text.specs.Lines.{refusal_line}
use Rattle.text.proofs.Repeating.{each_same}
use Rattle.listing.specs.Listing.{lines}
use Rattle.listing.specs.Told.{or_refused, advice_line, value_line, moved_line}

-- An answer x was matched as y, its figures are f, and the text of y's figures was put: it is the text of f.
pub told : {X F : Type 0} (figures : X → F) (text : F → List ℕ) {l m : Line} {x y : X} {f : F} {t : List ℕ} → x ≡ y
    → figures x ≡ f → text (figures y) ≡ t → Puts l t m → Puts l (text f) m
told figures text {l} {m} e is same put =
    subst (λ (w : List ℕ). Puts l w m) (sym same ∙ sym (ap (λ z. text (figures z)) e) ∙ ap text is) put

pub told_refused : {X F : Type 0} (figures : X → F) (text : F → List ℕ) (refuse : Refusal → X)
    → ((r : Refusal) → text (figures (refuse r)) ≡ refusal_line (refusal_fault r))
    → {l m : Line} {x : X} {r : Refusal} {f : F} → x ≡ refuse r → figures x ≡ f
    → Puts l (refusal_line (refusal_fault r)) m → Puts l (text f) m
told_refused figures text refuse same {r = r} e is put = told figures text e is (same r) put

-- a refusal's number is not 0, so its line is the text
refused_line : (r : Refusal) (t : List ℕ) → or_refused (refusal_fault r) t ≡ refusal_line (refusal_fault r)
refused_line r t = rw ((refusal_some r).1, eqb-suc-zero (refusal_some r).0)

pub advice_refused : (s q : ℕ) (r : Refusal) → advice_line s q (advised_figures (Err r)) ≡ refusal_line (refusal_fault r)
unfolding advice_line
advice_refused s q r = refused_line r _

pub value_refused : (s q : ℕ) (r : Refusal) → value_line s q (advised_figures (Err r)) ≡ refusal_line (refusal_fault r)
unfolding value_line
value_refused s q r = refused_line r _

pub moved_refused : (b p : List ℕ) (r : Refusal) → moved_line b p (moved_figures (Err r)) ≡ refusal_line (refusal_fault r)
unfolding moved_line
moved_refused b p r = refused_line r _

-- where starting is not refused, advice answers of the starting place
pub moved_says : (b p : List ℕ) (m : Moved)
    → moved_line b p (moved_figures (Ok m)) ≡ value_line m.place.state m.place.goal (advised b p m.place.state m.place.goal)
unfolding moved_line
moved_says b p m = refl

-- ---- the lines of all places

pub lines_same : (f g : ℕ → ℕ → List ℕ) (S Q : ℕ) → ((s q : ℕ) → s < S → q < Q → f s q ≡ g s q) → lines f S Q ≡ lines g S Q
lines_same f g S Q h =
    each_same (λ s. each (upto Q) (f s)) (λ s. each (upto Q) (g s)) S (λ s hs. each_same (f s) (g s) Q (λ q hq. h s q hs hq))

-- The laws of words and lines: how a text's words and lines go on from a position, by the byte that stands there.
use Prim.Native.Nat.{ℕ, suc, ◌+◌, ◌-◌, ◌≤◌, ◌<◌}
use mathlib.Core.Bool.{Bool, true, false, not, ◌&&◌, false≢true}
use mathlib.Core.List.{List, [], ◌∷◌}
use mathlib.Core.Logic.{◌⊎◌, inl, inr, ⊎_elim}
use types.Run.{OneOf}
use mathlib.Core.Path.{◌≡◌, refl, sym, ap, ap₂, ◌∙◌}
use native.Mathlib.Numerals.{add-one}
use native.Mathlib.Omega.{arith}
use borrow.Author.Tests.{eq-eqb, ne_eqb, eqb-true, eqb-false, le-leb, lt-leb}
use lib.Dec.{eqb}
use lib.Pointwise.{pointwise}
use denote.Enum.Bare.{sameb, differs_true}
use Rattle.lines.specs.contracts.word.Class.{the_type}
use lib.ListN.{length, take, drop, get_or, drop_of_length-le}
use lib.Seq.{drop-cons, drop-drop}
use Rattle.lines.specs.declared.word.Class.{Class}
use Rattle.lines.specs.Words.{class, class_number, in_word, glue, words, lines_after, lines, lines_from, run, letters, blanks, part, NextWord, NextLine, same_word}

-- ---- by the first byte

-- the bytes of a class that begin these bytes, by the first of them
pub run_more : (c b : ℕ) (bs : List ℕ) → class b ≡ c → run c (b ∷ bs) ≡ suc (run c bs)
unfolding run
run_more c b bs e = rw (eq-eqb (class b) c e)

pub run_none : (c b : ℕ) (bs : List ℕ) → (class b ≡ c → ⊥) → run c (b ∷ bs) ≡ 0
unfolding run
run_none c b bs n = rw (ne_eqb (class b) c n)

-- blanks are no words
pub words_blanks : (xs : List ℕ) → words xs ≡ words (drop (blanks xs) xs)
unfolding words run
words_blanks [] = refl
words_blanks (b ∷ bs) = go (eqb (class b) 0) refl (words_blanks bs)
  where
    go : (z : Bool) → eqb (class b) 0 ≡ z → words bs ≡ words (drop (blanks bs) bs) → words (b ∷ bs) ≡ words (drop (blanks (b ∷ bs)) (b ∷ bs))
    go true z r =
        let e : class b ≡ 0 = eqb-true (class b) 0 z in
        let l : eqb (class b) 3 ≡ false = ne_eqb (class b) 3 (omega arith) in
        let m : eqb (class b) 2 ≡ false = ne_eqb (class b) 2 (omega arith) in
        rw (run_more 0 b bs e) (head e ∙ r)
      where
        head : class b ≡ 0 → words (b ∷ bs) ≡ words bs
        head e = rw (e, words)
    go false z r = rw (run_none 0 b bs (eqb-false (class b) 0 z))

-- a word by itself, or the end
pub words_mark : (b : ℕ) (bs : List ℕ) → class b ≡ 2 → words (b ∷ bs) ≡ (b ∷ []) ∷ words bs
unfolding words
words_mark b bs e = rw e

pub words_end : (b : ℕ) (bs : List ℕ) → (class b ≡ 3 → ⊥) → (class b ≡ 2 → ⊥) → (class b ≡ 0 → ⊥) → words (b ∷ bs) ≡ []
unfolding words
words_end b bs l m n = rw (ne_eqb (class b) 3 l, ne_eqb (class b) 2 m, ne_eqb (class b) 0 n)

-- the letters that begin these bytes are the first word
pub words_letters : (xs : List ℕ) → in_word xs ≡ true → words xs ≡ take (letters xs) xs ∷ words (drop (letters xs) xs)
unfolding in_word words run glue
words_letters [] i = absurd (false≢true i)
words_letters (b ∷ bs) i = go (in_word bs) refl (words_letters bs)
  where
    lone : (ys : List ℕ) → in_word ys ≡ false → letters ys ≡ 0
    lone [] e = refl
    lone (y ∷ ys) e = run_none 3 y ys (eqb-false (class y) 3 e)

    letter : class b ≡ 3
    letter = eqb-true (class b) 3 i

    begun : words (b ∷ bs) ≡ glue b (in_word bs) (words bs)
    begun = rw (letter, words)

    go : (z : Bool) → in_word bs ≡ z → (in_word bs ≡ true → words bs ≡ take (letters bs) bs ∷ words (drop (letters bs) bs))
        → words (b ∷ bs) ≡ take (letters (b ∷ bs)) (b ∷ bs) ∷ words (drop (letters (b ∷ bs)) (b ∷ bs))
    go true z r = rw (run_more 3 b bs letter) (begun ∙ rw (z, r z, glue))
    go false z r = rw (run_more 3 b bs letter, lone bs z) (begun ∙ rw (z, glue))

-- ---- a position further on

-- what begins at a position where bytes are left
pub at_byte : (t : List ℕ) (i : ℕ) → i < length t → drop i t ≡ get_or t i 0 ∷ drop (i + 1) t
at_byte t i h = rw (add-one i) (drop-cons t i 0 h)

pub run_step : (c : ℕ) (t : List ℕ) (i : ℕ) → i < length t → class (get_or t i 0) ≡ c → i + run c (drop i t) ≡ i + 1 + run c (drop (i + 1) t)
run_step c t i h e = rw (at_byte t i h, run_more c (get_or t i 0) (drop (i + 1) t) e) (omega arith)

pub run_stop : (c : ℕ) (t : List ℕ) (i : ℕ) → i < length t → (class (get_or t i 0) ≡ c → ⊥) → run c (drop i t) ≡ 0
run_stop c t i h n = rw (at_byte t i h) (run_none c (get_or t i 0) (drop (i + 1) t) n)

pub run_past : (c : ℕ) (t : List ℕ) (i : ℕ) → length t ≤ i → run c (drop i t) ≡ 0
unfolding run
run_past c t i h = rw (drop_of_length-le t {i = i} h)

-- after its blanks a text has no blank
pub blanks_over : (xs : List ℕ) → blanks (drop (blanks xs) xs) ≡ 0
unfolding run
blanks_over [] = refl
blanks_over (b ∷ bs) = go (eqb (class b) 0) refl (blanks_over bs)
  where
    go : (z : Bool) → eqb (class b) 0 ≡ z → blanks (drop (blanks bs) bs) ≡ 0 → blanks (drop (blanks (b ∷ bs)) (b ∷ bs)) ≡ 0
    go true z r = rw (run_more 0 b bs (eqb-true (class b) 0 z)) r
    go false z r = rw (run_none 0 b bs (eqb-false (class b) 0 z)) (run_none 0 b bs (eqb-false (class b) 0 z))

-- ---- the next word

module _ (t : List ℕ) (start : ℕ) where
  -- no word where the text ends, and where the line's words end
  pub none_past : length t ≤ start → start ≤ length t → NextWord t start start start
  unfolding words
  none_past h l =
      record {
        forward = omega arith;
        order = omega arith;
        inside = l;
        said = rw (eq-eqb start start refl, drop_of_length-le t {i = start} h);
      }

  pub none_here : start < length t → blanks (drop start t) ≡ 0 → (class (get_or t start 0) ≡ 3 → ⊥) → (class (get_or t start 0) ≡ 2 → ⊥)
      → NextWord t start start start
  none_here h z l m =
      record {
        forward = omega arith;
        order = omega arith;
        inside = omega arith;
        said = rw (eq-eqb start start refl, at_byte t start h) (words_end (get_or t start 0) (drop (start + 1) t) l m blank);
      }
    where
      blank : class (get_or t start 0) ≡ 0 → ⊥
      blank e = let q : start + blanks (drop start t) ≡ start + 1 + blanks (drop (start + 1) t) = run_step 0 t start h e in omega arith

  pub mark_here : start < length t → class (get_or t start 0) ≡ 2 → NextWord t start start (start + 1)
  mark_here h e =
      record {
        forward = omega arith;
        order = omega arith;
        inside = omega arith;
        said = rw (ne_eqb start (start + 1) (omega arith), at_byte t start h, one) (words_mark (get_or t start 0) (drop (start + 1) t) e);
      }
    where
      one : start + 1 - start ≡ 1
      one = omega arith

  pub letters_here : (end : ℕ) → start < length t → class (get_or t start 0) ≡ 3 → end ≡ start + letters (drop start t) → end ≤ length t
      → NextWord t start start end
  unfolding in_word
  letters_here end h e z l =
      record {
        forward = omega arith;
        order = omega arith;
        inside = l;
        said =
            rw (ne_eqb start end (λ q. some q), long, past)
            (words_letters (drop start t) begins);
      }
    where
      begins : in_word (drop start t) ≡ true
      begins = rw (at_byte t start h) (eq-eqb (class (get_or t start 0)) 3 e)

      some : start ≡ end → ⊥
      some q = let p : start + letters (drop start t) ≡ start + 1 + letters (drop (start + 1) t) = run_step 3 t start h e in omega arith

      long : end - start ≡ letters (drop start t)
      long = omega arith

      past : drop end t ≡ drop (letters (drop start t)) (drop start t)
      past = rw z (sym (drop-drop (letters (drop start t)) start t))

-- the blanks before a word change nothing
pub after_blanks : (t : List ℕ) (at start : ℕ) {s e : ℕ} → start ≡ at + blanks (drop at t) → NextWord t start s e → NextWord t at s e
after_blanks t at start {s} {e} z n =
    record {
      forward = omega (arith, n.forward);
      order = n.order;
      inside = n.inside;
      said = words_blanks (drop at t) ∙ ap words (drop-drop (blanks (drop at t)) at t ∙ ap (λ (i : ℕ). drop i t) (sym z)) ∙ n.said;
    }

pub no_blanks : (t : List ℕ) (at start : ℕ) → start ≡ at + blanks (drop at t) → blanks (drop start t) ≡ 0
no_blanks t at start z = rw (z, ← drop-drop (blanks (drop at t)) at t) (blanks_over (drop at t))

-- ---- the next line

-- the lines after a position that holds no line feed are those after the next one
pub lines_step : (t : List ℕ) (i : ℕ) → i < length t → (get_or t i 0 ≡ 10 → ⊥) → lines_after (drop i t) ≡ lines_after (drop (i + 1) t)
unfolding lines_after
lines_step t i h n = rw (at_byte t i h, lines_after, ne_eqb (get_or t i 0) 10 n)

pub lines_feed : (t : List ℕ) (i : ℕ) → i < length t → get_or t i 0 ≡ 10 → lines_after (drop i t) ≡ lines_from t (i + 1)
unfolding lines_after
lines_feed t i h e = rw (at_byte t i h, lines_after, eq-eqb (get_or t i 0) 10 e, le-leb (i + 1) (length t) (omega arith))

pub lines_past : (t : List ℕ) (i : ℕ) → i ≡ length t → lines_after (drop i t) ≡ lines_from t (i + 1)
unfolding lines_after
lines_past t i e = rw (drop_of_length-le t {i = i} (omega arith), lt-leb (i + 1) (length t) (omega arith))

pub line_next : (t : List ℕ) (at i : ℕ) → at ≤ i → i ≤ length t → lines_after (drop at t) ≡ lines_after (drop i t)
    → lines_after (drop i t) ≡ lines_from t (i + 1) → NextLine t at (i + 1)
line_next t at i l h p q =
    record {
      forward = omega arith;
      inside = omega arith;
      said = rw (le-leb at (length t) (omega arith)) (ap (λ (ls : List (List (List ℕ))). words (drop at t) ∷ ls) (p ∙ q));
    }

-- ---- the same word

pub same_word_true : (x y : List ℕ) → same_word x y ≡ true → x ≡ y
unfolding same_word
same_word_true [] [] e = refl
same_word_true [] (y ∷ ys) e = absurd (false≢true e)
same_word_true (x ∷ xs) [] e = absurd (false≢true e)
same_word_true (x ∷ xs) (y ∷ ys) e = go (eqb x y) refl (same_word_true xs ys)
  where
    go : (z : Bool) → eqb x y ≡ z → (same_word xs ys ≡ true → xs ≡ ys) → x ∷ xs ≡ y ∷ ys
    go true z r = ap₂ ◌∷◌ (eqb-true x y z) (r (rw z at e))
    go false z r = absurd (false≢true (rw z at e))

pub same_word_self : (x : List ℕ) → same_word x x ≡ true
unfolding same_word
same_word_self [] = refl
same_word_self (x ∷ xs) = rw (eq-eqb x x refl) (same_word_self xs)

pub same_word_eq : (x y : List ℕ) → x ≡ y → same_word x y ≡ true
same_word_eq x y e = rw e (same_word_self y)

-- the test of two slices is that of two words
pub same_pointwise : (x y : List ℕ) → pointwise eqb x y ≡ same_word x y
unfolding same_word
same_pointwise [] [] = refl
same_pointwise [] (y ∷ ys) = refl
same_pointwise (x ∷ xs) [] = refl
same_pointwise (x ∷ xs) (y ∷ ys) = ap (λ b. eqb x y && b) (same_pointwise xs ys)

-- ---- what a byte is

pub class_of_blank : (b : ℕ) → OneOf (9 ∷ (13 ∷ (32 ∷ []))) b → 0 ≡ class b
unfolding class
class_of_blank b = ⊎_elim (λ (e : b ≡ 9). rw e refl) (⊎_elim (λ (e : b ≡ 13). rw e refl) (λ (e : b ≡ 32). rw e refl))

pub class_of_end : (b : ℕ) → OneOf (10 ∷ (35 ∷ [])) b → 1 ≡ class b
unfolding class
class_of_end b = ⊎_elim (λ (e : b ≡ 10). rw e refl) (λ (e : b ≡ 35). rw e refl)

pub class_of_mark : (b : ℕ) → OneOf (44 ∷ (58 ∷ (124 ∷ []))) b → 2 ≡ class b
unfolding class
class_of_mark b = ⊎_elim (λ (e : b ≡ 44). rw e refl) (⊎_elim (λ (e : b ≡ 58). rw e refl) (λ (e : b ≡ 124). rw e refl))

pub class_of_letter : (b : ℕ) → (OneOf (9 ∷ (13 ∷ (32 ∷ []))) b → ⊥) → (OneOf (10 ∷ (35 ∷ [])) b → ⊥)
    → (OneOf (44 ∷ (58 ∷ (124 ∷ []))) b → ⊥) → 3 ≡ class b
unfolding class
class_of_letter b x y z =
    rw (
      ne_eqb b 32 (λ e. x (inr (inr e))),
      ne_eqb b 9 (λ e. x (inl e)),
      ne_eqb b 13 (λ e. x (inr (inl e))),
      ne_eqb b 10 (λ e. y (inl e)),
      ne_eqb b 35 (λ e. y (inr e)),
      ne_eqb b 58 (λ e. z (inr (inl e))),
      ne_eqb b 124 (λ e. z (inr (inr e))),
      ne_eqb b 44 (λ e. z (inl e)),
    )

-- classes that the test tells apart have numbers of their own
pub other_class : (x y : Class) → not (sameb the_type x y) ≡ true → class_number x ≡ class_number y → ⊥
other_class x y n e = differs_true the_type x y n (same_number x y e)
  where
    same_number : (x y : Class) → class_number x ≡ class_number y → x ≡ y
    same_number Class.Blank Class.Blank e = refl
    same_number Class.Blank Class.End e = absurd (omega arith)
    same_number Class.Blank Class.Mark e = absurd (omega arith)
    same_number Class.Blank Class.Letter e = absurd (omega arith)
    same_number Class.End Class.Blank e = absurd (omega arith)
    same_number Class.End Class.End e = refl
    same_number Class.End Class.Mark e = absurd (omega arith)
    same_number Class.End Class.Letter e = absurd (omega arith)
    same_number Class.Mark Class.Blank e = absurd (omega arith)
    same_number Class.Mark Class.End e = absurd (omega arith)
    same_number Class.Mark Class.Mark e = refl
    same_number Class.Mark Class.Letter e = absurd (omega arith)
    same_number Class.Letter Class.Blank e = absurd (omega arith)
    same_number Class.Letter Class.End e = absurd (omega arith)
    same_number Class.Letter Class.Mark e = absurd (omega arith)
    same_number Class.Letter Class.Letter e = refl

-- neither a blank nor the end is part of a word
pub no_word_class : (x : Class) → (x ≡ Class.Blank) ⊎ (x ≡ Class.End) → class_number x ≤ 1
no_word_class x = ⊎_elim (λ (e : x ≡ Class.Blank). rw e (omega arith)) (λ (e : x ≡ Class.End). rw e (omega arith))

-- ---- a word that was found, or not

pub after_none : {t : List ℕ} {at s e : ℕ} → NextWord t at s e → s ≡ e → words (drop at t) ≡ []
after_none {t} {at} {s} {e} n q = n.said ∙ rw (eq-eqb s e q)

pub after_some : {t : List ℕ} {at s e : ℕ} → NextWord t at s e → (s ≡ e → ⊥) → words (drop at t) ≡ part t s e ∷ words (drop e t)
after_some {t} {at} {s} {e} n q = n.said ∙ rw (ne_eqb s e q)

pub words_past : (t : List ℕ) (i : ℕ) → length t ≤ i → words (drop i t) ≡ []
unfolding words
words_past t i h = rw (drop_of_length-le t {i = i} h)

pub no_lines_from : (t : List ℕ) (at : ℕ) → length t < at → lines_from t at ≡ []
no_lines_from t at h = rw (lt-leb at (length t) h)

pub lines_first : (t : List ℕ) → lines_from t 0 ≡ lines t
lines_first t = rw (le-leb 0 (length t) (omega arith))

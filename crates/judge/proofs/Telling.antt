-- What is printed of two lines: it is one text, it is short, and what puts it in a buffer.
use Prim.Native.Nat.{ℕ, suc, ◌≤◌, ◌<◌}
use mathlib.Core.Bool.{Bool, true, false, cond}
use mathlib.Core.List.{List, [], ◌∷◌, map}
use mathlib.Core.Logic.{◌≢◌}
use mathlib.Core.Path.{◌≡◌, refl, sym, ap, ap₂, ◌∙◌, subst, subst⁻¹}
use native.Mathlib.Omega.{arith}
use lib.Dec.{eqb}
use lib.ListN.{length, take, drop, length-append, length-drop, drop_of_length-le}
use Rattle.io.specs.Counts.{IsPrefixLen}
use Rattle.game.proofs.Search.{clash}
use Rattle.text.specs.declared.Line.{Line}
use Rattle.text.specs.PutText.{PutText}
use Rattle.text.specs.Puts.{Puts}
use Rattle.text.specs.Lines.{decimal, bytes, line_of}
use Rattle.text.proofs.Digits.{decimal_length}
use Rattle.text.proofs.Lengths.{put_front}
use Rattle.std.specs.Prelude.{Result}
use Rattle.judging.specs.declared.run.JudgeError.{JudgeError}
use Rattle.judging.specs.Judging.{error_number, judged_refusal, judged_holds, Judging, trace_bad, formula_bad, too_deep, label_bad, yes, no}
use Rattle.judging.proofs.Answers.{judging_unique}
use Rattle.judge.specs.Lines.{is_list, numbers, index_of, first_line, after_line, capped}
use Rattle.judge.specs.Tells.{input_room, figures_line, TellsLines, first_is_none, second_is_none, judged, Tells, too_long, more_lines, lines}
use Rattle.judge.specs.Tells.{ToldLines, Told}
use Rattle.judge.proofs.Scanning.{put_kept}
use Rattle.judge.proofs.Kept.{kept, kept_judged}

-- ---- the text is one

lines_unique : {v w t u : List ℕ} → TellsLines v w t → TellsLines v w u → t ≡ u
lines_unique (first_is_none e) (first_is_none d) = refl
lines_unique (first_is_none e) (second_is_none d f) = absurd (clash d e)
lines_unique (first_is_none e) (judged d f j) = absurd (clash d e)
lines_unique (second_is_none e f) (first_is_none d) = absurd (clash e d)
lines_unique (second_is_none e f) (second_is_none d g) = refl
lines_unique (second_is_none e f) (judged d g j) = absurd (clash g f)
lines_unique (judged e f j) (first_is_none d) = absurd (clash e d)
lines_unique (judged e f j) (second_is_none d g) = absurd (clash f g)
lines_unique (judged e f j) (judged d g k) = let (r, a) = judging_unique j k in ap₂ figures_line r a

pub tells_unique : {b t u : List ℕ} → Tells b t → Tells b u → t ≡ u
tells_unique (too_long h) (too_long l) = refl
tells_unique (too_long h) (more_lines l m) = absurd (omega arith)
tells_unique (too_long h) (lines l e x) = absurd (omega arith)
tells_unique (more_lines h m) (too_long l) = absurd (omega arith)
tells_unique (more_lines h m) (more_lines l n) = refl
tells_unique (more_lines h m) (lines l e x) = absurd (m e)
tells_unique (lines h e x) (too_long l) = absurd (omega arith)
tells_unique (lines h e x) (more_lines l n) = absurd (n e)
tells_unique (lines h e x) (lines l d y) = lines_unique x y

-- ---- it is short

small : {f t : List ℕ} {r a : ℕ} → Judging f t r a → r < 100
small (trace_bad n) = omega arith
small (formula_bad u n) = omega arith
small (too_deep u x d) = omega arith
small (label_bad u x d l) = omega arith
small (yes u x d l s) = omega arith
small (no u x d l s) = omega arith

figures_short : (r a : ℕ) → r < 100 → length (figures_line r a) ≤ 38
figures_short r a h = go (eqb r 0) (eqb a 1)
  where
    go : (x y : Bool)
        → length (cond x (cond y (bytes "holds\n") (bytes "does not hold\n")) (line_of (bytes "refused") (decimal r ∷ []))) ≤ 38
    go true true = omega arith
    go true false = omega arith
    go false y = simp length-append (omega (arith, decimal_length r 1 (omega arith)))

lines_short : {v w text : List ℕ} → TellsLines v w text → length text ≤ 38
lines_short (first_is_none e) = omega arith
lines_short (second_is_none e f) = omega arith
lines_short (judged {r} {a} e f j) = figures_short r a (small j)

pub tells_short : {b text : List ℕ} → Tells b text → length text ≤ 38
tells_short (too_long h) = omega arith
tells_short (more_lines h m) = omega arith
tells_short (lines h e x) = lines_short x

-- what is refused has its number's line
pub refused_line : (why : JudgeError) → figures_line (error_number why) 0 ≡ line_of (bytes "refused") (decimal (error_number why) ∷ [])
refused_line JudgeError.Trace = refl
refused_line JudgeError.Formula = refl
refused_line JudgeError.Depth = refl
refused_line JudgeError.Letter = refl

-- So in a buffer of 64 bytes the first n are the text.
pub told_whole : {b out left : List ℕ} {n : ℕ} (text : List ℕ) → Tells b text → PutText out 0 text left n → 64 ≤ length out
    → IsPrefixLen n left × Tells b (take n left)
told_whole {b} text t put room =
    let (count, is) = put_front put (omega (arith, tells_short t)) in (count, subst⁻¹ (Tells b) is t)

-- ---- what is left in the buffer, by what was found

module _ {v w : List ℕ} {line after : Line} where
  pub told_first : is_list v ≡ false → Puts line (bytes "the first line is no list of numbers\n") after → ToldLines v w line after
  told_first e put = record { text = bytes "the first line is no list of numbers\n"; tells = first_is_none e; put = put }

  pub told_second : is_list v ≡ true → is_list w ≡ false → Puts line (bytes "the second line is no list of numbers\n") after
      → ToldLines v w line after
  told_second e f put = record { text = bytes "the second line is no list of numbers\n"; tells = second_is_none e f; put = put }

  -- judged by the bytes that are kept of the numbers
  pub told_judged : {fs fs' ts ts' : List ℕ} {k m : ℕ} (x : Result Bool JudgeError) → is_list v ≡ true → is_list w ≡ true
      → PutText fs 0 (map capped (numbers v)) fs' k → length fs ≡ 65 → PutText ts 0 (map capped (numbers w)) ts' m → length ts ≡ 65
      → Judging (take k fs') (take m ts') (judged_refusal x) (judged_holds x)
      → Puts line (figures_line (judged_refusal x) (judged_holds x)) after → ToldLines v w line after
  told_judged {fs} {fs'} {ts} {ts'} {k} {m} x e f p l q o j put =
      let formula : take k fs' ≡ kept (numbers v) = put_kept p ∙ ap (λ (i : ℕ). take i (map capped (numbers v))) l in
      let trace : take m ts' ≡ kept (numbers w) = put_kept q ∙ ap (λ (i : ℕ). take i (map capped (numbers w))) o in
      let whole : Judging (numbers v) (numbers w) (judged_refusal x) (judged_holds x) = kept_judged (rw (formula, trace) at j) in
      record { text = figures_line (judged_refusal x) (judged_holds x); tells = judged e f whole; put = put }

module _ (b : List ℕ) where
  pub told_long : {line after : Line} → input_room ≤ length b → Puts line (bytes "the input is too long\n") after → Told b line after
  told_long h put = record { text = bytes "the input is too long\n"; tells = too_long h; put = put }

  -- where the lines end: the first at e, what comes after it is `rest`, in which the second ends at s, and what comes after that begins at m
  module _ (h : length b < input_room) (rest : List ℕ) (e s m : ℕ) (first : e ≡ index_of 10 b) (after : rest ≡ drop (suc e) b)
      (second : s ≡ index_of 10 rest) (past : drop m rest ≡ drop (suc s) rest) where
    third : after_line (after_line b) ≡ drop m rest
    third =
        let line : after_line b ≡ rest = ap (λ (i : ℕ). drop (suc i) b) (sym first) ∙ sym after in
        ap after_line line ∙ ap (λ (i : ℕ). drop (suc i) rest) (sym second) ∙ sym past

    pub told_more : {line after : Line} → m < length rest
        → Puts line (bytes "there are more than two lines\n") after → Told b line after
    told_more l put =
        record { text = bytes "there are more than two lines\n"; tells = more_lines h (λ z. some (sym third ∙ z)); put = put }
      where
        some : drop m rest ≢ []
        some z = let w : length (drop m rest) ≡ 0 = ap length z in omega (arith, length-drop m rest)

    pub told_two : {line after : Line} → length rest ≤ m
        → ToldLines (take e b) (take s rest) line after → Told b line after
    told_two l t =
        let line : rest ≡ after_line b = after ∙ ap (λ (i : ℕ). drop (suc i) b) first in
        let v : take e b ≡ first_line b = ap (λ (i : ℕ). take i b) first in
        let w : take s rest ≡ first_line (after_line b) = ap (λ (i : ℕ). take i rest) second ∙ ap first_line line in
        record {
          text = t.text;
          tells = lines h (third ∙ drop_of_length-le rest l) (subst (λ (x : List ℕ). TellsLines (first_line b) x t.text) w
              (subst (λ (x : List ℕ). TellsLines x (take s rest) t.text) v t.tells));
          put = t.put;
        }

-- What is printed of a job and a plan: it is one text, it is short, and what puts it in a buffer.
use Prim.Native.Nat.{ℕ, ◌+◌, ◌*◌, ◌≤◌, ◌<◌}
use mathlib.Core.Bool.{Bool, true, false, cond}
use mathlib.Core.List.{List, [], ◌∷◌}
use mathlib.Core.Logic.{◌≢◌}
use mathlib.Core.Path.{◌≡◌, refl, sym, ap, ◌∙◌, subst⁻¹}
use native.Mathlib.Omega.{arith}
use lib.Arith.{digits_lt}
use lib.Dec.{ltb, eqb}
use lib.ListN.{length, get_or, take, length-append}
use Rattle.io.specs.Counts.{IsPrefixLen}
use Rattle.game.specs.Game.{Right}
use Rattle.game.specs.declared.entry.Entry.{Entry}
use Rattle.game.proofs.Right.{right_unique}
use Rattle.rules.specs.Job.{place, arena}
use Rattle.rules.specs.Fault.{Fault, only}
use Rattle.rules.specs.Bytes.{refusal, said}
use Rattle.rules.specs.Plan.{entry, planned_entry}
use Rattle.rules.specs.Answers.{refusal_fault}
use Rattle.rules.specs.Calls.{Planning}
use Rattle.rules.specs.declared.answer.Refusal.{Refusal}
use Rattle.rules.proofs.Arenas.{inside_iff, arena_lawful}
use Rattle.rules.proofs.Existing.{right_small}
use Rattle.rules.proofs.Figures.{refusal_of, refusal_back, refusal_some}
use Rattle.rules.proofs.Kept.{states_few, kept}
use Rattle.rules.proofs.Numbers.{told}
use Rattle.rules.proofs.Planned.{planned_right}
use Rattle.job.specs.Layout.{Fit}
use Rattle.job.specs.declared.layout.Layout.{Layout}
use Rattle.job.proofs.Asking.{states_said, goals_said}
use Rattle.text.specs.declared.Line.{Line}
use Rattle.text.specs.PutText.{PutText}
use Rattle.text.specs.Puts.{Puts}
use Rattle.text.specs.Lines.{decimal, bytes, value_word, action_word, line_of, refusal_line}
use Rattle.text.proofs.Digits.{decimal_length}
use Rattle.text.proofs.Lengths.{short_value, short_refusal, fault_few, put_front}
use Rattle.checking.specs.Checking.{Checking, refused, no_room, passed, checked_figures, Checks}
use Rattle.checking.specs.Checking as checking
use Rattle.std.specs.Prelude.{Ok, Err}
use Rattle.checking.specs.declared.check.CheckError.{CheckError}
use Rattle.checking.proofs.Checked.{checking_unique, wrong_at}
use Rattle.compare.specs.Tells.{said_value, said_text, wrong_line, Tells, right, wrong, refuses, Told}

-- ---- the text is one

-- where the check of one plan answers two things, they are the same
number_same : {b p : List ℕ} {f g : Fault} {s q t r : ℕ} → Checking b p f s q → Checking b p g t r → f.number ≡ g.number
number_same c d = ap (λ (f : Fault). f.number) (checking_unique c d).0

pub tells_unique : {b p t u : List ℕ} → Tells b p t → Tells b p u → t ≡ u
tells_unique (right c) (right d) = refl
tells_unique (right c) (wrong d r) = absurd (omega (arith, number_same c d))
tells_unique (right c) (refuses d z w) = absurd (z (sym (number_same c d)))
tells_unique (wrong c r) (right d) = absurd (omega (arith, number_same c d))
tells_unique {b} {p} (wrong {s} {q} {r = x} c r) (wrong {s = s'} {q = q'} {r = y} d r') =
    let (f, e, g) = checking_unique c d in
    let other : Right (arena (said b)) (place s q) y = rw (e, g) r' in
    let same = right_unique (arena (said b)) (arena_lawful b (wrong_at c refl).keeps) r other in
    λ i. wrong_line (e i) (g i) (planned_entry (said b) p (place (e i) (g i))) (same i)
tells_unique (wrong c r) (refuses d z w) = absurd (w (sym (number_same c d)))
tells_unique (refuses c z w) (right d) = absurd (z (number_same c d))
tells_unique (refuses c z w) (wrong d r) = absurd (w (number_same c d))
tells_unique (refuses c z w) (refuses d z' w') = ap refusal_line (checking_unique c d).0

-- ---- it is short

short_said_value : (v : ℕ) → v < 256 → length (said_value v) ≤ 7
short_said_value v h = go (ltb v 3)
  where
    go : (x : Bool) → length (cond x (value_word v) (decimal v)) ≤ 7
    go true = short_value v
    go false = omega (arith, decimal_length v 2 (omega arith))

short_action : (a : ℕ) → a < 256 → length (action_word a) ≤ 3
short_action a h = go (eqb a 255)
  where
    go : (x : Bool) → length (cond x (bytes "-") (decimal a)) ≤ 3
    go true = omega arith
    go false = decimal_length a 2 (omega arith)

short_said : (e : Entry) → e.value < 256 → e.action < 256 → e.number < 65536 → length (said_text e) ≤ 17
short_said e v a n =
    simp length-append
    (omega (arith, short_said_value e.value v, short_action e.action a, decimal_length e.number 4 (omega arith)))

short_wrong : (s q e r : List ℕ) → length s ≤ 3 → length q ≤ 2 → length e ≤ 17 → length r ≤ 17
    → length (line_of (bytes "wrong") (s ∷ q ∷ bytes "says" ∷ e ∷ bytes "right" ∷ r ∷ [])) ≤ 60
short_wrong s q e r hs hq he hr = simp length-append (omega arith)

checking_few : {b p : List ℕ} {f : Fault} {s q : ℕ} → Checking b p f s q → (f.number < 100) × (f.«record» < 10000)
checking_few {b} (refused n) = fault_few b (told b).among
checking_few (no_room e l) = (omega arith, omega arith)
checking_few (checking.wrong e l hs hq w f) = (omega arith, omega arith)
checking_few (passed e l f) = (omega arith, omega arith)

pub tells_short : {b p text : List ℕ} → ((i : ℕ) → get_or p i 0 < 256) → Tells b p text → length text ≤ 60
tells_short byte (right c) = omega arith
tells_short {b} {p} byte (wrong {s} {q} {r} c d) =
    let w = wrong_at c refl in
    let k = w.keeps in
    let i = (inside_iff (said b) (place s q)).1 (w.state, w.goal) in
    let e = planned_entry (said b) p (place s q) in
    let at = 4 * (s * (said b).goals + q) in
    let small = right_small k i d in
    short_wrong (decimal s) (decimal q) (said_text e) (said_text r) (decimal_length s 2 (omega (arith, w.state, states_few k)))
    (decimal_length q 1 (omega (arith, w.goal, k.few_goals)))
    (short_said e (byte at) (byte (at + 1)) (omega (arith, byte (at + 2), byte (at + 2 + 1))))
    (short_said r (small 0) (small 1) (omega (arith, small 2, small 3)))
tells_short byte (refuses {f} c z w) = let (n, k) = checking_few c in omega (arith, short_refusal f n k)

-- So in a buffer of 64 bytes the first n are the text.
pub told_whole : {b p out left : List ℕ} {line after : Line} {n : ℕ} (t : Told b p line after) → PutText out 0 t.text left n
    → ((i : ℕ) → get_or p i 0 < 256) → 64 ≤ length out → IsPrefixLen n left × Tells b p (take n left)
told_whole {b} {p} t put byte room =
    let (count, text) = put_front put (omega (arith, tells_short byte t.tells)) in
    (count, subst⁻¹ (Tells b p) text t.tells)

-- ---- what is left in the buffer, by what the check answered

-- no refusal has the number of a wrong entry
not_wrong : (r : Refusal) → (refusal_fault r).number ≢ 16
not_wrong r e =
    let is : r ≡ Refusal.Memory = sym (refusal_back r) ∙ ap (λ (n : ℕ). refusal_of n (refusal_fault r).«record») e in
    let n : (refusal_fault r).number ≡ 17 = ap (λ (x : Refusal). (refusal_fault x).number) is in
    omega arith

pub told_refused : {b p : List ℕ} {line after : Line} (r : Refusal) → Checks b p (checked_figures (Err (CheckError.Refused r)))
    → Puts line (refusal_line (refusal_fault r)) after → Told b p line after
told_refused r c put =
    record {
      text = refusal_line (refusal_fault r);
      tells = refuses c (λ z. let m = refusal_some r in omega (arith, m.1)) (not_wrong r);
      put = put;
    }

pub told_right : {b p : List ℕ} {line after : Line} → Checks b p (checked_figures (Ok tt))
    → Puts line (line_of (bytes "right") []) after → Told b p line after
told_right c put = record { text = line_of (bytes "right") []; tells = right c; put = put }

module _ {b p : List ℕ} {l : Layout} {s q : ℕ} (t : Fit b l) (c : Checking b p (only 16) s q) where
  -- the entry of the place is one of the plan's
  pub entry_inside : s * l.goals + q < l.states * l.goals
  entry_inside = let w = wrong_at c refl in digits_lt (rw (states_said t) w.state) (rw (goals_said t) w.goal)

  pub told_wrong : {own own' : List ℕ} {line after : Line} {e r : Entry} → Planning b own (only 0) own' → e ≡ entry p (s * l.goals + q)
      → r ≡ entry own' (s * l.goals + q) → Puts line (wrong_line s q e r) after → Told b p line after
  told_wrong {own' = own'} d eq er put =
      let w = wrong_at c refl in
      let i = (inside_iff (said b) (place s q)).1 (w.state, w.goal) in
      record {
        text = wrong_line s q (planned_entry (said b) p (place s q)) (planned_entry (said b) own' (place s q));
        tells = wrong c (planned_right d refl (place s q) i);
        put = rw (eq, er, goals_said t) at put;
      }

-- a job of which the check says that an entry is wrong was read
pub read_wrong : {b p : List ℕ} {s q : ℕ} → Checking b p (only 16) s q → refusal b ≢ 0 → ⊥
read_wrong {b} c n = n ((kept b).1 (wrong_at c refl).keeps)

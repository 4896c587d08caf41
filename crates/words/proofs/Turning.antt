-- The laws of turning a text into a job: from sets of moves and labels to what the lines say, and from tables to the names that are listed.
use Prim.Native.Nat.{ℕ, zero, suc, ◌+◌, ◌*◌, ◌/◌, ◌%◌, ◌≤◌, ◌<◌}
use mathlib.Core.Bool.{Bool, true, false, ◌||◌, or-false}
use mathlib.Core.List.{List, [], ◌∷◌}
use mathlib.Core.Path.{◌≡◌, refl, sym, ap, subst, ◌∙◌}
use native.Mathlib.Omega.{arith}
use lib.Dec.{ltb}
use lib.ListN.{length, get_or, replicate, length-replicate}
use Rattle.sets.specs.Sets.{bit}
use Rattle.sets.proofs.Bits.{bit_none}
use Rattle.rules.specs.Bytes.{said}
use Rattle.std.specs.Prelude.{Option, Some, Result, Err}
use Rattle.job.specs.Layout.{Fit}
use Rattle.job.specs.Forms.{named_form}
use Rattle.job.specs.declared.form.Form.{Form}
use Rattle.job.specs.declared.layout.Layout.{Layout}
use Rattle.job.proofs.Asking.{states_said, actions_said, propositions_said, goals_said, records_said, form_said}
use Rattle.text.specs.Lines.{bytes}
use Rattle.lines.specs.Words.{lines}
use Rattle.lines.specs.Numbers.{has, Gains}
use Rattle.lines.specs.Says.{some_of, says_move, says_fact, number}
use Rattle.meant.specs.Meant.{Meant}
use Rattle.meant.specs.Aimed.{Aimed}
use Rattle.aims.specs.Aims.{given}
use Rattle.laid.specs.declared.whole.Sizes.{Sizes}
use Rattle.whole.specs.Whole.{whole}
use Rattle.words.specs.Turned.{Job, Answers, Told, a_job, faulty}
use Rattle.words.specs.Within.{Aims, aims, Counted, Same, Sames, same, other, Sound, Sounds, sound, blamed}
use Rattle.words.specs.declared.goal.Aim.{Aim}
use Rattle.words.specs.declared.turn.Faults.{Faults}

-- ---- an empty set, and what was put to it

zeros : (n k : ℕ) → ◌≡◌ {A = ℕ} (get_or (replicate n 0) k 0) 0
zeros zero k = refl
zeros (suc n) zero = refl
zeros (suc n) (suc k) = zeros n k

has_none : (n j : ℕ) → has (replicate n 0) j ≡ false
has_none n j = rw (zeros n (j / 8)) (bit_none (j % 8))

pub gains_all : (n : ℕ) {after : List ℕ} {f : ℕ → Bool} → Gains (replicate n 0) after f → (j : ℕ) → has after j ≡ f j
gains_all n {after} {f} g j = g.members j ∙ (ap (λ (x : Bool). f j || x) (has_none n j) ∙ or-false (f j))

pub gains_both : {before after : List ℕ} {f g : ℕ → Bool} → ((j : ℕ) → has before j ≡ f j) → Gains before after g
    → (j : ℕ) → has after j ≡ (g j || f j)
gains_both {g = g} h x j = x.members j ∙ ap (λ (y : Bool). g j || y) (h j)

-- ---- what a job that is sound for these sets says

module _ {states actions facts goals : List (List ℕ)} {t labels moves : List ℕ}
    (em : (j : ℕ) → has moves j ≡ some_of (says_move states actions j) (lines t))
    (el : (j : ℕ) → has labels j ≡ (some_of (says_fact states (bytes "busy" ∷ []) 7 j) (lines t) || some_of (says_fact states facts 0 j) (lines t))) where
  job_said : {b : List ℕ} → Sound states actions facts goals t labels moves b → Job states actions facts goals t b
  job_said {b = b} x =
      record {
        keeps = x.meant.keeps;
        all_states = x.of_states;
        all_actions = x.of_actions;
        all_facts = x.of_facts;
        moves = λ s a u hs ha hu. x.meant.recorded_said s a u hs ha hu ∙ em (number s a u);
        labels = λ s i hs hi.
            let ed : (8 * s + i) / 8 ≡ s = omega arith in
            let er : (8 * s + i) % 8 ≡ i = omega arith in
            ap (λ (y : ℕ). bit y i) (x.meant.labels_made s hs)
            ∙ (ap (λ (k : ℕ). bit (get_or labels k 0) i) (sym ed)
            ∙ (ap (λ (k : ℕ). bit (get_or labels ((8 * s + i) / 8) 0) k) (sym er) ∙ el (8 * s + i)));
        form = x.of_form;
        whole_lines = x.of_whole;
        start = x.of_start;
        goal = x.of_goal;
      }

  turned : {out : List ℕ} {r : Result ℕ Faults} → Sounds states actions facts goals t labels moves out r → Answers states actions facts goals t out r
  turned (sound h x) = a_job h (job_said x)
  turned blamed = faulty

-- ---- a job that was read, and is the one that was meant

-- a form is named by one truth alone
abbrev in_tall_form : Form → Bool
in_tall_form Form.Old = false
in_tall_form Form.Tall = true

named_back : (x : Bool) → in_tall_form (named_form x) ≡ x
named_back true = refl
named_back false = refl

same_form : {x y : Bool} → named_form x ≡ named_form y → x ≡ y
same_form {x} {y} e = sym (named_back x) ∙ (ap in_tall_form e ∙ named_back y)

pub same_job : {b labels moves body : List ℕ} {l : Layout} {z : Sizes} → Fit b l → Counted l z
    → l.form ≡ named_form (ltb 128 l.states || ltb 4096 l.records) → (said b).first ≡ z.start
    → Aimed b body z.goal z.first → Meant b labels moves → Same z labels moves body b
same_job {b} {l = l} fit e form start goal m =
    record {
      meant = m;
      of_states = sym (states_said fit) ∙ e.states_counted;
      of_actions = sym (actions_said fit) ∙ e.actions_counted;
      of_facts = sym (propositions_said fit) ∙ e.facts_counted;
      of_goals = sym (goals_said fit) ∙ e.goals_counted;
      of_form =
          same_form (sym (form_said fit) ∙ form)
          ∙ (ap (λ (x : ℕ). ltb 128 x || ltb 4096 l.records) (states_said fit) ∙ ap (λ (x : ℕ). ltb 128 (said b).states || ltb 4096 x) (records_said fit));
      of_start = start;
      of_goal = goal;
    }

-- a job with the numbers, labels, moves and Goal body of a text has its start and its goal
pub sounds_same : {t : List ℕ} {states actions facts goals : List (List ℕ)} {z : Sizes} {p : ℕ} {labels moves body out : List ℕ} {w : Option Aim} {a : Aim}
    {r : Result ℕ Faults} → Aims facts goals t p body w → w ≡ Some a → z.goal ≡ a.size → z.goals ≡ a.goals → z.first ≡ a.first
    → z.states ≡ length states → z.actions ≡ length actions → z.facts ≡ p → p ≡ length facts → whole states actions facts (lines t) ≡ true
    → z.start ≡ given (bytes "start") states (lines t) → Sames z labels moves body out r → Sounds states actions facts goals t labels moves out r
sounds_same {t} {states} {actions} {facts} {goals} {z} {p} {body = body} {a = a} x e en eg ef es ea ez efs ew eb y =
    go (subst (Aims facts goals t p body) e x) y
  where
    go : {labels moves out : List ℕ} {r : Result ℕ Faults} → Aims facts goals t p body (Some a) → Sames z labels moves body out r
        → Sounds states actions facts goals t labels moves out r
    go (aims f) (same h q) =
        sound h
        record {
          meant = q.meant;
          of_states = q.of_states ∙ es;
          of_actions = q.of_actions ∙ ea;
          of_facts = q.of_facts ∙ (ez ∙ efs);
          of_form = q.of_form;
          of_whole = ew;
          of_start = q.of_start ∙ eb;
          of_goal = f _ (q.of_facts ∙ ez) (q.of_goals ∙ eg) (rw (sym en, sym ef) q.of_goal);
        }
    go (aims f) other = blamed

-- ---- from what was gathered to what the lines say

pub turned_named : (t : List ℕ) (states actions facts goals busy : List (List ℕ)) {first labels moves out : List ℕ} {r : Result ℕ Faults}
    → Gains (replicate 512 0) first (λ j. some_of (says_fact states facts 0 j) (lines t))
    → Gains first labels (λ j. some_of (says_fact states busy 7 j) (lines t)) → busy ≡ bytes "busy" ∷ []
    → Gains (replicate 524288 0) moves (λ j. some_of (says_move states actions j) (lines t))
    → Sounds states actions facts goals t labels moves out r → Answers states actions facts goals t out r
turned_named t states actions facts goals busy {labels = labels} k h e m x =
    turned (gains_all 524288 m) said_labels x
  where
    said_labels : (j : ℕ) → has labels j
        ≡ (some_of (says_fact states (bytes "busy" ∷ []) 7 j) (lines t) || some_of (says_fact states facts 0 j) (lines t))
    said_labels j =
        gains_both (gains_all 512 k) h j
        ∙ ap (λ (ns : List (List ℕ)). some_of (says_fact states ns 7 j) (lines t) || some_of (says_fact states facts 0 j) (lines t)) e

-- ---- the names are those that the text lists

pub answered : {t out : List ℕ} {r : Result ℕ Faults} {s s' a a' f f' g g' : List (List ℕ)} → s ≡ s' → a ≡ a' → f ≡ f' → g ≡ g'
    → Answers s a f g t out r → Answers s' a' f' g' t out r
answered {t} {out} {r} {s} {s'} {a} {a'} {f} {f'} {g} {g'} es ea ef eg x =
    subst (λ (y : List (List ℕ)). Answers y a' f' g' t out r) es
    (subst (λ (y : List (List ℕ)). Answers s y f' g' t out r) ea
    (subst (λ (y : List (List ℕ)). Answers s a y g' t out r) ef (subst (λ (y : List (List ℕ)). Answers s a f y t out r) eg x)))

-- an answer that is the same promises the same
pub same_answer : {t out : List ℕ} {r r' : Result ℕ Faults} {s a f g : List (List ℕ)} → r ≡ r' → Answers s a f g t out r → Answers s a f g t out r'
same_answer {t} {out} {s = s} {a} {f} {g} e x = subst (λ (y : Result ℕ Faults). Answers s a f g t out y) e x

-- what is told in a buffer is told in one that is as long
pub told_long : {m n : ℕ} {f : Faults} → m ≡ n → Told m (Err f) → Told n (Err f)
told_long {f = f} e x = subst (λ (y : ℕ). Told y (Err f)) e x

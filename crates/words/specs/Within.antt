-- What the parts of turning promise to one another: a goal's body in bytes, a job that has given numbers, and one that has a text's start and goal.
use Rattle.std.specs.Prelude.{ℕ, ◌≤◌, true, ◌||◌, List, ◌≡◌, ltb, length, take, Option, Some, None, Result, Ok, Err}
use Rattle.rules.specs.Bytes.{is_tall, said}
use Rattle.slips.specs.Writing.{clauses, slips_refusal, Body}
use Rattle.laid.specs.declared.whole.Sizes.{Sizes}
use Rattle.job.specs.declared.layout.Layout.{Layout}
use Rattle.text.specs.Lines.{bytes}
use Rattle.lines.specs.Words.{lines}
use Rattle.aims.specs.Aims.{given}
use Rattle.whole.specs.Whole.{whole}
use Rattle.meant.specs.Meant.{Meant}
use Rattle.meant.specs.Aimed.{Aimed}
use Rattle.words.specs.Turned.{Goal}
use Rattle.words.specs.declared.goal.Aim.{Aim}
use Rattle.words.specs.declared.turn.Faults.{Faults}

-- ---- a goal's body

-- the first n bytes are the body of slips, which no number refuses
pub data Slipped (s : List ℕ) (p : ℕ) (body : List ℕ) : Option Aim → Type 0 where
  slipped : {a : Aim} → slips_refusal s p 2080 ≡ 0 → Body (clauses s) p (take a.size body) → a.first ≡ 0 → Slipped s p body (Some a)
  unslipped : Slipped s p body None

-- a job with P propositions, so many goal states, this first one and the first n bytes as its Goal body has the goal of the text
pub data Aims (facts goals : List (List ℕ)) (t : List ℕ) (p : ℕ) (body : List ℕ) : Option Aim → Type 0 where
  aims : {a : Aim} → ((b : List ℕ) → (said b).propositions ≡ p → (said b).goals ≡ a.goals → Aimed b body a.size a.first → Goal facts goals t b)
      → Aims facts goals t p body (Some a)
  aimless : Aims facts goals t p body None

-- ---- a job that has given numbers

-- a layout has these counts
pub record Counted (l : Layout) (z : Sizes) : Type 0 where
  pub states_counted : l.states ≡ z.states
  pub actions_counted : l.actions ≡ z.actions
  pub facts_counted : l.propositions ≡ z.facts
  pub goals_counted : l.goals ≡ z.goals

-- the job has these numbers, labels, moves and Goal body
pub record Same (z : Sizes) (labels moves body b : List ℕ) : Type 0 where
  pub meant : Meant b labels moves
  pub of_states : (said b).states ≡ z.states
  pub of_actions : (said b).actions ≡ z.actions
  pub of_facts : (said b).propositions ≡ z.facts
  pub of_goals : (said b).goals ≡ z.goals
  pub of_form : is_tall b ≡ (ltb 128 (said b).states || ltb 4096 (said b).records)
  pub of_start : (said b).first ≡ z.start
  pub of_goal : Aimed b body z.goal z.first

pub data Sames (z : Sizes) (labels moves body out : List ℕ) : Result ℕ Faults → Type 0 where
  same : {n : ℕ} → n ≤ length out → Same z labels moves body (take n out) → Sames z labels moves body out (Ok n)
  other : {f : Faults} → Sames z labels moves body out (Err f)

-- ---- a job that has a text's start and goal, and given labels and moves

pub record Sound (states actions facts goals : List (List ℕ)) (t labels moves b : List ℕ) : Type 0 where
  pub meant : Meant b labels moves
  pub of_states : (said b).states ≡ length states
  pub of_actions : (said b).actions ≡ length actions
  pub of_facts : (said b).propositions ≡ length facts
  pub of_form : is_tall b ≡ (ltb 128 (said b).states || ltb 4096 (said b).records)
  pub of_whole : whole states actions facts (lines t) ≡ true
  pub of_start : (said b).first ≡ given (bytes "start") states (lines t)
  pub of_goal : Goal facts goals t b

pub data Sounds (states actions facts goals : List (List ℕ)) (t labels moves out : List ℕ) : Result ℕ Faults → Type 0 where
  sound : {n : ℕ} → n ≤ length out → Sound states actions facts goals t labels moves (take n out)
      → Sounds states actions facts goals t labels moves out (Ok n)
  blamed : {f : Faults} → Sounds states actions facts goals t labels moves out (Err f)

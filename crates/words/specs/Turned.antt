-- What a job that was written from a text promises: it keeps the rules, and its states, actions, facts, records, labels, start and goal are those
-- that the text's lines say.
use Rattle.std.specs.Prelude.{ℕ, ◌+◌, ◌*◌, ◌≤◌, ◌<◌, true, ◌||◌, List, [], ◌∷◌, ◌≡◌, ltb, length, take, Result, Ok, Err}
use Rattle.sets.specs.Sets.{bit}
use Rattle.rules.specs.Job.{recorded}
use Rattle.rules.specs.Bytes.{is_tall, byte, said}
use Rattle.rules.specs.Keeps.{Keeps}
use Rattle.slips.specs.Writing.{clauses, slips_refusal}
use Rattle.slips.specs.Playing.{goal_body, GoalFrom}
use Rattle.text.specs.Lines.{bytes}
use Rattle.lines.specs.Words.{lines}
use Rattle.lines.specs.Names.{names}
use Rattle.lines.specs.Says.{some_of, says_move, says_fact, number}
use Rattle.aims.specs.Aims.{given, clauses_said}
use Rattle.rows.specs.Rows.{TableBody}
use Rattle.whole.specs.Whole.{whole}
use Rattle.words.specs.declared.turn.Faults.{Faults}

-- the names that a text lists: of states the first 512, of actions the first 16, of facts the first 6, of goal states the first 32; a text that
-- lists more is a faulty one
abbrev pub state_names : List ℕ → List (List ℕ)
state_names t = names 512 (bytes "states") t

abbrev pub action_names : List ℕ → List (List ℕ)
action_names t = names 16 (bytes "actions") t

abbrev pub fact_names : List ℕ → List (List ℕ)
fact_names t = names 6 (bytes "facts") t

abbrev pub goal_names : List ℕ → List (List ℕ)
goal_names t = names 32 (bytes "goal-states") t

-- The goal of a text t with these names of facts and goal states, in a job b. Where some line says a clause, the clauses of all lines are one to
-- three, of facts that are listed, so that no number refuses them as slips; the Goal body is the one that is written from these slips, and the
-- first goal state is 0. Where no line says a clause, the goal states are those that are listed, the first is the one that the text gives, and
-- the Goal body is the table that the lines say.
pub data Goal (facts goals : List (List ℕ)) (t b : List ℕ) : Type 0 where
  by_clauses : (clauses_said facts (lines t) ≡ [] → ⊥) → slips_refusal (clauses_said facts (lines t)) (said b).propositions 2080 ≡ 0
      → GoalFrom (clauses (clauses_said facts (lines t))) b → Goal facts goals t b
  by_table : clauses_said facts (lines t) ≡ [] → (said b).goals ≡ length goals → (said b).first_goal ≡ given (bytes "first") goals (lines t)
      → TableBody facts goals (lines t) (said b).propositions (goal_body b) → Goal facts goals t b

-- The job b of a text t with these names of states, actions, facts and goal states. It keeps the rules, so that no number refuses it and its
-- records ascend strictly; it has a state, an action and a fact for each name; it is tall exactly where it has more than 128 states or 4,096
-- records; a record is in it exactly when some line says the move; bit i of a state's label is set exactly when some line says fact i of it, or,
-- for i = 7, that it is busy; no word of a line that says moves, facts or a clause is skipped; it starts in the state that the text gives, and its
-- goal is the text's.
pub record Job (states actions facts goals : List (List ℕ)) (t b : List ℕ) : Type 0 where
  pub keeps : Keeps b
  pub all_states : (said b).states ≡ length states
  pub all_actions : (said b).actions ≡ length actions
  pub all_facts : (said b).propositions ≡ length facts
  pub form : is_tall b ≡ (ltb 128 (said b).states || ltb 4096 (said b).records)
  pub moves : (s a u : ℕ) → s < 512 → a < 16 → u < 512 → recorded (said b) s a u ≡ some_of (says_move states actions (number s a u)) (lines t)
  pub labels : (s i : ℕ) → s < (said b).states → i < 8
      → bit (byte b 1 s) i
      ≡ (some_of (says_fact states (bytes "busy" ∷ []) 7 (8 * s + i)) (lines t) || some_of (says_fact states facts 0 (8 * s + i)) (lines t))
  pub whole_lines : whole states actions facts (lines t) ≡ true
  pub start : (said b).first ≡ given (bytes "start") states (lines t)
  pub goal : Goal facts goals t b

-- What turning answers: the first n bytes of the output are the job of the text, or it has faults, which are told.
pub data Answers (states actions facts goals : List (List ℕ)) (t out : List ℕ) : Result ℕ Faults → Type 0 where
  a_job : {n : ℕ} → n ≤ length out → Job states actions facts goals t (take n out) → Answers states actions facts goals t out (Ok n)
  faulty : {f : Faults} → Answers states actions facts goals t out (Err f)

-- Where a text has faults, some byte is told of them in a buffer that has room for one, and no more than it has room for.
abbrev pub Told : ℕ → Result ℕ Faults → Type 0
Told room (Ok n) = Unit {0}
Told room (Err f) = (f.told ≤ room) × (1 ≤ room → 1 ≤ f.told)

-- The two forms of a job's bytes, old and tall: how Counts and a move record are read in each, and how many of what each has room for.
-- Document 01, "A job in bytes", and document 02, request 8. Nothing else depends on the form.
use Rattle.std.specs.Prelude.{ℕ, ◌+◌, ◌*◌, Bool, true, false, List, get_or}
use Rattle.rules.specs.declared.place.Counts.{Counts}
use Rattle.rules.specs.declared.place.Move.{Move}

-- a number of two bytes, low byte first
abbrev pub word : List ℕ → ℕ → ℕ
word b i = get_or b i 0 + 256 * get_or b (i + 1) 0

-- how many bytes Counts and a record have, how many states and records there may be, and what Counts and a record say at a place
pub record Form : Type 0 where
  pub counts_size : ℕ
  pub record_size : ℕ
  pub most_states : ℕ
  pub most_records : ℕ
  pub counts_at : List ℕ → ℕ → Counts
  pub record_at : List ℕ → ℕ → Move

-- Counts: S, A, P, Q, first state, first goal state; a record: state, action, outcome. In the old form each is a byte.
abbrev pub old : Form
old =
    record {
      counts_size = 6;
      record_size = 3;
      most_states = 128;
      most_records = 4096;
      counts_at = λ b i.
          record {
            states = get_or b i 0;
            actions = get_or b (i + 1) 0;
            propositions = get_or b (i + 2) 0;
            goals = get_or b (i + 3) 0;
            first = get_or b (i + 4) 0;
            first_goal = get_or b (i + 5) 0;
          };
      record_at = λ b i. record { state = get_or b i 0; action = get_or b (i + 1) 0; outcome = get_or b (i + 2) 0 };
    }

-- In the tall form S, the first state, and a record's state and outcome are of two bytes.
abbrev pub tall : Form
tall =
    record {
      counts_size = 8;
      record_size = 5;
      most_states = 512;
      most_records = 8192;
      counts_at = λ b i.
          record {
            states = word b i;
            actions = get_or b (i + 2) 0;
            propositions = get_or b (i + 3) 0;
            goals = get_or b (i + 4) 0;
            first = word b (i + 5);
            first_goal = get_or b (i + 7) 0;
          };
      record_at = λ b i. record { state = word b i; action = get_or b (i + 2) 0; outcome = word b (i + 3) };
    }

-- the form, by whether it is the tall one
abbrev pub form_of : Bool → Form
form_of true = tall
form_of false = old

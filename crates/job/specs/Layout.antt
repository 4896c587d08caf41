-- The layout that a job's bytes say, and what reading and asking rely on.
use Rattle.std.specs.Prelude.{ℕ, ◌≤◌, Bool, true, false, List, ◌≡◌, ltb, length}
use Rattle.rules.specs.Fault.{Fault}
use Rattle.rules.specs.Bytes.{offset, is_tall, said, contents, in_range, within_but, judged}
use Rattle.rules.specs.Keeps.{KeepsBut}
use Rattle.rules.specs.declared.place.Move.{Move}
use Rattle.job.specs.Joined.{joined}
use Rattle.job.specs.Forms.{in_rules, named_form}
use Rattle.job.specs.declared.layout.Layout.{Layout}

abbrev pub layout : List ℕ → Layout
layout b =
    record {
      states = (said b).states;
      actions = (said b).actions;
      propositions = (said b).propositions;
      goals = (said b).goals;
      first = (said b).first;
      first_goal = (said b).first_goal;
      records = (said b).records;
      labels_at = offset b 1;
      moves_at = offset b 2;
      goal_at = offset b 3;
      form = named_form (is_tall b);
    }

-- every count and first number of the layout is in its range
abbrev pub in_ranges : Layout → Bool
in_ranges l =
    in_range (in_rules l.form).most_states l.states l.actions l.propositions l.goals l.first l.first_goal

-- what is wrong with record k, which is m, where last is the one before it, joined, or 0
abbrev pub fault_after : Bool → Layout → ℕ → ℕ → Move → Fault
fault_after forgive l k last m = judged (within_but forgive l.states l.actions m) (ltb last (joined m)) k

-- the bytes are long enough for contents, which are in order, and l is what they say
pub record Laid (b : List ℕ) (l : Layout) : Type 0 where
  pub long : 16 ≤ length b
  pub in_order : contents b ≡ true
  pub is_layout : l ≡ layout b

-- the bytes keep the rules, where a too large outcome may be forgiven, and l is what they say
pub record FitBut (forgive : Bool) (b : List ℕ) (l : Layout) : Type 0 where
  pub keeps : KeepsBut forgive b
  pub is_layout : l ≡ layout b

-- the bytes keep the rules, with nothing forgiven
abbrev pub Fit : List ℕ → Layout → Type 0
Fit b l = FitBut false b l

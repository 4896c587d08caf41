-- A job in bytes: the job that they say, and the first number of the table that applies to them.
-- Document 01, "A job in bytes" and "Numbers that say no", 1 to 6, and document 02's 12 and 13. The form is asked in `counted`, `move` and
-- `said`, and by the tests of Counts and Moves; a job says nothing of it.
use Rattle.std.specs.Prelude.{ℕ, zero, suc, ◌+◌, ◌*◌, ◌/◌, ◌%◌, ◌^◌, Bool, true, false, cond, not, ◌&&◌, ◌||◌, List, leb, ltb, eqb, length, get_or}
use Rattle.sets.specs.Sets.{bit}
use Rattle.game.specs.Below.{every_below}
use Rattle.rules.specs.Job.{Job}
use Rattle.rules.specs.Fault.{Fault, only, with_record, or_else}
use Rattle.rules.specs.Form.{word, Form, old, tall, form_of}
use Rattle.rules.specs.declared.place.Counts.{Counts}
use Rattle.rules.specs.declared.place.Move.{Move}

-- The contents: body i has its offset at 4 i, and its length after it. Bodies: 0 Counts, 1 Labels, 2 Moves, 3 Goal.
abbrev pub offset : List ℕ → ℕ → ℕ
offset b i = word b (4 * i)

abbrev pub size : List ℕ → ℕ → ℕ
size b i = word b (4 * i + 2)

-- where body i ends, and its byte k
abbrev pub end : List ℕ → ℕ → ℕ
end b i = offset b i + size b i

abbrev pub byte : List ℕ → ℕ → ℕ → ℕ
byte b i k = get_or b (offset b i + k) 0

-- the length of Counts tells the forms apart
abbrev pub is_tall : List ℕ → Bool
is_tall b = eqb (size b 0) tall.counts_size

abbrev pub form : List ℕ → Form
form b = form_of (is_tall b)

-- what Counts says, and record k of Moves
abbrev pub counted : List ℕ → Counts
counted b = (form b).counts_at b (offset b 0)

abbrev pub move : List ℕ → ℕ → Move
move b k = (form b).record_at b (offset b 2 + (form b).record_size * k)

-- how many labels there are, and bytes before the marks
abbrev pub width : List ℕ → ℕ
width b = 2 ^ (counted b).propositions

abbrev pub rows : List ℕ → ℕ
rows b = (counted b).goals * width b

-- the mark of goal state q
abbrev pub mark : List ℕ → ℕ → ℕ
mark b q = byte b 3 (rows b + q)

-- the job that the bytes say; a state is marked busy by 128 added to its label
abbrev pub said : List ℕ → Job
said b =
    record {
      states = (counted b).states;
      actions = (counted b).actions;
      propositions = (counted b).propositions;
      goals = (counted b).goals;
      first = (counted b).first;
      first_goal = (counted b).first_goal;
      label = λ s. byte b 1 s % 128;
      busy = λ s. bit (byte b 1 s) 7;
      records = size b 2 / (form b).record_size;
      move = move b;
      next = λ q l. byte b 3 (q * width b + l);
      final = λ q. eqb (mark b q) 1;
    }

-- Bodies follow in order with no gap, the first at 16, and the last ends where the job ends; Counts is 6 long, or 8 in the tall form.
abbrev pub contents : List ℕ → Bool
contents b =
    eqb (offset b 0) 16
    && (eqb (offset b 1) (end b 0)
    && (eqb (offset b 2) (end b 1)
    && (eqb (offset b 3) (end b 2)
    && (eqb (length b) (end b 3)
    && (eqb (size b 0) old.counts_size || eqb (size b 0) tall.counts_size)))))

-- S, A, P and Q, and the first state f and first goal state g, each in its range, where there may be so many states
abbrev pub in_range : ℕ → ℕ → ℕ → ℕ → ℕ → ℕ → ℕ → Bool
in_range most s a p q f g =
    leb 1 s && (leb s most && (leb 1 a && (leb a 16 && (leb p 6 && (leb 1 q && (leb q 32 && (ltb f s && ltb g q)))))))

abbrev pub counts : List ℕ → Bool
counts b =
    let j = said b in
    in_range (form b).most_states j.states j.actions j.propositions j.goals j.first j.first_goal

-- a label for each state, below 2^P without its mark
abbrev pub labels : List ℕ → Bool
labels b = eqb (size b 1) (said b).states && every_below (said b).states (λ s. ltb ((said b).label s) (width b))

-- the fields of a record in their ranges, with s states and a actions; a too large outcome may be forgiven, which planning does not
abbrev pub within_but : Bool → ℕ → ℕ → Move → Bool
within_but forgive s a m = ltb m.state s && (ltb m.action a && (forgive || ltb m.outcome s))

-- one record before another as triples, compared field by field
abbrev pub before : Move → Move → Bool
before m n =
    ltb m.state n.state
    || eqb m.state n.state
    && (ltb m.action n.action || eqb m.action n.action && ltb m.outcome n.outcome)

-- record k comes after the one before it
abbrev pub follows : (ℕ → Move) → ℕ → Bool
follows f zero = true
follows f (suc k) = before (f k) (f (suc k))

-- record k by two tests, of its fields and then of its order
abbrev pub judged : Bool → Bool → ℕ → Fault
judged fields order k = cond (not fields) (with_record 12 k) (cond (not order) (with_record 13 k) (only 0))

-- what is wrong with record k
abbrev pub record_fault : Bool → Job → ℕ → Fault
record_fault forgive j k = judged (within_but forgive j.states j.actions (j.move k)) (follows j.move k) k

-- the first n records are judged from the front: what is wrong with the first bad one
abbrev pub records_fault : Bool → Job → ℕ → Fault
records_fault forgive j zero = only 0
records_fault forgive j (suc k) = or_else (records_fault forgive j k) (record_fault forgive j k)

-- Moves has whole records, not too many: at most 12,288 bytes, or 40,960 in the tall form
abbrev pub whole : List ℕ → Bool
whole b = eqb (size b 2 % (form b).record_size) 0 && leb (size b 2) ((form b).record_size * (form b).most_records)

abbrev pub goal : List ℕ → Bool
goal b =
    eqb (size b 3) (rows b + (said b).goals)
    && (every_below (rows b) (λ i. ltb (byte b 3 i) (said b).goals)
    && every_below (said b).goals (λ q. leb (mark b q) 1))

-- The first number of the table that applies to the bytes alone, with its record, or 0. 12 and 13 share one place between 5 and 6.
-- A too large outcome may be forgiven: salvaging does so, and planning and every other call do not.
abbrev pub fault_but : Bool → List ℕ → Fault
fault_but forgive b =
    cond (ltb (length b) 16) (only 1)
    (cond (not (contents b)) (only 2)
    (cond (not (counts b)) (only 3)
    (cond (not (labels b)) (only 4)
    (cond (not (whole b)) (only 5)
    (or_else (records_fault forgive (said b) (said b).records)
    (cond (not (goal b)) (only 6)
    (only 0)))))))

abbrev pub refusal_but : Bool → List ℕ → ℕ
refusal_but forgive b = (fault_but forgive b).number

abbrev pub fault : List ℕ → Fault
fault b = fault_but false b

abbrev pub refusal : List ℕ → ℕ
refusal b = refusal_but false b

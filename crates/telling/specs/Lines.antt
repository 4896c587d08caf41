-- The texts that are told of a place.
use Rattle.std.specs.Prelude.{ℕ, cond, List, [], ◌∷◌, ◌++◌, eqb, leb, ltb, length, get_or}
use Rattle.game.specs.declared.entry.Entry.{Entry}
use Rattle.text.specs.Lines.{decimal, bytes}
use Rattle.lines.specs.Words.{part}
use Rattle.lines.specs.declared.names.Span.{Span}
use Rattle.telling.specs.declared.names.Table.{Table}

-- where a table says that name k stands
abbrev pub stands : Table → ℕ → Span
stands t k = get_or t.spans.now k (record { start = 0; end = 0 })

-- name k of a table, and nothing where it does not lie in the text
abbrev pub named : Table → ℕ → List ℕ
named t k =
    cond (leb (length t.spans.now) k) []
    (cond (ltb (stands t k).end (stands t k).start) []
    (cond (ltb (length t.text.now) (stands t k).end) []
    (part t.text.now (stands t k).start (stands t k).end)))

-- what stands between them in a line
abbrev pub comma : List ℕ
comma = bytes ", "

-- a state's name, something between, and a goal state's name
abbrev pub place_text : List ℕ → List ℕ → List ℕ → List ℕ
place_text state between goal = state ++ (between ++ goal)

-- ---- the lines

-- so many moves
abbrev pub moves_text : ℕ → List ℕ
moves_text n = cond (eqb n 1) (bytes "one move") (decimal n ++ (bytes " moves"))

-- what an entry says, where its action has this name
abbrev pub advice_text : List ℕ → Entry → List ℕ
advice_text action e =
    cond (eqb e.value 0) (bytes "lost")
    (cond (eqb e.action 255) (bytes "the goal is met")
    (action ++
    cond (eqb e.value 1) ((bytes "; with luck ") ++ (moves_text e.number ++ (bytes " from safety"))) ((bytes "; safe, and at most ") ++ (moves_text e.number ++ (bytes " from the goal")))))

-- The line of a place: its name, and what its entry says.
abbrev pub head_line : List ℕ → List ℕ → Entry → List ℕ
head_line place action e = place ++ ((bytes ": ") ++ (advice_text action e ++ (10 ∷ [])))

-- how a place is told that spoils an action, by its value
abbrev pub spoilt_text : ℕ → List ℕ
spoilt_text v = cond (eqb v 0) (bytes ", where all is lost\n") (bytes ", which is not safe\n")

-- The line of an action that a place spoils which has this value.
abbrev pub spoiler_line : List ℕ → List ℕ → ℕ → List ℕ
spoiler_line action place v = (bytes "    ") ++ (action ++ ((bytes " is not sure: it may lead to ") ++ (place ++ spoilt_text v)))

-- the line of a place from which nothing leads to the goal
abbrev pub lost_line : List ℕ
lost_line = bytes "    nothing that is open here can lead to the goal\n"

-- The first line of all, by the value of the start.
abbrev pub outlook_text : ℕ → List ℕ
outlook_text v =
    cond (eqb v 2) (bytes "From the start the goal is sure.\n")
    (cond (eqb v 1) (bytes "From the start the goal can be hoped for, and is not sure.\n") (bytes "From the start all is lost.\n"))

-- A table worked out from its text: facts that must and must not be true, the first of two rows that fit, and a goal state that stays.
use Prim.Native.Nat.{ℕ}
use mathlib.Core.Bool.{Bool, true, false}
use mathlib.Core.List.{List, [], ◌∷◌}
use mathlib.Core.Path.{◌≡◌, refl}
use Rattle.text.specs.Lines.{bytes}
use Rattle.lines.specs.Words.{class, in_word, glue, words, lines_after, lines, same_word}
use Rattle.lines.specs.Names.{after_key, index_of}
use Rattle.lines.specs.Says.{some_of}
use Rattle.rows.specs.Rows.{to_goal, aim, row_aim, first_aim, next_said, final_said}

-- home is bit 0 of a label, and shown bit 1
abbrev facts : List (List ℕ)
facts = bytes "home" ∷ (bytes "shown" ∷ [])

-- goal states 0 to 3
abbrev goals : List (List ℕ)
goals = bytes "waiting" ∷ (bytes "seen" ∷ (bytes "met" ∷ (bytes "lost" ∷ [])))

abbrev said : List (List (List ℕ))
said =
    lines
    (bytes
    "waiting: not shown, home -> seen\nseen: home, not shown -> met\nseen: home -> lost\nlost: -> waiting # always\nfinal: met waiting\n")

-- where goal state q leads under the labels 0, home alone, shown alone, and both
abbrev from : ℕ → List ℕ
from q =
    next_said facts goals said q 0
    ∷ (next_said facts goals said q 1 ∷ (next_said facts goals said q 2 ∷ (next_said facts goals said q 3 ∷ [])))

-- "not" is for the fact after it alone: home has to be true; and where the row does not fit, the goal state stays
not_shown : from 0 ≡ 0 ∷ (1 ∷ (0 ∷ (0 ∷ [])))
unfolding class in_word glue words lines_after same_word index_of to_goal aim row_aim first_aim next_said
not_shown = refl

-- both rows fit where home alone is true, and the first counts; the second fits where both are
first_counts : from 1 ≡ 1 ∷ (2 ∷ (1 ∷ (3 ∷ [])))
unfolding class in_word glue words lines_after same_word index_of to_goal aim row_aim first_aim next_said
first_counts = refl

-- a goal state without a row stays, and a row without facts always fits
stays : from 2 ≡ 2 ∷ (2 ∷ (2 ∷ (2 ∷ [])))
unfolding class in_word glue words lines_after same_word index_of to_goal aim row_aim first_aim next_said
stays = refl

always : from 3 ≡ 0 ∷ (0 ∷ (0 ∷ (0 ∷ [])))
unfolding class in_word glue words lines_after same_word index_of to_goal aim row_aim first_aim next_said
always = refl

abbrev finals : List Bool
finals = final_said goals said 0 ∷ (final_said goals said 1 ∷ (final_said goals said 2 ∷ (final_said goals said 3 ∷ [])))

two_final : finals ≡ true ∷ (false ∷ (true ∷ (false ∷ [])))
unfolding class in_word glue words lines_after same_word index_of after_key some_of final_said
two_final = refl

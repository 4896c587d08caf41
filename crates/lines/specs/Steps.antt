-- What the iterators over lines and words hand out: the next one, and what is left after it.
use Rattle.std.specs.Prelude.{ℕ, Option, None, Some, List, [], ◌∷◌, ◌≡◌, drop}
use Rattle.lines.specs.Words.{part, words, lines_from}
use Rattle.lines.specs.Names.{after_key}
use Rattle.lines.specs.declared.line.Word.{Word}
use Rattle.lines.specs.declared.line.Words.{Words}
use Rattle.lines.specs.declared.line.Lines.{Lines}

-- the bytes of a word
abbrev pub bytes_of : Word → List ℕ
bytes_of w = part w.text.now w.start w.end

-- the words of a line that are left
abbrev pub words_left : Words → List (List ℕ)
words_left s = words (drop s.at s.text.now)

-- the lines of a text that are left
abbrev pub lines_left : Lines → List (List (List ℕ))
lines_left s = lines_from s.text.now s.at

-- The next word, where there is one, is the first of those that are left, and the others are left after it. All stand in the same text.
abbrev pub GivesWord : Words → Option Word → Words → Type 0
GivesWord s None t = (t ≡ s) × (words_left s ≡ [])
GivesWord s (Some w) t = (w.text.now ≡ s.text.now) × (t.text.now ≡ s.text.now) × (words_left s ≡ bytes_of w ∷ words_left t)

-- The next line, where there is one, is the first of those that are left, and the others are left after it. All stand in the same text.
abbrev pub GivesLine : Lines → Option Words → Lines → Type 0
GivesLine s None t = (t ≡ s) × (lines_left s ≡ [])
GivesLine s (Some w) t = (w.text.now ≡ s.text.now) × (t.text.now ≡ s.text.now) × (lines_left s ≡ words_left w ∷ lines_left t)

-- the words after a key and a colon, where a line begins with these
abbrev pub AfterKey : List ℕ → Words → Option Words → Type 0
AfterKey key s None = after_key key (words_left s) ≡ []
AfterKey key s (Some r) = (r.text.now ≡ s.text.now) × (after_key key (words_left s) ≡ words_left r)

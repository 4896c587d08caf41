-- Names where they stand in a text, read as a list of names.
use Rattle.std.specs.Prelude.{ℕ, List, map, take, length}
use Rattle.lines.specs.Words.{part}
use Rattle.lines.specs.declared.names.Span.{Span}
use Rattle.lines.specs.declared.names.Names.{Names}
use Rattle.lines.specs.declared.names.List.{List as Held}

-- the name that stands in a text where a span says
abbrev pub name_at : List ℕ → Span → List ℕ
name_at t s = part t s.start s.end

-- the names, and how many there are
abbrev pub names_of : Names → List (List ℕ)
names_of n = map (name_at n.text.now) n.spans.now

abbrev pub count_of : Names → ℕ
count_of n = length n.spans.now

-- the names that a list holds
abbrev pub names_in : {N : ℕ} → Held N → List (List ℕ)
names_in l = map (name_at l.text.now) (take l.len l.spans)

-- Sets of larger places in words of 64 bits: how many words a set has, and how many larger places it has room for.
use Rattle.std.specs.Prelude.{ℕ, ◌*◌}

-- the words of a set, and the larger places that they have room for: four times 512 states with 32 goal states
abbrev pub larger_words : ℕ
larger_words = 1024

abbrev pub most_larger : ℕ
most_larger = 64 * larger_words

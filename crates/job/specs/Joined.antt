-- A record's three fields joined into one number, so that two records are compared at once.
use Rattle.std.specs.Prelude.{ℕ, ◌+◌, ◌*◌}
use Rattle.rules.specs.declared.place.Move.{Move}

-- state, action and outcome side by side in 16, 8 and 16 bits, and 1 more, so that 0 lies below every record's
abbrev pub joined : Move → ℕ
joined m = (m.state * 256 + m.action) * 65536 + m.outcome + 1

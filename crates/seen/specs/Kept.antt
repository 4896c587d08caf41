-- How a line goes on where text is put in it.
use Rattle.std.specs.Prelude.{◌≤◌, ◌≡◌, length}
use Rattle.text.specs.declared.Line.{Line}

-- the line holds the same buffer, of the same length, and its position goes on, inside the buffer where it stood inside
pub record Grown (line after : Line) : Type 0 where
  pub more : line.at ≤ after.at
  pub inside : line.at ≤ length line.bytes.now → after.at ≤ length after.bytes.now
  pub as_long : length after.bytes.now ≡ length line.bytes.now
  pub same_buffer : after.bytes.ghost_name ≡ line.bytes.ghost_name

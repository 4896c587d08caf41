-- What putting a text leaves of a line.
use Rattle.std.specs.Prelude.{ℕ, List, ◌≡◌}
use Rattle.text.specs.declared.Line.{Line}
use Rattle.text.specs.PutText.{PutText}

-- `Puts line word after`: the word is put in the line's buffer at the line's position, and the line still holds that same buffer.
pub record Puts (line : Line) (word : List ℕ) (after : Line) : Type 0 where
  pub text : PutText line.bytes.now line.at word after.bytes.now after.at
  pub same_buffer : after.bytes.ghost_name ≡ line.bytes.ghost_name

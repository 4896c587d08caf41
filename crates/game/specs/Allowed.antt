-- What a plan may say of a place that breaks ties in its own way: `Right` of Game.antt without "lowest".
use Rattle.std.specs.Prelude.{ℕ}
use Rattle.game.specs.Game.{Arena, says, Accepted, Unmet, Pending, Losing, WinsIn, HopesIn, Sure, Hopeful}
use Rattle.game.specs.declared.entry.Entry.{Entry}

-- The value and the number are the place's, and the action is any open one that meets the condition, or 255 where there is none to take.
-- (`Sure` and `Hopeful` ask for an open action: one without records meets neither.)
pub data Allowed (G : Arena) (p : G.Place) : Entry → Type 0 where
  lost : Losing G p → Allowed G p (says 0 255 0)
  met : Accepted G p → Allowed G p (says 2 255 0)
  wins : {a n : ℕ} → Unmet G p → WinsIn G p n → Sure G p n a → Allowed G p (says 2 a n)
  hopes : {a n : ℕ} → Pending G p → HopesIn G p n → Hopeful G p n a → Allowed G p (says 1 a n)

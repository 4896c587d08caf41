-- A pass over some places that adds to a set and writes into a plan.
use Rattle.std.specs.Prelude.{ℕ, ◌/◌, ◌%◌, Bool, cond, ◌&&◌, ◌||◌, List, ◌≡◌, leb, ltb, length, get_or}
use Rattle.sets.specs.Sets.{member}
use Rattle.rules.specs.Job.{place}
use Rattle.rules.specs.Plan.{entry_byte}
use Rattle.rules.specs.declared.place.Place.{Place}
use Rattle.game.specs.declared.entry.Entry.{Entry}

-- the place whose entry is x
abbrev pub place_at : ℕ → ℕ → Place
place_at goals x = place (x / goals) (x % goals)

abbrev pub between : ℕ → ℕ → ℕ → Bool
between lo hi x = leb lo x && ltb x hi

-- Of the places from lo up to hi, those that `gains` takes join the set, and the entries of those that `writes` takes become `says`.
-- Every other place and every other byte stays as it was.
pub record Pass (gains writes : ℕ → Bool) (says : ℕ → Entry) (lo hi : ℕ) (ws plan ws' plan' : List ℕ) : Type 0 where
  pub as_many : length ws' ≡ length ws
  pub as_long : length plan' ≡ length plan
  pub joins : (x : ℕ) → member ws' x ≡ (between lo hi x && gains x || member ws x)
  pub bytes : (y : ℕ) → get_or plan' y 0
      ≡ cond (between lo hi (y / 4) && writes (y / 4)) (entry_byte (says (y / 4)) (y % 4)) (get_or plan y 0)

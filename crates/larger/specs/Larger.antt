-- A place with the slips that are left, and the game on these larger places: request 11. With slips left, the cabinet may replace the named
-- action by any other open one, using up a slip.
use Rattle.std.specs.Prelude.{ℕ, zero, suc, cond, List, [], ◌∷◌, ◌++◌, map, eqb}
use Rattle.game.specs.Game.{Arena}
use Rattle.game.specs.Below.{upto, each}

pub record Larger (P : Type 0) : Type 0 where
  pub at : P
  pub slips : ℕ

abbrev pub larger : {P : Type 0} → ℕ → P → Larger P
larger k p = record { at = p; slips = k }

-- the same, with the action that was done last (any number where none was)
pub record Watched (P : Type 0) : Type 0 where
  pub at : P
  pub slips : ℕ
  pub done : ℕ

abbrev pub watched : {P : Type 0} → ℕ → ℕ → P → Watched P
watched k d p = record { at = p; slips = k; done = d }

abbrev pub unwatched : {P : Type 0} → Watched P → Larger P
unwatched x = larger x.slips x.at

module _ (G : Arena) where
  -- f of each listed outcome of every action but a, done in its place
  abbrev pub others : {A : Type 0} → (ℕ → G.Place → A) → G.Place → ℕ → List A
  others f p a = each (upto G.actions) (λ b. cond (eqb b a) [] (map (f b) (G.leads p b)))

  -- a slip, with so many left: one is used up
  abbrev pub slipped : {A : Type 0} → (ℕ → ℕ → G.Place → A) → G.Place → ℕ → ℕ → List A
  slipped f p zero a = []
  slipped f p (suc k) a = others (f k) p a

  -- Naming a where it may lead to ts: the outcomes of a with the slips that are left, and by a slip those of the others. An action that is
  -- not open can not be named.
  abbrev pub named : {A : Type 0} → (ℕ → ℕ → G.Place → A) → List G.Place → G.Place → ℕ → ℕ → List A
  named f [] p k a = []
  named f (t ∷ ts) p k a = map (f k a) (t ∷ ts) ++ slipped f p k a

  -- the places with 0 to K slips left, slips 0 first
  abbrev pub slipping : ℕ → Arena
  slipping K =
      record {
        Place = Larger G.Place;
        all = each (upto (suc K)) (λ k. map (larger k) G.all);
        actions = G.actions;
        leads = λ x a. named (λ k d. larger k) (G.leads x.at a) x.at x.slips a;
        accepted = λ x. G.accepted x.at;
      }

  -- The same where the chooser sees what was done: each place holds the action that was done on the way to it.
  abbrev pub watching : ℕ → Arena
  watching K =
      record {
        Place = Watched G.Place;
        all = each (upto (suc K)) (λ k. each (upto (suc G.actions)) (λ d. map (watched k d) G.all));
        actions = G.actions;
        leads = λ x a. named watched (G.leads x.at a) x.at x.slips a;
        accepted = λ x. G.accepted x.at;
      }

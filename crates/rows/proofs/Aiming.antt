-- The laws of rows: a name that was found, where a row leads word by word, and the first row that fits.
use Prim.Native.Nat.{ℕ, zero, suc, ◌≤◌, ◌<◌}
use mathlib.Core.Bool.{Bool, true, false, cond, ◌||◌, true≢false, false≢true}
use mathlib.Core.List.{List, [], ◌∷◌}
use mathlib.Core.Path.{◌≡◌, refl, sym, ap, ◌∙◌}
use native.Mathlib.Omega.{arith}
use borrow.Author.Tests.{lt-ltb, le-ltb, ne_eqb, ltb-true}
use lib.Dec.{eqb, ltb}
use lib.ListN.{length, get_or}
use Rattle.lines.specs.Words.{same_word}
use Rattle.std.specs.Prelude.{Option, Some, None, IfSome, unwrap_or}
use Rattle.std.specs.Option.{option_eq}
use Rattle.lines.specs.Names.{found, index_of}
use Rattle.lines.specs.Says.{arrow}
use Rattle.lines.proofs.Wording.{same_word_true}
use Rattle.rows.specs.Rows.{comma, not_word, suits, to_goal, aim, row_aim, first_aim, next_said}
use Rattle.rows.specs.Cells.{lets}

-- whether one number was found
pub found_it : (o : Option ℕ) (n q : ℕ) → IfSome o (λ k. k < n) → q < n → option_eq eqb o (Some q) ≡ eqb (found o n) q
found_it None n q h l = sym (ne_eqb n q (omega arith))
found_it (Some k) n q h l = refl

-- a name that is not spelt like the word is not the one that is looked up
spelt : (xs : List (List ℕ)) (w : List ℕ) (j : ℕ) → j < length xs → same_word (get_or xs j []) w ≡ false → index_of xs w ≡ j → ⊥
unfolding index_of
spelt [] w j h z e = omega arith
spelt (x ∷ xs) w zero h z e = go (same_word x w) refl e
  where
    go : (b : Bool) → same_word x w ≡ b → cond b 0 (suc (index_of xs w)) ≡ zero → ⊥
    go true y q = true≢false (sym y ∙ z)
    go false y q = omega arith
spelt (x ∷ xs) w (suc j) h z e = go (same_word x w) e (spelt xs w j (omega arith) z)
  where
    go : (b : Bool) → cond b 0 (suc (index_of xs w)) ≡ suc j → (index_of xs w ≡ j → ⊥) → ⊥
    go true q rest = omega arith
    go false q rest = rest (omega arith)

pub not_spelt : (xs : List (List ℕ)) (w : List ℕ) (j : ℕ) → j < length xs → same_word (get_or xs j []) w ≡ false → false ≡ eqb (index_of xs w) j
not_spelt xs w j h z = sym (ne_eqb (index_of xs w) j (spelt xs w j h z))

-- ---- one word of a row

-- the comma is not the word "not"
comma_only : (w : List ℕ) → same_word w comma ≡ true → same_word w not_word ≡ false
unfolding same_word
comma_only w e = rw (same_word_true w comma e)

-- a word that lets the row fit, by which of three it is; and one that does not
goes_on : (f : Bool → ℕ) (out : ℕ) (c n s : Bool) → (c ≡ true → n ≡ false) → (c || (n || s)) ≡ true
    → cond c (f false) (cond n (f true) (cond s (f false) out)) ≡ f n
goes_on f out true n s x e = ap f (sym (x refl))
goes_on f out false true s x e = refl
goes_on f out false false true x e = refl
goes_on f out false false false x e = absurd (false≢true e)

stops : (f : Bool → ℕ) (out : ℕ) (c n s : Bool) → (c || (n || s)) ≡ false
    → cond c (f false) (cond n (f true) (cond s (f false) out)) ≡ out
stops f out true n s e = absurd (true≢false e)
stops f out false true s e = absurd (true≢false e)
stops f out false false true e = absurd (true≢false e)
stops f out false false false e = refl

-- ---- the words of a row

pub aim_none : (facts goals : List (List ℕ)) (l : ℕ) (ban : Bool) {s : List (List ℕ)} → s ≡ [] → aim facts goals l ban s ≡ length goals
unfolding aim
aim_none facts goals l ban e = rw e

module _ (facts goals : List (List ℕ)) (l : ℕ) (ban : Bool) {s ws : List (List ℕ)} {w : List ℕ} (n : s ≡ w ∷ ws) where
  pub aim_arrow : same_word w arrow ≡ true → aim facts goals l ban s ≡ to_goal goals ws
  unfolding aim
  aim_arrow z = rw (n, aim, z)

  past_arrow : same_word w arrow ≡ false
      → aim facts goals l ban s
      ≡ cond (same_word w comma) (aim facts goals l false ws)
      (cond (same_word w not_word) (aim facts goals l true ws)
      (cond (suits facts l ban w) (aim facts goals l false ws)
      (length goals)))
  unfolding aim
  past_arrow z = rw (n, aim, z)

  pub aim_unfit : same_word w arrow ≡ false → lets facts l ban w ≡ false → aim facts goals l ban s ≡ length goals
  aim_unfit z u =
      past_arrow z
      ∙ stops (λ b. aim facts goals l b ws) (length goals) (same_word w comma) (same_word w not_word) (suits facts l ban w) u

  pub aim_on : (b : Bool) → b ≡ same_word w not_word → same_word w arrow ≡ false → lets facts l ban w ≡ true
      → aim facts goals l ban s ≡ aim facts goals l b ws
  aim_on b y z u =
      rw y
      (past_arrow z
      ∙ goes_on (λ b. aim facts goals l b ws) (length goals) (same_word w comma) (same_word w not_word) (suits facts l ban w) (comma_only w) u)

-- ---- the first row that fits

module _ (facts goals : List (List ℕ)) (q l : ℕ) {s rest : List (List (List ℕ))} {x : List (List ℕ)} (n : s ≡ x ∷ rest) (to : ℕ)
    (z : to ≡ row_aim facts goals q l x) where
  pub first_here : to < length goals → first_aim facts goals q l s ≡ to
  unfolding first_aim
  first_here k = rw (n, first_aim, ← z, lt-ltb to (length goals) k)

  pub first_later : length goals ≤ to → first_aim facts goals q l s ≡ first_aim facts goals q l rest
  unfolding first_aim
  first_later k = rw (n, first_aim, ← z, le-ltb to (length goals) k)

pub first_none : (facts goals : List (List ℕ)) (q l : ℕ) {s : List (List (List ℕ))} → s ≡ [] → first_aim facts goals q l s ≡ length goals
unfolding first_aim
first_none facts goals q l e = rw e

-- ---- the next goal state

pub next_by : (facts goals : List (List ℕ)) (ls : List (List (List ℕ))) (q l : ℕ) (o : Option ℕ) → found o (length goals) ≡ first_aim facts goals q l ls
    → IfSome o (λ k. k < length goals) → unwrap_or o q ≡ next_said facts goals ls q l
unfolding next_said
next_by facts goals ls q l None e h = rw (← e, le-ltb (length goals) (length goals) (omega arith))
next_by facts goals ls q l (Some k) e h = rw (← e, lt-ltb k (length goals) h)

-- the next goal state is one of the goal states
pub next_below : (facts goals : List (List ℕ)) (ls : List (List (List ℕ))) (q l : ℕ) → q < length goals
    → next_said facts goals ls q l < length goals
unfolding next_said
next_below facts goals ls q l h = go (ltb (first_aim facts goals q l ls) (length goals)) refl
  where
    go : (b : Bool) → ltb (first_aim facts goals q l ls) (length goals) ≡ b → cond b (first_aim facts goals q l ls) q < length goals
    go true e = ltb-true (first_aim facts goals q l ls) (length goals) e
    go false e = h

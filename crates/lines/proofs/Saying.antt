-- The laws of what lines say: sets that gain what words and lines say, one after the other.
use Prim.Native.Nat.{ℕ, ◌+◌, ◌*◌, ◌≤◌, ◌<◌}
use mathlib.Core.Bool.{Bool, true, false, ◌||◌}
use mathlib.Core.List.{List, [], ◌∷◌}
use mathlib.Core.Path.{◌≡◌, refl, sym, ap, ◌∙◌}
use borrow.Author.Tests.{lt-ltb, le-ltb}
use lib.Dec.{eqb}
use lib.ListN.{length}
use Rattle.lines.specs.Words.{same_word}
use Rattle.lines.specs.Names.{index_of}
use Rattle.lines.specs.Numbers.{has, Gains}
use Rattle.lines.specs.Says.{some_of, adds, names_some, says_after, says_action, says_move, says_fact, arrow, is, row}

-- ---- a set on the way

-- The set is to gain what passes all; so much as passes the rest is still to come.
pub record Gaining (before now : List ℕ) (all rest : ℕ → Bool) : Type 0 where
  pub as_long : length now ≡ length before
  pub same : (j : ℕ) → (all j || has before j) ≡ (rest j || has now j)

pub gaining_first : (ws : List ℕ) (all : ℕ → Bool) → Gaining ws ws all all
gaining_first ws all = record { as_long = refl; same = λ j. refl }

turned : (a b c : Bool) → ((a || b) || c) ≡ (b || (a || c))
turned true true c = refl
turned true false c = refl
turned false b c = refl

module _ {before now : List ℕ} {all rest : ℕ → Bool} (g : Gaining before now all rest) where
  pub gaining_more : {after : List ℕ} {passes : ℕ → Bool} (rest' : ℕ → Bool) → Gains now after passes → ((j : ℕ) → rest j ≡ (passes j || rest' j))
      → Gaining before after all rest'
  gaining_more {after} {passes} rest' h e =
      record {
        as_long = h.as_long ∙ g.as_long;
        same = λ j. g.same j ∙ ap (λ (b : Bool). b || has now j) (e j) ∙ turned (passes j) (rest' j) (has now j)
            ∙ ap (λ (b : Bool). rest' j || b) (sym (h.members j));
      }

  pub gaining_skip : (rest' : ℕ → Bool) → ((j : ℕ) → rest j ≡ rest' j) → Gaining before now all rest'
  gaining_skip rest' e = record { as_long = g.as_long; same = λ j. g.same j ∙ ap (λ (b : Bool). b || has now j) (e j) }

  pub gaining_end : ((j : ℕ) → rest j ≡ false) → Gains before now all
  gaining_end z = record { as_long = g.as_long; members = λ j. sym (g.same j ∙ rw (z j)) }

pub gains_same : {before after : List ℕ} {f : ℕ → Bool} (g : ℕ → Bool) → ((j : ℕ) → g j ≡ f j) → Gains before after f → Gains before after g
gains_same {before} g e h = record { as_long = h.as_long; members = λ j. h.members j ∙ ap (λ (b : Bool). b || has before j) (sym (e j)) }

-- ---- words

-- the list of words is empty
module _ {l : List (List ℕ)} (e : l ≡ []) where
  pub none_named : (names : List (List ℕ)) (base j : ℕ) → names_some names base j l ≡ false
  unfolding some_of
  none_named names base j = rw e

  pub after_nothing : (key : List ℕ) (names : List (List ℕ)) (base j : ℕ) → says_after key names base j l ≡ false
  unfolding says_after
  after_nothing key names base j = rw e

  pub action_nothing : (states actions : List (List ℕ)) (i j : ℕ) → says_action states actions i j l ≡ false
  unfolding says_action
  action_nothing states actions i j = rw e

  pub move_nothing : (states actions : List (List ℕ)) (j : ℕ) → says_move states actions j l ≡ false
  unfolding says_move
  move_nothing states actions j = rw e

  pub fact_nothing : (states facts : List (List ℕ)) (shift j : ℕ) → says_fact states facts shift j l ≡ false
  unfolding says_fact
  fact_nothing states facts shift j = rw e

-- it begins with a word
module _ {l ws : List (List ℕ)} {w : List ℕ} (e : l ≡ w ∷ ws) where
  module _ (names : List (List ℕ)) (base : ℕ) where
    pub one_named : (x : ℕ) → x ≡ index_of names w → x < length names → (j : ℕ) → names_some names base j l ≡ (eqb j (base + x) || names_some names base j ws)
    unfolding some_of
    one_named x z h j = rw (e, ← z, lt-ltb x (length names) h)

    pub other_named : (x : ℕ) → x ≡ index_of names w → length names ≤ x → (j : ℕ) → names_some names base j l ≡ names_some names base j ws
    unfolding some_of
    other_named x z h j = rw (e, ← z, le-ltb x (length names) h)

  module _ (key : List ℕ) (names : List (List ℕ)) (base : ℕ) where
    pub after_other : same_word w key ≡ false → (j : ℕ) → says_after key names base j l ≡ false
    unfolding says_after
    after_other z j = rw (e, says_after, z)

    pub after_key_word : same_word w key ≡ true → (j : ℕ) → says_after key names base j l ≡ names_some names base j ws
    unfolding says_after
    after_key_word z j = rw (e, says_after, z)

  module _ (states actions : List (List ℕ)) where
    pub action_other : (i k : ℕ) → k ≡ index_of actions w → length actions ≤ k → (j : ℕ) → says_action states actions i j l ≡ false
    unfolding says_action
    action_other i k z h j = rw (e, says_action, ← z, le-ltb k (length actions) h)

    pub action_known : (i k : ℕ) → k ≡ index_of actions w → k < length actions → (j : ℕ)
        → says_action states actions i j l ≡ says_after arrow states (row i k) j ws
    unfolding says_action
    action_known i k z h j = rw (e, says_action, ← z, lt-ltb k (length actions) h)

    pub move_other : (i : ℕ) → i ≡ index_of states w → length states ≤ i → (j : ℕ) → says_move states actions j l ≡ false
    unfolding says_move
    move_other i z h j = rw (e, says_move, ← z, le-ltb i (length states) h)

    pub move_known : (i : ℕ) → i ≡ index_of states w → i < length states → (j : ℕ) → says_move states actions j l ≡ says_action states actions i j ws
    unfolding says_move
    move_known i z h j = rw (e, says_move, ← z, lt-ltb i (length states) h)

  module _ (states facts : List (List ℕ)) (shift : ℕ) where
    pub fact_other : (i : ℕ) → i ≡ index_of states w → length states ≤ i → (j : ℕ) → says_fact states facts shift j l ≡ false
    unfolding says_fact
    fact_other i z h j = rw (e, says_fact, ← z, le-ltb i (length states) h)

    pub fact_known : (i : ℕ) → i ≡ index_of states w → i < length states → (j : ℕ)
        → says_fact states facts shift j l ≡ says_after is facts (8 * i + shift) j ws
    unfolding says_fact
    fact_known i z h j = rw (e, says_fact, ← z, lt-ltb i (length states) h)

-- ---- lines

module _ (f : ℕ → List (List ℕ) → Bool) where
  pub line_said : {ls rest : List (List (List ℕ))} {l : List (List ℕ)} → ls ≡ l ∷ rest → (j : ℕ) → some_of (f j) ls ≡ (f j l || some_of (f j) rest)
  unfolding some_of
  line_said e j = rw e

  pub no_lines : {ls : List (List (List ℕ))} → ls ≡ [] → (j : ℕ) → some_of (f j) ls ≡ false
  unfolding some_of
  no_lines e j = rw e

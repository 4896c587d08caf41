-- What each test of a job's bytes says, where it passes, in pairs nested as the tests are.
use Prim.Native.Nat.{ℕ, zero, suc, ◌+◌, ◌*◌, ◌%◌, ◌≤◌, ◌<◌}
use mathlib.Core.Bool.{Bool, true, false, ◌||◌}
use mathlib.Core.List.{List}
use mathlib.Core.Logic.Iff
use mathlib.Core.Logic.{◌⊎◌, ⊎_elim, ◌↔◌}
use mathlib.Core.Path.{◌≡◌, refl}
use native.Mathlib.Omega.{arith}
use lib.Dec.{leb, ltb}
use lib.ListN.{length}
use lib.Pow.{pow_pos}
use Rattle.rules.specs.Job.{Job}
use Rattle.rules.specs.Bytes.{offset, size, end, byte, is_tall, form, width, rows, mark, said}
use Rattle.rules.specs.Bytes.{contents, in_range, counts, labels, within_but, whole, goal}
use Rattle.rules.specs.Keeps.{Before, OutcomeFits}
use Rattle.rules.specs.BadRecord.{FieldsFit, OrderFits}
use Rattle.rules.specs.declared.place.Move.{Move}
use Rattle.rules.proofs.Rows.{rows_iff}
use Rattle.rules.proofs.Forms.{whole_records}
use Rattle.game.proofs.Tests.{and_iff, or_iff, ltb_iff, leb_iff, eqb_iff, every_iff, all_and, last_or_below}
use Rattle.rules.proofs.Order.{before_trans}

pub contents_iff : (b : List ℕ) → (contents b ≡ true)
    ↔ ((offset b 0 ≡ 16)
    × ((offset b 1 ≡ end b 0)
    × ((offset b 2 ≡ end b 1)
    × ((offset b 3 ≡ end b 2)
    × ((length b ≡ end b 3) × ((size b 0 ≡ 6) ⊎ (size b 0 ≡ 8)))))))
contents_iff b =
    and_iff (eqb_iff (offset b 0) 16)
    (and_iff (eqb_iff (offset b 1) (end b 0))
    (and_iff (eqb_iff (offset b 2) (end b 1))
    (and_iff (eqb_iff (offset b 3) (end b 2))
    (and_iff (eqb_iff (length b) (end b 3)) (or_iff (eqb_iff (size b 0) 6) (eqb_iff (size b 0) 8))))))

-- S, A, P and Q, and the first state f and first goal state g, each in its range, where there may be so many states
abbrev pub InRange : ℕ → ℕ → ℕ → ℕ → ℕ → ℕ → ℕ → Type 0
InRange most s a p q f g =
    (1 ≤ s) × ((s ≤ most) × ((1 ≤ a) × ((a ≤ 16) × ((p ≤ 6) × ((1 ≤ q) × ((q ≤ 32) × ((f < s) × (g < q))))))))

pub range_iff : (most s a p q f g : ℕ) → (in_range most s a p q f g ≡ true) ↔ InRange most s a p q f g
range_iff most s a p q f g =
    and_iff (leb_iff 1 s)
    (and_iff (leb_iff s most)
    (and_iff (leb_iff 1 a)
    (and_iff (leb_iff a 16)
    (and_iff (leb_iff p 6) (and_iff (leb_iff 1 q) (and_iff (leb_iff q 32) (and_iff (ltb_iff f s) (ltb_iff g q))))))))

pub counts_iff : (b : List ℕ) → let j = said b in (counts b ≡ true)
    ↔ InRange (form b).most_states j.states j.actions j.propositions j.goals j.first j.first_goal
counts_iff b =
    let j = said b in
    range_iff (form b).most_states j.states j.actions j.propositions j.goals j.first j.first_goal

pub labels_iff : (b : List ℕ) → (labels b ≡ true)
    ↔ ((size b 1 ≡ (said b).states) × ((s : ℕ) → s < (said b).states → (said b).label s < width b))
labels_iff b =
    and_iff (eqb_iff (size b 1) (said b).states)
    (every_iff (λ s. ltb ((said b).label s) (width b)) (λ s. ltb_iff ((said b).label s) (width b)) (said b).states)

outcome_iff : (forgive : Bool) (t s : ℕ) → ((forgive || ltb t s) ≡ true) ↔ OutcomeFits forgive t s
outcome_iff true t s = (λ e. tt, λ u. refl)
outcome_iff false t s = ltb_iff t s

pub within_iff : (forgive : Bool) (s a : ℕ) (m : Move) → (within_but forgive s a m ≡ true)
    ↔ ((m.state < s) × ((m.action < a) × OutcomeFits forgive m.outcome s))
within_iff forgive s a m = and_iff (ltb_iff m.state s) (and_iff (ltb_iff m.action a) (outcome_iff forgive m.outcome s))

-- records that each come after the one before come after every earlier one
pub ascending_iff : (j : Job)
    → ((k : ℕ) → k < j.records → OrderFits j k) ↔ ((k m : ℕ) → k < m → m < j.records → Before (j.move k) (j.move m))
ascending_iff j = (up, down)
  where
    up : ((k : ℕ) → k < j.records → OrderFits j k) → (k m : ℕ) → k < m → m < j.records → Before (j.move k) (j.move m)
    up t k zero h l = absurd (omega arith)
    up t k (suc m) h l =
        let next : Before (j.move m) (j.move (suc m)) = t (suc m) l in
        ⊎_elim (λ (e : k ≡ m). rw e next) (λ (g : k < m). before_trans (up t k m g (omega arith)) next) (last_or_below h)

    down : ((k m : ℕ) → k < m → m < j.records → Before (j.move k) (j.move m)) → (k : ℕ) → k < j.records → OrderFits j k
    down t zero h = tt
    down t (suc k) h = t k (suc k) (omega arith) h

pub records_iff : (forgive : Bool) (j : Job) → ((k : ℕ) → k < j.records → FieldsFit forgive j k × OrderFits j k)
    ↔ (((k : ℕ) → k < j.records → FieldsFit forgive j k) × ((k m : ℕ) → k < m → m < j.records → Before (j.move k) (j.move m)))
records_iff forgive j = Iff.trans (all_and j.records) (Iff.and Iff.rfl (ascending_iff j))

pub whole_iff : (b : List ℕ) → (whole b ≡ true)
    ↔ ((size b 2 ≡ (form b).record_size * (said b).records) × ((said b).records ≤ (form b).most_records))
whole_iff b =
    let f = form b in
    Iff.trans (and_iff (eqb_iff (size b 2 % f.record_size) 0) (leb_iff (size b 2) (f.record_size * f.most_records)))
    (whole_records (is_tall b) (size b 2))

pub goal_iff : (b : List ℕ) → let j = said b in (goal b ≡ true)
    ↔ ((size b 3 ≡ j.goals * width b + j.goals) × (((q l : ℕ) → q < j.goals → l < width b → j.next q l < j.goals)
    × ((q : ℕ) → q < j.goals → mark b q ≤ 1)))
goal_iff b =
    let n = (said b).goals in
    let flat = every_iff (λ i. ltb (byte b 3 i) n) (λ i. ltb_iff (byte b 3 i) n) (rows b) in
    let grid = rows_iff (λ i. byte b 3 i < n) n (width b) (pow_pos (said b).propositions) in
    and_iff (eqb_iff (size b 3) (rows b + n))
    (and_iff (Iff.trans flat grid) (every_iff (λ q. leb (mark b q) 1) (λ q. leb_iff (mark b q) 1) n))

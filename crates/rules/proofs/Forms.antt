-- The laws of the two forms that a job which is read relies on: each by its two cases, so that nothing after has to ask which form it is.
use Prim.Native.Nat.{ℕ, ◌+◌, ◌*◌, ◌/◌, ◌%◌, ◌≤◌}
use mathlib.Core.Bool.{Bool, true, false}
use mathlib.Core.Logic.{◌⊎◌, inl, inr, ◌↔◌}
use mathlib.Core.Path.{◌≡◌, refl}
use native.Mathlib.Omega.{arith}
use lib.Dec.{eqb}
use Rattle.rules.specs.Form.{form_of}

-- a record has bytes
pub record_some : (t : Bool) → 1 ≤ (form_of t).record_size
record_some true = omega arith
record_some false = omega arith

-- the most of either form
pub states_most : (t : Bool) → (form_of t).most_states ≤ 512
states_most true = omega arith
states_most false = omega arith

pub records_most : (t : Bool) → (form_of t).most_records ≤ 8192
records_most true = omega arith
records_most false = omega arith

-- the bytes of the longest job: contents, Counts, Labels, Moves, and Goal with 32 goal states and 64 labels
abbrev pub longest : Bool → ℕ
longest t =
    let f = form_of t in
    16 + f.counts_size + f.most_states + f.record_size * f.most_records + (32 * 64 + 32)

pub longest_are : (longest false ≡ 14518) × (longest true ≡ 43576)
longest_are = (refl, refl)

pub longest_most : (t : Bool) → longest t ≤ 43576
longest_most true = omega arith
longest_most false = omega arith

-- Counts has the length of the form that its length tells
pub counts_sized : (n : ℕ) → (n ≡ 6) ⊎ (n ≡ 8) → n ≡ (form_of (eqb n 8)).counts_size
counts_sized n (inl e) = rw e (omega arith)
counts_sized n (inr e) = rw e (omega arith)

-- n bytes are whole records, and not too many
pub whole_records : (t : Bool) (n : ℕ) → let f = form_of t in
    ((n % f.record_size ≡ 0) × (n ≤ f.record_size * f.most_records))
    ↔ ((n ≡ f.record_size * (n / f.record_size)) × (n / f.record_size ≤ f.most_records))
whole_records true n = (λ t. (omega arith, omega arith), λ t. (omega arith, omega arith))
whole_records false n = (λ t. (omega arith, omega arith), λ t. (omega arith, omega arith))

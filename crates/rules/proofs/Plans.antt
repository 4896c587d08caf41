-- A job has one plan: every byte of it is fixed.
use Prim.Native.Nat.{ℕ, zero, suc, ◌+◌, ◌*◌, ◌/◌, ◌%◌, ◌<◌}
use mathlib.Core.List.{List}
use mathlib.Core.Path.{◌≡◌, sym, ap, ◌∙◌, subst}
use native.Mathlib.Nat.{mul-zero}
use native.Mathlib.Omega.{arith}
use lib.ListN.{length, get_or}
use lib.Seq.{ext_get_or}
use Rattle.game.specs.Game.{Lawful}
use Rattle.rules.specs.Job.{Job, places, arena}
use Rattle.rules.specs.Plan.{entry, Plan}
use Rattle.game.specs.declared.entry.Entry.{Entry}
use Rattle.game.proofs.Right.{right_unique}
use Rattle.rules.proofs.Rows.{rows_iff}

-- a number of two bytes has the bytes that it has
two_bytes : (a b c d : ℕ) → a < 256 → c < 256 → a + 256 * b ≡ c + 256 * d → (a ≡ c) × (b ≡ d)
two_bytes a b c d ha hc e = (omega arith, omega arith)

-- two buffers with the same entry i have the same four bytes there
same_bytes : (p p' : List ℕ) (i d : ℕ) → d < 4 → get_or p (4 * i + 2) 0 < 256 → get_or p' (4 * i + 2) 0 < 256 → entry p i ≡ entry p' i
    → get_or p (4 * i + d) 0 ≡ get_or p' (4 * i + d) 0
same_bytes p p' i zero h l l' e = let z : 4 * i + 0 ≡ 4 * i = omega arith in rw z (ap (λ (x : Entry). x.value) e)
same_bytes p p' i (suc zero) h l l' e = ap (λ (x : Entry). x.action) e
same_bytes p p' i (suc (suc zero)) h l l' e = (two_bytes _ _ _ _ l l' (ap (λ (x : Entry). x.number) e)).0
same_bytes p p' i (suc (suc (suc zero))) h l l' e =
    let z : 4 * i + 3 ≡ 4 * i + 2 + 1 = omega arith in
    rw z (two_bytes _ _ _ _ l l' (ap (λ (x : Entry). x.number) e)).1
same_bytes p p' i (suc (suc (suc (suc d)))) h l l' e = absurd (omega arith)

pub some_goals : (s q i : ℕ) → i < s * q → 0 < q
some_goals s zero i h = let z : s * 0 ≡ 0 = mul-zero s in absurd (omega arith)
some_goals s (suc q) i h = omega arith

-- buffers of n entries that have the same entries are the same
pub same_plan : (n : ℕ) {p p' : List ℕ} → length p ≡ 4 * n → length p' ≡ 4 * n → ((y : ℕ) → y < length p → get_or p y 0 < 256)
    → ((y : ℕ) → y < length p' → get_or p' y 0 < 256) → ((i : ℕ) → i < n → entry p i ≡ entry p' i) → p ≡ p'
same_plan n {p} {p'} long long' bytes bytes' same = ext_get_or 0 p p' (long ∙ sym long') at
  where
    at : (y : ℕ) → y < length p → get_or p y 0 ≡ get_or p' y 0
    at y h =
        let i = y / 4 in
        let z : 4 * i + y % 4 ≡ y = omega arith in
        let l : i < n = omega arith in
        subst (λ (x : ℕ). get_or p x 0 ≡ get_or p' x 0) z
        (same_bytes p p' i (y % 4) (omega arith) (bytes (4 * i + 2) (omega arith)) (bytes' (4 * i + 2) (omega arith)) (same i l))

module _ (j : Job) (L : Lawful (arena j)) where
  same_entry : {p p' : List ℕ} → Plan j p → Plan j p' → (i : ℕ) → i < places j → entry p i ≡ entry p' i
  same_entry {p} {p'} a b i h =
      (rows_iff (λ (x : ℕ). entry p x ≡ entry p' x) j.states j.goals (some_goals j.states j.goals i h)).1
      (λ s q hs hq. right_unique (arena j) L (a.right s q hs hq) (b.right s q hs hq)) i h

  pub plan_unique : {p p' : List ℕ} → Plan j p → Plan j p' → p ≡ p'
  plan_unique a b = same_plan (places j) a.long b.long a.bytes b.bytes (same_entry a b)

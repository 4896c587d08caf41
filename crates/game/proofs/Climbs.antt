-- Wider and wider tests on the members of a list: how many steps they can take, and when they settle.
use Prim.Native.Nat.{ℕ, zero, suc, ◌+◌, ◌≤◌, ◌<◌, zero-le}
use mathlib.Core.Bool.{Bool, true, false, false≢true}
use mathlib.Core.List.{List, Memᴰ}
use mathlib.Core.Logic.{◌⊎◌, inl, inr}
use mathlib.Core.Path.{◌≡◌, refl}
use native.Mathlib.Nat.{le_of_suc-le-suc, lt_of_not-le, eq-or-lt_of_le}
use native.Mathlib.Omega.{arith}
use lib.ListN.{length}
use Rattle.game.specs.Game.{Least}
use Rattle.game.proofs.Lists.{how_many, how_many_length, how_many_more}
use Rattle.game.proofs.Search.{clash, if_not_false, has_lowest, stays, not_yet}

-- A chain of wider and wider tests, each of which passes a member of xs that the one before did not, has no more steps than xs has members.
pub climb : {A : Type 0} (g : ℕ → A → Bool) → ((k : ℕ) (t : A) → g k t ≡ true → g (suc k) t ≡ true) → (xs : List A) (n : ℕ) →
    ((k : ℕ) → k < n → (t : A) × Memᴰ t xs × (g k t ≡ false) × (g (suc k) t ≡ true)) → how_many (g zero) xs + n ≤ how_many (g n) xs
climb g up xs zero h = omega arith
climb g up xs (suc n) h =
    let t = h n (omega arith) in
    let below : how_many (g zero) xs + n ≤ how_many (g n) xs = climb g up xs n (λ k l. h k (omega arith)) in
    let more : how_many (g n) xs < how_many (g (suc n)) xs = how_many_more (g n) (g (suc n)) (up n) xs t.0 t.1 t.2 t.3 in
    omega arith

-- Tests on the members of xs, each wider than the one before; a member that first passes at n + 1 brings one that first passes at n.
module _ {A : Type 0} (g : ℕ → A → Bool) (up : (k : ℕ) (t : A) → g k t ≡ true → g (suc k) t ≡ true) (xs : List A)
    (down : (n : ℕ) (p : A) → Memᴰ p xs → Least (λ k. g k p ≡ true) (suc n) → (t : A) × Memᴰ t xs × Least (λ k. g k t ≡ true) n)
  where
    pub ladder : (n : ℕ) (p : A) → Memᴰ p xs → Least (λ k. g k p ≡ true) n → (k : ℕ) → k ≤ n
        → (t : A) × Memᴰ t xs × Least (λ i. g i t ≡ true) k
    ladder zero p m l k h = let e : k ≡ zero = omega arith in rw e (p, m, l)
    ladder (suc n) p m l k h = go (eq-or-lt_of_le h) (λ d. let t = down n p m l in ladder n t.0 t.1 t.2 k d)
      where
        go : (k ≡ suc n) ⊎ (k < suc n) → (k ≤ n → (t : A) × Memᴰ t xs × Least (λ i. g i t ≡ true) k)
            → (t : A) × Memᴰ t xs × Least (λ i. g i t ≡ true) k
        go (inl e) r = rw e (p, m, l)
        go (inr d) r = r (le_of_suc-le-suc d)

    pub first_below : (n : ℕ) (p : A) → Memᴰ p xs → Least (λ k. g k p ≡ true) n → n < length xs
    first_below n p m l =
        let z = ladder n p m l zero zero-le in
        let some : how_many (λ t. false) xs < how_many (g zero) xs =
        how_many_more (λ t. false) (g zero) (λ t e. absurd (false≢true e)) xs z.0 z.1 refl z.2.0 in
        let most : how_many (g zero) xs + n ≤ how_many (g n) xs =
        climb g up xs n (λ k h. let t = ladder n p m l (suc k) h in (t.0, t.1, not_yet (λ i. g i t.0) k t.2, t.2.0)) in
        let fits : how_many (g n) xs ≤ length xs = how_many_length (g n) xs in
        omega arith

    pub settled : (n : ℕ) (p : A) → Memᴰ p xs → g n p ≡ true → g (length xs) p ≡ true
    settled n p m e =
        let l = has_lowest (λ k. g k p) n e in
        stays (λ k. g k p) (λ k. up k p) l.0 (length xs) (let h : l.0 < length xs = first_below l.0 p m l.2 in omega arith)
        l.2.0

    -- and where a step adds no member, no later one does
    pub closed : (n : ℕ) → ((t : A) → Memᴰ t xs → g (suc n) t ≡ true → g n t ≡ true) → (m : ℕ) (p : A) → Memᴰ p xs → g m p ≡ true
        → g n p ≡ true
    closed n h m p i e = if_not_false (g n p) (λ z.
        let l = has_lowest (λ k. g k p) m e in
        let late : n < l.0 = lt_of_not-le (λ b. clash (stays (λ k. g k p) (λ k. up k p) l.0 n b l.2.0) z) in
        let t = ladder l.0 p i l.2 (suc n) late in
        clash (h t.0 t.1 t.2.0) (not_yet (λ k. g k t.0) n t.2))

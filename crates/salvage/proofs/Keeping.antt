-- What is gathered of the numbers that pass a test: how long it is, and where the bytes of each lie.
use Prim.Native.Nat.{ℕ, zero, suc, ◌+◌, ◌*◌, ◌≤◌, ◌<◌}
use mathlib.Core.Bool.{Bool, true, false}
use mathlib.Core.List.{List, [], ◌++◌, append-nil}
use mathlib.Core.Logic.{◌⊎◌, inl, inr, ⊎_elim}
use mathlib.Core.Path.{◌≡◌, refl, sym, ◌∙◌, ap, subst}
use native.Mathlib.Nat.{eq-or-lt_of_le, le_of_suc-le-suc, mul-suc, mul-zero, mul-le-mul, le_refl}
use native.Mathlib.Numerals.{add-one}
use native.Mathlib.Omega.{arith}
use lib.ListN.{length, get_or, length-append, get_or-append}
use lib.Seq.{get_or-append-add}
use Rattle.sets.specs.Sets.{one, count}
use Rattle.game.proofs.Tests.{last_or_below}
use Rattle.salvage.specs.Salvage.{gathered}

-- ---- counting

pub count_step : (f : ℕ → Bool) (n : ℕ) → count f (suc n) ≡ count f n + one (f n)
unfolding count
count_step f n = refl

pub count_up : (f : ℕ → Bool) (m n : ℕ) → m ≤ n → count f m ≤ count f n
count_up f m zero h = let z : m ≡ 0 = omega arith in rw z (omega arith)
count_up f m (suc n) h = go (eq-or-lt_of_le h) (λ l. count_up f m n l)
  where
    go : (m ≡ suc n) ⊎ (m < suc n) → (m ≤ n → count f m ≤ count f n) → count f m ≤ count f (suc n)
    go (inl e) r = rw e (omega arith)
    go (inr d) r = let s = count_step f n in let l = r (le_of_suc-le-suc d) in omega arith

-- of two numbers that pass, as many pass before the one as before the other only where they are the same
pub count_passing : (f : ℕ → Bool) (i n : ℕ) → i < n → f i ≡ true → suc (count f i) ≤ count f n
count_passing f i n h e =
    let s : count f (suc i) ≡ count f i + 1 = count_step f i ∙ rw e in
    omega (arith, count_up f (suc i) n h)

-- the number that the x-th to pass has
pub nth_passing : (f : ℕ → Bool) (n x : ℕ) → x < count f n → (i : ℕ) × (i < n) × (f i ≡ true) × (count f i ≡ x)
unfolding count
nth_passing f zero x h = absurd (omega arith)
nth_passing f (suc n) x h = go (f n) refl (nth_passing f n x)
  where
    go : (c : Bool) → f n ≡ c → (x < count f n → (i : ℕ) × (i < n) × (f i ≡ true) × (count f i ≡ x))
        → (i : ℕ) × (i < suc n) × (f i ≡ true) × (count f i ≡ x)
    go true z r =
        let s : count f (suc n) ≡ count f n + 1 = count_step f n ∙ rw z in
        ⊎_elim (λ (e : x ≡ count f n). (n, omega arith, z, sym e)) (λ (l : x < count f n).
        let t = r l in (t.0, let u = t.1 in omega arith, t.2, t.3))
        (last_or_below (let q : x < suc (count f n) = omega arith in q))
    go false z r =
        let s : count f (suc n) ≡ count f n + 0 = count_step f n ∙ rw z in
        let t = r (omega arith) in
        (t.0, let u = t.1 in omega arith, t.2, t.3)

pub count_all : (f : ℕ → Bool) (n : ℕ) → ((i : ℕ) → i < n → f i ≡ true) → count f n ≡ n
unfolding count
count_all f zero h = refl
count_all f (suc n) h =
    let s : count f (suc n) ≡ count f n + 1 = count_step f n ∙ rw (h n (omega arith)) in
    let r = count_all f n (λ i l. h i (omega arith)) in
    omega arith

-- ---- so many bytes for each

pub more : (w n : ℕ) → w * (n + 1) ≡ w * n + w
more w n = ap (λ (k : ℕ). w * k) (add-one n) ∙ omega (arith, mul-suc w n)

-- byte d of the first of two lies before those of the second
pub before_next : (w x y d : ℕ) → x < y → d < w → w * x + d < w * y
before_next w x y d h l =
    let u = mul-le-mul (le_refl w) (let q : x + 1 ≤ y = omega arith in q) in
    omega (arith, more w x)

-- ---- what is gathered of those that pass

module _ (f : ℕ → Bool) (g : ℕ → List ℕ) where
  more_yes : (i : ℕ) → f i ≡ true → gathered f g (suc i) ≡ gathered f g i ++ g i
  unfolding gathered
  more_yes i z = rw (z, gathered)

  more_no : (i : ℕ) → f i ≡ false → gathered f g (suc i) ≡ gathered f g i
  unfolding gathered
  more_no i z = rw (z, gathered) (append-nil (gathered f g i))

  pub gathered_none : (n : ℕ) → ((i : ℕ) → i < n → f i ≡ false) → gathered f g n ≡ []
  unfolding gathered
  gathered_none zero h = refl
  gathered_none (suc n) h = more_no n (h n (omega arith)) ∙ gathered_none n (λ i l. h i (omega arith))

  module _ (w m : ℕ) (each : (i : ℕ) → i < m → length (g i) ≡ w) where
    pub gathered_length : (n : ℕ) → n ≤ m → length (gathered f g n) ≡ w * count f n
    unfolding gathered count
    gathered_length zero h = sym (mul-zero w)
    gathered_length (suc n) h = go (f n) refl (gathered_length n (omega arith))
      where
        go : (c : Bool) → f n ≡ c → length (gathered f g n) ≡ w * count f n → length (gathered f g (suc n)) ≡ w * count f (suc n)
        go true z r =
            let s : count f (suc n) ≡ count f n + 1 = count_step f n ∙ rw z in
            let t : w * count f (suc n) ≡ w * count f n + w = ap (λ (k : ℕ). w * k) s ∙ more w (count f n) in
            let a = ap length (more_yes n z) in
            let c = length-append (gathered f g n) (g n) in
            let d = each n (omega arith) in
            omega arith
        go false z r =
            let s : count f (suc n) ≡ count f n = count_step f n ∙ (rw z (omega arith)) in
            let t : w * count f (suc n) ≡ w * count f n = ap (λ (k : ℕ). w * k) s in
            let a = ap length (more_no n z) in
            omega arith

    -- the bytes of i, if it passes, are where as many pass before it
    pub gathered_at : (n i d : ℕ) → n ≤ m → i < n → f i ≡ true → d < w → get_or (gathered f g n) (w * count f i + d) 0 ≡ get_or (g i) d 0
    gathered_at zero i d h l s e = absurd (omega arith)
    gathered_at (suc n) i d h l s e = go (last_or_below l) (f n) refl (λ m. gathered_at n i d (omega arith) m s e)
      where
        go : (i ≡ n) ⊎ (i < n) → (c : Bool) → f n ≡ c → (i < n → get_or (gathered f g n) (w * count f i + d) 0 ≡ get_or (g i) d 0)
            → get_or (gathered f g (suc n)) (w * count f i + d) 0 ≡ get_or (g i) d 0
        go (inl q) c z r =
            let long = gathered_length n (omega arith) in
            let y : f n ≡ true = subst (λ (x : ℕ). f x ≡ true) q s in
            rw (more_yes n y, q, ← long) (get_or-append-add (gathered f g n) (g n) d 0)
        go (inr m) true z r =
            let long = gathered_length n (omega arith) in
            let inside = before_next w (count f i) (count f n) d (count_passing f i n m s) e in
            rw (more_yes n z) (get_or-append (gathered f g n) (g n) 0 (w * count f i + d) (omega arith) ∙ r m)
        go (inr m) false z r = rw (more_no n z) (r m)

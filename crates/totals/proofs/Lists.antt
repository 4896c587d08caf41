-- Laws of counting, adding up and finding the first over a list: one member more at the end, one answer only, and any other order.
use Prim.Native.Nat.{ℕ, suc, ◌+◌, ◌*◌, ◌≤◌, ◌<◌}
use mathlib.Core.List.Memᴰ
use mathlib.Core.List.{List, [], ◌∷◌, ◌++◌, Memᴰ}
use mathlib.Core.List.{Permᴰ}
use mathlib.Core.Logic.{◌⊎◌, inl, inr, ⊎_elim}
use mathlib.Core.Path.{◌≡◌, refl, sym, ap, subst, ◌∙◌}
use native.Mathlib.Omega.{arith}
use native.Mathlib.Nat.{suc-mul}
use lib.ListN.{length}
use Rattle.totals.specs.Lists.{HowMany, many_none, many_counted, many_passed, Sum, sum_none, sum_added, sum_passed}
use Rattle.totals.specs.Lists.{First, first_here, first_later}

-- ---- members

pub mem_last : {A : Type 0} (xs : List A) (x : A) {a : A} → Memᴰ a (xs ++ (x ∷ [])) → Memᴰ a xs ⊎ (a ≡ x)
mem_last [] x m = ⊎_elim (λ q. inr q) (λ k. absurd (Memᴰ.not-nil k)) (Memᴰ.cases_cons m)
mem_last (y ∷ ys) x {a} m = go (mem_last ys x) (Memᴰ.cases_cons m)
  where
    go : (Memᴰ a (ys ++ (x ∷ [])) → Memᴰ a ys ⊎ (a ≡ x)) → (a ≡ y) ⊎ Memᴰ a (ys ++ (x ∷ []))
        → Memᴰ a (y ∷ ys) ⊎ (a ≡ x)
    go r (inl q) = inl (Memᴰ.head q)
    go r (inr k) = ⊎_elim (λ m. inl (Memᴰ.tail m)) (λ q. inr q) (r k)

pub mem_permuted : {A : Type 0} {xs ys : List A} → Permᴰ xs ys → {a : A} → Memᴰ a xs → Memᴰ a ys
mem_permuted Permᴰ.nil m = m
mem_permuted (Permᴰ.cons e d) m =
    ⊎_elim (λ q. Memᴰ.head (q ∙ e)) (λ k. Memᴰ.tail (mem_permuted d k)) (Memᴰ.cases_cons m)
mem_permuted (Permᴰ.swap e f) m =
    ⊎_elim (λ q. Memᴰ.tail (Memᴰ.head (q ∙ e)))
    (λ k. ⊎_elim (λ q. Memᴰ.head (q ∙ f)) (λ j. Memᴰ.tail (Memᴰ.tail j)) (Memᴰ.cases_cons k))
    (Memᴰ.cases_cons m)
mem_permuted (Permᴰ.trans d e) m = mem_permuted e (mem_permuted d m)

-- what is not so of a is not so of b, which is a
not_at : {A : Type 0} (P : A → Type 0) {a b : A} → a ≡ b → (P a → ⊥) → P b → ⊥
not_at P e q p = q (subst P (sym e) p)

none_at : {A : Type 0} (P : ℕ → A → Type 0) {a b : A} → a ≡ b → ((m : ℕ) → P m a → ⊥) → (m : ℕ) → P m b → ⊥
none_at P e q m = not_at (P m) e (q m)

-- ---- how many

module _ {A : Type 0} {P : A → Type 0} where
  pub many_more : {xs : List A} {n : ℕ} {x : A} → HowMany P xs n → P x → HowMany P (xs ++ (x ∷ [])) (suc n)
  many_more many_none p = many_counted p many_none
  many_more (many_counted q h) p = many_counted q (many_more h p)
  many_more (many_passed q h) p = many_passed q (many_more h p)

  pub many_same : {xs : List A} {n : ℕ} {x : A} → HowMany P xs n → (P x → ⊥) → HowMany P (xs ++ (x ∷ [])) n
  many_same many_none p = many_passed p many_none
  many_same (many_counted q h) p = many_counted q (many_same h p)
  many_same (many_passed q h) p = many_passed q (many_same h p)

  pub many_few : {xs : List A} {n : ℕ} → HowMany P xs n → n ≤ length xs
  many_few many_none = omega arith
  many_few (many_counted q h) = omega (arith, many_few h)
  many_few (many_passed q h) = omega (arith, many_few h)

  pub many_unique : {xs : List A} {m n : ℕ} → HowMany P xs m → HowMany P xs n → m ≡ n
  many_unique many_none many_none = refl
  many_unique (many_counted p h) (many_counted q g) = ap suc (many_unique h g)
  many_unique (many_counted p h) (many_passed q g) = absurd (q p)
  many_unique (many_passed p h) (many_counted q g) = absurd (p q)
  many_unique (many_passed p h) (many_passed q g) = many_unique h g

  pub many_permuted : {xs ys : List A} {n : ℕ} → Permᴰ xs ys → HowMany P xs n → HowMany P ys n
  many_permuted Permᴰ.nil h = h
  many_permuted (Permᴰ.cons e d) (many_counted p h) = many_counted (subst P e p) (many_permuted d h)
  many_permuted (Permᴰ.cons e d) (many_passed q h) = many_passed (not_at P e q) (many_permuted d h)
  many_permuted (Permᴰ.swap e f) (many_counted p (many_counted q h)) = many_counted (subst P f q) (many_counted (subst P e p) h)
  many_permuted (Permᴰ.swap e f) (many_counted p (many_passed q h)) = many_passed (not_at P f q) (many_counted (subst P e p) h)
  many_permuted (Permᴰ.swap e f) (many_passed p (many_counted q h)) = many_counted (subst P f q) (many_passed (not_at P e p) h)
  many_permuted (Permᴰ.swap e f) (many_passed p (many_passed q h)) = many_passed (not_at P f q) (many_passed (not_at P e p) h)
  many_permuted (Permᴰ.trans d e) h = many_permuted e (many_permuted d h)

  -- ---- the first

  pub first_kept : {xs : List A} {i : ℕ} (ys : List A) → First P xs i → First P (xs ++ ys) i
  first_kept ys (first_here p) = first_here p
  first_kept ys (first_later q f) = first_later q (first_kept ys f)

  pub first_new : (xs : List A) {x : A} → ((a : A) → Memᴰ a xs → P a → ⊥) → P x → First P (xs ++ (x ∷ [])) (length xs)
  first_new [] h p = first_here p
  first_new (y ∷ ys) h p = first_later (h y (Memᴰ.head refl)) (first_new ys (λ a m. h a (Memᴰ.tail m)) p)

  pub first_found : {xs : List A} {i : ℕ} → First P xs i → (a : A) × Memᴰ a xs × P a
  first_found (first_here {x} p) = (x, Memᴰ.head refl, p)
  first_found (first_later q f) = let (a, m, p) = first_found f in (a, Memᴰ.tail m, p)

  pub first_below : {xs : List A} {i : ℕ} → First P xs i → i < length xs
  first_below (first_here p) = omega arith
  first_below (first_later q f) = omega (arith, first_below f)

  pub first_unique : {xs : List A} {i j : ℕ} → First P xs i → First P xs j → i ≡ j
  first_unique (first_here p) (first_here q) = refl
  first_unique (first_here p) (first_later q f) = absurd (q p)
  first_unique (first_later p f) (first_here q) = absurd (p q)
  first_unique (first_later p f) (first_later q g) = ap suc (first_unique f g)

-- ---- the sum

module _ {A : Type 0} {P : ℕ → A → Type 0} where
  pub sum_more : {xs : List A} {n : ℕ} {m : ℕ} {x : A} → Sum P xs n → P m x → Sum P (xs ++ (x ∷ [])) (n + m)
  sum_more {m = m} {x} sum_none p =
      let e : m + 0 ≡ 0 + m = omega arith in
      subst (Sum P (x ∷ [])) e (sum_added p sum_none)
  sum_more {m = m} {x} (sum_added {x = y} {xs = ys} {m = k} {n = n} q h) p =
      let e : k + (n + m) ≡ k + n + m = omega arith in
      subst (Sum P (y ∷ (ys ++ (x ∷ [])))) e (sum_added q (sum_more h p))
  sum_more (sum_passed q h) p = sum_passed q (sum_more h p)

  pub sum_same : {xs : List A} {n : ℕ} {x : A} → Sum P xs n → ((m : ℕ) → P m x → ⊥) → Sum P (xs ++ (x ∷ [])) n
  sum_same sum_none p = sum_passed p sum_none
  sum_same (sum_added q h) p = sum_added q (sum_same h p)
  sum_same (sum_passed q h) p = sum_passed q (sum_same h p)

  pub sum_few : (most : ℕ) → ((m : ℕ) (x : A) → P m x → m ≤ most) → {xs : List A} {n : ℕ} → Sum P xs n → n ≤ length xs * most
  sum_few most h sum_none = omega arith
  sum_few most h (sum_added {x} {xs} {m} p s) = omega (arith, h m x p, sum_few most h s, suc-mul (length xs) most)
  sum_few most h (sum_passed {xs = xs} q s) = omega (arith, sum_few most h s, suc-mul (length xs) most)

  pub sum_unique : ((x : A) (m n : ℕ) → P m x → P n x → m ≡ n) → {xs : List A} {m n : ℕ} → Sum P xs m → Sum P xs n → m ≡ n
  sum_unique u sum_none sum_none = refl
  sum_unique u (sum_added {x} {m = i} p s) (sum_added {m = j} q t) =
      let a : i ≡ j = u x i j p q in
      let b = sum_unique u s t in
      λ k. a k + b k
  sum_unique u (sum_added {m = i} p s) (sum_passed q t) = absurd (q i p)
  sum_unique u (sum_passed p s) (sum_added {m = j} q t) = absurd (p j q)
  sum_unique u (sum_passed p s) (sum_passed q t) = sum_unique u s t

  pub sum_permuted : {xs ys : List A} {n : ℕ} → Permᴰ xs ys → Sum P xs n → Sum P ys n
  sum_permuted Permᴰ.nil h = h
  sum_permuted (Permᴰ.cons e d) (sum_added p h) = sum_added (subst (P _) e p) (sum_permuted d h)
  sum_permuted (Permᴰ.cons e d) (sum_passed q h) = sum_passed (none_at P e q) (sum_permuted d h)
  sum_permuted (Permᴰ.swap {a' = a} {b' = b} {l} e f) (sum_added {m = i} p (sum_added {m = j} {n = n} q h)) =
      let z : j + (i + n) ≡ i + (j + n) = omega arith in
      subst (Sum P (a ∷ b ∷ l)) z (sum_added (subst (P _) f q) (sum_added (subst (P _) e p) h))
  sum_permuted (Permᴰ.swap e f) (sum_added p (sum_passed q h)) = sum_passed (none_at P f q) (sum_added (subst (P _) e p) h)
  sum_permuted (Permᴰ.swap e f) (sum_passed p (sum_added q h)) = sum_added (subst (P _) f q) (sum_passed (none_at P e p) h)
  sum_permuted (Permᴰ.swap e f) (sum_passed p (sum_passed q h)) = sum_passed (none_at P f q) (sum_passed (none_at P e p) h)
  sum_permuted (Permᴰ.trans d e) h = sum_permuted e (sum_permuted d h)

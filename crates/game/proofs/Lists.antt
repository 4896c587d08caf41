-- Tests run over the members of a list: whether every member passes, whether one does, and how many do.
use Prim.Native.Nat.{ℕ, zero, suc, ◌≤◌, ◌<◌, zero-le, suc-le-suc}
use mathlib.Core.Bool.{Bool, true, false, not, ◌&&◌, ◌||◌, false≢true, true≢false}
use mathlib.Core.List.Memᴰ
use mathlib.Core.List.{List, [], ◌∷◌, ◌++◌, map, Memᴰ}
use mathlib.Core.Logic.{◌⊎◌, inl, inr, ⊎_elim}
use mathlib.Core.Path.{◌≡◌, refl, sym, ◌∙◌, ap, ap₂}
use native.Mathlib.Omega.{arith}
use lib.ListN.{length}
use Rattle.game.proofs.Search.{clash, if_not_false}

module _ {A : Type 0} where
  unfoldable pub every : (A → Bool) → List A → Bool
  every f [] = true
  every f (x ∷ xs) = elim (f x) [ true ↦ every f xs | false ↦ false ]

  unfoldable pub some : (A → Bool) → List A → Bool
  some f [] = false
  some f (x ∷ xs) = elim (f x) [ true ↦ true | false ↦ some f xs ]

  -- not empty, and every member passes
  unfoldable pub sure : (A → Bool) → List A → Bool
  sure f [] = false
  sure f (x ∷ xs) = every f (x ∷ xs)

  unfoldable pub how_many : (A → Bool) → List A → ℕ
  how_many f [] = zero
  how_many f (x ∷ xs) = elim (f x) [ true ↦ suc (how_many f xs) | false ↦ how_many f xs ]

  pub every_at : (f : A → Bool) (xs : List A) → every f xs ≡ true → (t : A) → Memᴰ t xs → f t ≡ true
  unfolding every
  every_at f [] e t m = absurd (Memᴰ.not-nil m)
  every_at f (x ∷ xs) e t m = go (f x) refl (every_at f xs)
    where
      go : (b : Bool) → f x ≡ b → (every f xs ≡ true → (u : A) → Memᴰ u xs → f u ≡ true) → f t ≡ true
      go true z r = ⊎_elim (λ q. ap f q ∙ z) (λ k. r (rw (z, every) at e) t k) (Memᴰ.cases_cons m)
      go false z r = absurd (false≢true (rw (z, every) at e))

  -- a list that fails has a member that fails
  pub every_fails : (f : A → Bool) (xs : List A) → every f xs ≡ false → (t : A) × Memᴰ t xs × (f t ≡ false)
  unfolding every
  every_fails f [] e = absurd (true≢false e)
  every_fails f (x ∷ xs) e = go (f x) refl (every_fails f xs)
    where
      go : (b : Bool) → f x ≡ b → (every f xs ≡ false → (t : A) × Memᴰ t xs × (f t ≡ false)) → (t : A) × Memᴰ t (x ∷ xs)
          × (f t ≡ false)
      go true z r = let l = r (rw (z, every) at e) in (l.0, Memᴰ.tail l.1, l.2)
      go false z r = (x, Memᴰ.head refl, z)

  pub every_true : (f : A → Bool) (xs : List A) → ((t : A) → Memᴰ t xs → f t ≡ true) → every f xs ≡ true
  every_true f xs h = if_not_false (every f xs) (λ e. let l = every_fails f xs e in clash (h l.0 l.1) l.2)

  pub some_found : (f : A → Bool) (xs : List A) → some f xs ≡ true → (t : A) × Memᴰ t xs × (f t ≡ true)
  unfolding some
  some_found f [] e = absurd (false≢true e)
  some_found f (x ∷ xs) e = go (f x) refl (some_found f xs)
    where
      go : (b : Bool) → f x ≡ b → (some f xs ≡ true → (t : A) × Memᴰ t xs × (f t ≡ true)) → (t : A) × Memᴰ t (x ∷ xs)
          × (f t ≡ true)
      go true z r = (x, Memᴰ.head refl, z)
      go false z r = let l = r (rw (z, some) at e) in (l.0, Memᴰ.tail l.1, l.2)

  pub some_true : (f : A → Bool) (xs : List A) (t : A) → Memᴰ t xs → f t ≡ true → some f xs ≡ true
  unfolding some
  some_true f [] t m e = absurd (Memᴰ.not-nil m)
  some_true f (x ∷ xs) t m e = go (f x) refl (some_true f xs t)
    where
      go : (b : Bool) → f x ≡ b → (Memᴰ t xs → f t ≡ true → some f xs ≡ true) → some f (x ∷ xs) ≡ true
      go true z r = rw (z, some)
      go false z r = rw (z, some) (⊎_elim (λ q. absurd (clash (sym (ap f q) ∙ e) z)) (λ k. r k e) (Memᴰ.cases_cons m))

  pub sure_at : (f : A → Bool) (xs : List A) → sure f xs ≡ true → ((t : A) × Memᴰ t xs) × ((t : A) → Memᴰ t xs → f t ≡ true)
  unfolding sure
  sure_at f [] e = absurd (false≢true e)
  sure_at f (x ∷ xs) e = ((x, Memᴰ.head refl), every_at f (x ∷ xs) e)

  pub sure_true : (f : A → Bool) (xs : List A) → (t : A) × Memᴰ t xs → ((t : A) → Memᴰ t xs → f t ≡ true) → sure f xs ≡ true
  unfolding sure
  sure_true f [] o h = absurd (Memᴰ.not-nil o.1)
  sure_true f (x ∷ xs) o h = every_true f (x ∷ xs) h

  pub sure_fails : (f : A → Bool) (xs : List A) → (t : A) × Memᴰ t xs → sure f xs ≡ false → (t : A) × Memᴰ t xs × (f t ≡ false)
  unfolding sure
  sure_fails f [] o e = absurd (Memᴰ.not-nil o.1)
  sure_fails f (x ∷ xs) o e = every_fails f (x ∷ xs) e

  -- tests that agree on the members
  module _ (f g : A → Bool) where
    pub every_ext : (xs : List A) → ((t : A) → Memᴰ t xs → f t ≡ g t) → every f xs ≡ every g xs
    unfolding every
    every_ext [] h = refl
    every_ext (x ∷ xs) h =
        ap₂ (λ (b c : Bool). elim b [ true ↦ c | false ↦ false ]) (h x (Memᴰ.head refl)) (every_ext xs (λ t m. h t (Memᴰ.tail m)))

    pub some_ext : (xs : List A) → ((t : A) → Memᴰ t xs → f t ≡ g t) → some f xs ≡ some g xs
    unfolding some
    some_ext [] h = refl
    some_ext (x ∷ xs) h =
        ap₂ (λ (b c : Bool). elim b [ true ↦ true | false ↦ c ]) (h x (Memᴰ.head refl)) (some_ext xs (λ t m. h t (Memᴰ.tail m)))

    pub sure_ext : (xs : List A) → ((t : A) → Memᴰ t xs → f t ≡ g t) → sure f xs ≡ sure g xs
    unfolding sure
    sure_ext [] h = refl
    sure_ext (x ∷ xs) h = every_ext (x ∷ xs) h

  pub some_append : (f : A → Bool) (xs ys : List A) → some f (xs ++ ys) ≡ (some f xs || some f ys)
  unfolding some
  some_append f [] ys = refl
  some_append f (x ∷ xs) ys = go (f x) refl (some_append f xs ys)
    where
      go : (b : Bool) → f x ≡ b → some f (xs ++ ys) ≡ (some f xs || some f ys) → some f (x ∷ (xs ++ ys)) ≡ (some f (x ∷ xs) || some f ys)
      go true z r = rw (z, some)
      go false z r = rw (z, some) r

  -- all pass where none fails
  every_none : (f : A → Bool) (xs : List A) → every f xs ≡ not (some (λ t. not (f t)) xs)
  unfolding every some
  every_none f [] = refl
  every_none f (x ∷ xs) = go (f x) refl (every_none f xs)
    where
      go : (b : Bool) → f x ≡ b → every f xs ≡ not (some (λ t. not (f t)) xs) → every f (x ∷ xs) ≡ not (some (λ t. not (f t)) (x ∷ xs))
      go true z r = rw (z, every, some) r
      go false z r = rw (z, every, some)

  pub sure_some : (f : A → Bool) (xs : List A) → sure f xs ≡ (some (λ t. true) xs && not (some (λ t. not (f t)) xs))
  unfolding sure some
  sure_some f [] = refl
  sure_some f (x ∷ xs) = every_none f (x ∷ xs)

  pub how_many_length : (f : A → Bool) (xs : List A) → how_many f xs ≤ length xs
  unfolding how_many
  how_many_length f [] = zero-le
  how_many_length f (x ∷ xs) = go (f x) refl (how_many_length f xs)
    where
      go : (b : Bool) → f x ≡ b → how_many f xs ≤ length xs → how_many f (x ∷ xs) ≤ suc (length xs)
      go true z r = rw (z, how_many) (suc-le-suc r)
      go false z r = rw (z, how_many) (omega arith)

  -- two tests, of which g passes whatever f passes
  module _ (f g : A → Bool) (wider : (t : A) → f t ≡ true → g t ≡ true) where
    pub how_many_wider : (xs : List A) → how_many f xs ≤ how_many g xs
    unfolding how_many
    how_many_wider [] = zero-le
    how_many_wider (x ∷ xs) = go (f x) refl (g x) refl (how_many_wider xs)
      where
        go : (b : Bool) → f x ≡ b → (c : Bool) → g x ≡ c → how_many f xs ≤ how_many g xs → how_many f (x ∷ xs) ≤ how_many g (x ∷ xs)
        go true y true z r = rw (y, z, how_many) (suc-le-suc r)
        go true y false z r = absurd (clash (wider x y) z)
        go false y true z r = rw (y, z, how_many) (omega arith)
        go false y false z r = rw (y, z, how_many) r

    pub how_many_more : (xs : List A) (t : A) → Memᴰ t xs → f t ≡ false → g t ≡ true → how_many f xs < how_many g xs
    unfolding how_many
    how_many_more [] t m p q = absurd (Memᴰ.not-nil m)
    how_many_more (x ∷ xs) t m p q = go (f x) refl (g x) refl (how_many_wider xs) (Memᴰ.cases_cons m) (λ k. how_many_more xs t k p q)
      where
        go : (b : Bool) → f x ≡ b → (c : Bool) → g x ≡ c → how_many f xs ≤ how_many g xs → (t ≡ x) ⊎ Memᴰ t xs
            → (Memᴰ t xs → how_many f xs < how_many g xs) → how_many f (x ∷ xs) < how_many g (x ∷ xs)
        go true y true z w (inl e) r = absurd (clash (ap f e ∙ y) p)
        go true y true z w (inr k) r = rw (y, z, how_many) (suc-le-suc (r k))
        go true y false z w h r = absurd (clash (wider x y) z)
        go false y true z w h r = rw (y, z, how_many) (suc-le-suc w)
        go false y false z w (inl e) r = absurd (clash (sym (ap g e) ∙ q) z)
        go false y false z w (inr k) r = rw (y, z, how_many) (r k)

pub some_map : {A B : Type 0} (g : B → Bool) (h : A → B) (xs : List A) → some g (map h xs) ≡ some (λ t. g (h t)) xs
unfolding some
some_map g h [] = refl
some_map g h (x ∷ xs) = ap (λ (b : Bool). elim (g (h x)) [ true ↦ true | false ↦ b ]) (some_map g h xs)

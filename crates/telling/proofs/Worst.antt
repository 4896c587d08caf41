-- What spoils an action, and the record that is told of it: which it is, and that it spoils the action.
use Prim.Native.Nat.{ℕ, ◌≤◌, ◌<◌}
use mathlib.Core.Bool.{Bool, true, false}
use mathlib.Core.List.{List}
use mathlib.Core.Logic.Iff
use mathlib.Core.Logic.{◌⊎◌, inl, inr, ◌↔◌}
use mathlib.Core.Path.{◌≡◌, refl, ap}
use native.Mathlib.Omega.{arith}
use Rattle.std.specs.declared.option.Option.{Option}
use Rattle.std.specs.declared.option.Option.TheVariants.{Some, None}
use Rattle.game.proofs.Tests.{and_iff, leb_iff, some_stops, last_met}
use Rattle.rules.specs.Job.{Job, is_from}
use Rattle.telling.specs.Spoilt.{worth, spoils, is_spoilt, last_spoiler, SpoiltBy, worst}

-- what spoiling comes to
pub spoils_iff : (j : Job) (p : List ℕ) (s q a v k : ℕ)
    → (spoils j p s q a v k ≡ true) ↔ ((is_from (j.move k) s a ≡ true) × (worth j p q k ≤ v))
spoils_iff j p s q a v k = and_iff Iff.rfl (leb_iff (worth j p q k) v)

module _ (j : Job) (p : List ℕ) (s q a : ℕ) where
  -- the last that spoils it by losing, and where none does, what is found by at most pending
  pub worst_lost : (k : ℕ) → SpoiltBy j p s q a 0 (Some k) → Some k ≡ worst j p s q a
  worst_lost k (h, e, last) = rw (some_stops (spoils j p s q a 0) j.records k h e) (ap Some last)

  pub worst_else : (r : Option ℕ) → SpoiltBy j p s q a 0 None → SpoiltBy j p s q a 1 r → r ≡ worst j p s q a
  worst_else (Some k) none (h, e, last) = rw (none, some_stops (spoils j p s q a 1) j.records k h e) (ap Some last)
  worst_else None none more = rw (none, more)

  -- it is one of the job's, and spoils the action by losing, or by at most pending where none does by losing
  pub worst_spoils : (k : ℕ) → Some k ≡ worst j p s q a
      → (k < j.records) × ((spoils j p s q a 0 k ≡ true) ⊎ ((is_spoilt j p s q a 0 ≡ false) × (spoils j p s q a 1 k ≡ true)))
  worst_spoils k e = go (is_spoilt j p s q a 0) refl (is_spoilt j p s q a 1) refl
    where
      go : (x : Bool) → is_spoilt j p s q a 0 ≡ x → (y : Bool) → is_spoilt j p s q a 1 ≡ y
          → (k < j.records) × ((spoils j p s q a 0 k ≡ true) ⊎ ((is_spoilt j p s q a 0 ≡ false) × (spoils j p s q a 1 k ≡ true)))
      go true x y z =
          let same : k ≡ last_spoiler j p s q a 0 = let h = rw x at e in cc in
          let (h, t) = last_met (spoils j p s q a 0) j.records x in
          (rw same h, inl (rw same t))
      go false x true z =
          let same : k ≡ last_spoiler j p s q a 1 = let h = rw (x, z) at e in cc in
          let (h, t) = last_met (spoils j p s q a 1) j.records z in
          (rw same h, inr (x, rw same t))
      go false x false z = let h = rw (x, z) at e in let n : ◌≡◌ {A = ℕ} 0 1 = cc in absurd (omega arith)

  -- there is one where some record spoils the action by at most pending
  pub worst_some : is_spoilt j p s q a 1 ≡ true → (k : ℕ) × (Some k ≡ worst j p s q a)
  worst_some e = go (is_spoilt j p s q a 0) refl
    where
      go : (x : Bool) → is_spoilt j p s q a 0 ≡ x → (k : ℕ) × (Some k ≡ worst j p s q a)
      go true x = (last_spoiler j p s q a 0, rw x)
      go false x = (last_spoiler j p s q a 1, rw (x, e))

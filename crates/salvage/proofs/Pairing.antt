-- What a pass over the records finds: which is the first of its pair, and what it carries on to the next; and where a record's bytes lie.
use Prim.Native.Nat.{ℕ, zero, suc, ◌+◌, ◌*◌, ◌-◌, ◌≤◌, ◌<◌}
use mathlib.Core.Bool.{Bool, true, false, not, ◌&&◌}
use mathlib.Core.List.{List}
use mathlib.Core.Path.{◌≡◌, refl, sym, ◌∙◌, ap, ap₂, subst, subst₂}
use native.Mathlib.Numerals.{add-one}
use native.Mathlib.Omega.{arith}
use borrow.Author.Tests.{not-false}
use lib.ListN.{take, drop}
use Rattle.sets.specs.Sets.{one, count}
use Rattle.sets.proofs.Sizes.{count_le}
use Rattle.game.proofs.Search.{clash}
use Rattle.job.specs.Forms.{in_rules}
use Rattle.rules.specs.Job.{Job, is_from}
use Rattle.rules.specs.Bytes.{form, said, is_tall}
use Rattle.rules.specs.declared.place.Move.{Move}
use Rattle.job.specs.Layout.{FitBut}
use Rattle.job.proofs.Named.{named_back}
use Rattle.job.specs.declared.layout.Layout.{Layout}
use Rattle.salvage.specs.Mended.{spoilt, stays, first_of_pair, lists}
use Rattle.salvage.specs.Salvage.{record_bytes}
use Rattle.salvage.specs.Passes.{Carried, Turned, Added, Tallied}
use Rattle.salvage.specs.declared.pairs.Turn.{Turn}
use Rattle.salvage.specs.declared.tally.Tally.{Tally}
use Rattle.salvage.proofs.Keeping.{count_step}
use Rattle.salvage.proofs.Mending.{Ascends, same_iff, spoilt_same, first_beside}

-- ---- what the layout says

module _ {b : List ℕ} {l : Layout} (f : FitBut true b l) where
  pub records_said : l.records ≡ (said b).records
  records_said = rw f.is_layout refl

  pub states_said : l.states ≡ (said b).states
  states_said = rw f.is_layout refl

  pub wide_said : (in_rules l.form).record_size ≡ (form b).record_size
  wide_said = rw (f.is_layout, named_back (is_tall b)) refl

  pub bytes_are : (w k : ℕ) → w ≡ (in_rules l.form).record_size → take w (drop (l.moves_at + w * k) b) ≡ record_bytes b k
  bytes_are w k e = rw (e, f.is_layout, named_back (is_tall b)) refl

-- ---- the first record of a pair

module _ (j : Job) (up : Ascends j) where
  pub told_first : (k : ℕ) (m n : Move) (x₀ : Bool) → (k ≡ 0 → ⊥) → k < j.records → m ≡ j.move (k - 1) → n ≡ j.move k
      → is_from m n.state n.action ≡ x₀ → not x₀ ≡ first_of_pair j k
  told_first zero m n x₀ d l e g h = absurd (d refl)
  told_first (suc k) m n x₀ d l e g h =
      let e' : m ≡ j.move k = e ∙ ap j.move (let q : suc k - 1 ≡ k = omega arith in q) in
      sym (first_beside j up k l ∙ ap not (subst₂ (λ (x y : Move). is_from x y.state y.action ≡ x₀) e' g h))

  -- what is carried on to a record of the same pair
  pub carried_same : (b : List ℕ) (k : ℕ) (bad : Bool) → j ≡ said b → k < j.records → Carried b k bad → first_of_pair j k ≡ false
      → bad ≡ spoilt j k
  carried_same b zero bad q l c e = let z : ◌≡◌ {A = Bool} true false = e in absurd (clash refl z)
  carried_same b (suc k) bad q l c e =
      let same = (same_iff j k (suc k)).0 (not-false _ (sym (first_beside j up k l) ∙ e)) in
      c.carries k refl ∙ ap (λ (i : Job). spoilt i k) (sym q) ∙ spoilt_same j k (suc k) same

module _ (b : List ℕ) where
  pub carried_none : Carried b 0 false
  carried_none = record { carries = λ j h. absurd (omega arith) }

  pub carried_on : (k : ℕ) (bad : Bool) → bad ≡ spoilt (said b) k → Carried b (k + 1) bad
  carried_on k bad e =
      record { carries = λ j h. let q : k ≡ j = omega arith in subst (λ (x : ℕ). bad ≡ spoilt (said b) x) q e }

  -- ---- what is found of a record, as what stays and what is listed

  pub stays_found : (k : ℕ) (u : Turn) → Turned b k u → not u.bad ≡ stays (said b) k
  stays_found k u t = ap not t.bad_is

  pub lists_found : (k : ℕ) (u : Turn) → Turned b k u → (u.bad && u.first) ≡ lists (said b) k
  lists_found k u t = ap₂ (λ (x y : Bool). x && y) t.bad_is t.first_is

  -- ---- counting

  pub tallied_none : Tallied b 0 (record { kept = 0; listed = 0 })
  unfolding count
  tallied_none = record { kept_are = refl; listed_are = refl }

  pub tallied_more : (k : ℕ) (t r : Tally) (u : Turn) → Tallied b k t → Turned b k u → Added t u r → Tallied b (k + 1) r
  tallied_more k t r u h v a = subst (λ (x : ℕ). Tallied b x r) (sym (add-one k)) next
    where
      next : Tallied b (suc k) r
      next =
          record {
            kept_are = a.kept_more ∙ ap₂ ◌+◌ h.kept_are (ap one (stays_found k u v)) ∙ sym (count_step (stays (said b)) k);
            listed_are = a.listed_more ∙ ap₂ ◌+◌ h.listed_are (ap one (lists_found k u v)) ∙ sym (count_step (lists (said b)) k);
          }

  pub tallied_few : (k : ℕ) (t : Tally) → Tallied b k t → (t.kept ≤ k) × (t.listed ≤ k)
  tallied_few k t h = (
    omega (arith, count_le (stays (said b)) k, h.kept_are),
    omega (arith, count_le (lists (said b)) k, h.listed_are),
  )

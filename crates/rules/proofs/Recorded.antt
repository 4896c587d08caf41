-- The record with a state, an action and an outcome: where one is there its number is `record_number`, and in bytes that keep the rules it is
-- the only one.
use Prim.Native.Nat.{ℕ, ◌<◌}
use mathlib.Core.Bool.{true}
use mathlib.Core.List.{List}
use mathlib.Core.Logic.{◌↔◌}
use mathlib.Core.Path.{◌≡◌, sym, ◌∙◌}
use Rattle.rules.specs.Job.{Job, is_record, recorded, record_number}
use Rattle.rules.specs.Bytes.{said}
use Rattle.rules.specs.Keeps.{Keeps}
use Rattle.rules.specs.declared.place.Move.{Move}
use Rattle.game.proofs.Tests.{last_met}
use Rattle.rules.proofs.Arenas.{is_from_iff, is_record_iff}
use Rattle.rules.proofs.Kept.{distinct}

pub fields_iff : (m : Move) (s a t : ℕ) → (is_record m s a t ≡ true) ↔ ((m.state ≡ s) × (m.action ≡ a) × (m.outcome ≡ t))
fields_iff m s a t = (into, λ e. (is_record_iff m s a t).1 ((is_from_iff m s a).1 (e.0, e.1), e.2))
  where
    into : is_record m s a t ≡ true → (m.state ≡ s) × (m.action ≡ a) × (m.outcome ≡ t)
    into e =
        let (from, to) = (is_record_iff m s a t).0 e in
        let (state, action) = (is_from_iff m s a).0 from in
        (state, action, to)

-- k is the number of a record of j, and that has state s, action a and outcome t
abbrev pub Matches : Job → ℕ → ℕ → ℕ → ℕ → Type 0
Matches j s a t k = (k < j.records) × ((j.move k).state ≡ s) × ((j.move k).action ≡ a) × ((j.move k).outcome ≡ t)

module _ (j : Job) (s a t : ℕ) where
  pub match_iff : (k : ℕ) → ((k < j.records) × (is_record (j.move k) s a t ≡ true)) ↔ Matches j s a t k
  match_iff k =
      let (into, back) = fields_iff (j.move k) s a t in
      (λ m. let (state, action, to) = into m.1 in (m.0, state, action, to), λ m. (m.0, back (m.1, m.2, m.3)))

  pub number_matches : recorded j s a t ≡ true → Matches j s a t (record_number j s a t)
  number_matches r = (match_iff (record_number j s a t)).0 (last_met (λ k. is_record (j.move k) s a t) j.records r)

pub matches_alone : {b : List ℕ} → Keeps b → {s a t i k : ℕ} → Matches (said b) s a t i → Matches (said b) s a t k → i ≡ k
matches_alone keeps {i = i} {k = k} (h, state, action, to) (l, state', action', to') =
    distinct keeps i k h l (state ∙ sym state') (action ∙ sym action') (to ∙ sym to')

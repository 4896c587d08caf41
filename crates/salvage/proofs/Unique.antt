-- The promise of salvaging fixes its answer and both buffers; and what it says of a good job, of a salvaged one, and of the lengths.
use Prim.Native.Nat.{ℕ, ◌≤◌}
use mathlib.Core.List.{List, ◌++◌}
use mathlib.Core.Logic.{⊎_elim}
use mathlib.Core.Path.{◌≡◌, refl, sym, ◌∙◌, ap, subst}
use native.Mathlib.Omega.{arith}
use lib.ListN.{length, take, drop}
use lib.Seq.{take_at}
use Rattle.sets.proofs.Sizes.{count_le}
use Rattle.rules.specs.Fault.{Fault, only}
use Rattle.rules.specs.Bytes.{said}
use Rattle.rules.specs.Keeps.{Keeps}
use Rattle.rules.proofs.Kept.{kept_but, length_most, records_few}
use Rattle.rules.proofs.Retelling.{Bytes}
use Rattle.rules.proofs.Figures.{known_by, by_refusal, by_refusal_back}
use Rattle.salvage.specs.Mended.{lists}
use Rattle.salvage.specs.Salvage.{salvaged, removed, Salvaging, refused, no_room, done}
use Rattle.salvage.specs.Figures.{SalvagedFigures, salvaged_figures}
use Rattle.std.specs.Prelude.{Result, Ok, Err}
use Rattle.rules.specs.declared.answer.Refusal.{Refusal}
use Rattle.salvage.specs.declared.tool.Lengths.{Lengths}
use Rattle.salvage.proofs.AsPlanning.{keeps_forgiven}
use Rattle.salvage.proofs.Kept.{salvaged_keeps}
use Rattle.salvage.proofs.Listing.{removed_length}
use Rattle.salvage.proofs.Again.{good_unchanged, salvaged_bytes}

pub salvaging_unique : {b job pairs job' job'' pairs' pairs'' : List ℕ} {f f' : Fault} {m n m' n' : ℕ}
    → Salvaging b job pairs f m n job' pairs' → Salvaging b job pairs f' m' n' job'' pairs''
    → (f ≡ f') × (m ≡ m') × (n ≡ n') × (job' ≡ job'') × (pairs' ≡ pairs'')
salvaging_unique (refused n) (refused n') = (refl, refl, refl, refl, refl)
salvaging_unique (refused n) (no_room e h) = absurd (n e)
salvaging_unique (refused n) (done e h g) = absurd (n e)
salvaging_unique (no_room e h) (refused n) = absurd (n e)
salvaging_unique (no_room e h) (no_room e' h') = (refl, refl, refl, refl, refl)
salvaging_unique (no_room e h) (done e' h' g) = absurd (⊎_elim (λ x. omega (arith, x, h')) (λ x. omega (arith, x, g)) h)
salvaging_unique (done e h g) (refused n) = absurd (n e)
salvaging_unique (done e h g) (no_room e' h') = absurd (⊎_elim (λ x. omega (arith, x, h)) (λ x. omega (arith, x, g)) h')
salvaging_unique (done e h g) (done e' h' g') = (refl, refl, refl, refl, refl)

-- A good job is not refused, and comes out byte for byte, with no pairs listed.
pub salvaging_good : {b job pairs job' pairs' : List ℕ} {f : Fault} {m n : ℕ} → Bytes b → Keeps b → Salvaging b job pairs f m n job' pairs'
    → length b ≤ length job → (f ≡ only 0) × (m ≡ length b) × (n ≡ 0) × (job' ≡ b ++ drop (length b) job) × (pairs' ≡ pairs)
salvaging_good {b} s k (refused h) l = absurd (h ((kept_but _ b).1 (keeps_forgiven k)))
salvaging_good {b} {job} {pairs} s k (no_room e h) l =
    let (u, v) = good_unchanged b s k in
    absurd (⊎_elim (λ x. let z = ap length u in omega (arith, x, z, l)) (λ x. let z : length (removed b) ≡ 0 = ap length v in omega (arith, x, z)) h)
salvaging_good {b} {job} {pairs} s k (done e h g) l =
    let (u, v) = good_unchanged b s k in
    (refl, ap length u, ap length v, ap (λ (x : List ℕ). x ++ drop (length x) job) u, ap (λ (x : List ℕ). x ++ drop (length x) pairs) v)

-- What was salvaged is not refused when it is salvaged again, stays the same, and no pairs are listed.
pub salvaging_again : {b job pairs job' pairs' job₂ pairs₂ job₃ pairs₃ : List ℕ} {f f₂ : Fault} {m n m₂ n₂ : ℕ} → Bytes b
    → Salvaging b job pairs f m n job' pairs' → f.number ≡ 0 → Salvaging (take m job') job₂ pairs₂ f₂ m₂ n₂ job₃ pairs₃ → m ≤ length job₂
    → (f₂ ≡ only 0) × (m₂ ≡ m) × (n₂ ≡ 0) × (job₃ ≡ take m job' ++ drop m job₂) × (pairs₃ ≡ pairs₂)
salvaging_again small (refused h) z s l = absurd (h z)
salvaging_again small (no_room e h) z s l = absurd (omega arith)
salvaging_again {b} {job} {job₂ = job₂} {pairs₂ = pairs₂} {job₃ = job₃} {pairs₃ = pairs₃} {f₂ = f₂} {m₂ = m₂} {n₂ = n₂} small (done e h g) z s l =
    let t : take (length (salvaged b)) (salvaged b ++ drop (length (salvaged b)) job) ≡ salvaged b =
    take_at (salvaged b) (drop (length (salvaged b)) job) (length (salvaged b)) refl in
    let k = (kept_but _ b).0 e in
    let s' = subst (λ (x : List ℕ). Salvaging x job₂ pairs₂ f₂ m₂ n₂ job₃ pairs₃) t s in
    let (p, q, w, x, y) = salvaging_good (salvaged_bytes k small) (salvaged_keeps k) s' l in
    (p, q, w, x ∙ ap (λ (v : List ℕ). v ++ drop (length (salvaged b)) job₂) (sym t), y)

-- Whatever salvaging answers, the job takes no more bytes than the longest one, and the list no more than three a record.
pub salvaging_short : {b job pairs job' pairs' : List ℕ} {f : Fault} {m n : ℕ} → Salvaging b job pairs f m n job' pairs'
    → (m ≤ 43576) × (n ≤ 24576)
salvaging_short (refused n) = (omega arith, omega arith)
salvaging_short (no_room e h) = (omega arith, omega arith)
salvaging_short {b = b} (done e h g) =
    let k = (kept_but _ b).0 e in
    (length_most (salvaged_keeps k), omega (arith, removed_length b, count_le (lists (said b)) (said b).records, records_few k))

-- ---- an answer is known by its figures

abbrev salvaged_of : SalvagedFigures → Result Lengths Refusal
salvaged_of f = by_refusal f.fault.number f.fault.«record» (Ok (record { job = f.job_length; pairs = f.pairs_length })) Err

salvaged_back : (r : Result Lengths Refusal) → salvaged_of (salvaged_figures r) ≡ r
salvaged_back (Ok x) = refl
salvaged_back (Err why) = by_refusal_back why _ Err

pub salvaged_known : (r s : Result Lengths Refusal) → salvaged_figures r ≡ salvaged_figures s → r ≡ s
salvaged_known = known_by salvaged_figures salvaged_of salvaged_back

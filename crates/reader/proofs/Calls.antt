-- What a run of calls hands out: record k at call k, counted from 0, so none is left out or given twice, and no more after the last.
use Prim.Native.Nat.{ℕ, zero, suc, ◌≤◌, ◌<◌, zero-le}
use mathlib.Core.List.{List, [], ◌∷◌, map}
use mathlib.Core.Logic.{◌≢◌, ⊎_elim}
use mathlib.Core.Path.{◌≡◌, refl, sym, ap, ◌∙◌, subst}
use native.Mathlib.Nat.{eq-or-lt_of_le}
use native.Mathlib.Omega.{arith}
use denote.Ref.{Bor}
use Rattle.std.specs.Prelude.{Option, Some, None}
use Rattle.game.specs.Below.{upto}
use Rattle.rules.specs.declared.place.Move.{Move}
use Rattle.rules.specs.Bytes.{fault, refusal, said}
use Rattle.rules.specs.Examples.{plate}
use Rattle.sets.proofs.Bits.{below_or}
use Rattle.rules.proofs.Numbers.{Among, told}
use Rattle.reader.specs.Handed.{moves_in, handed, cursor, answered, opened, hands, after}
use Rattle.reader.specs.declared.MoveReader.{MoveReader}
use Rattle.reader.proofs.Handing.{moves_of_job, moves_of_refused, hands_record, hands_no_more, moves_on, stays}

module _ (s : Bor (List ℕ)) where
  abbrev b : List ℕ
  b = s.now

  -- the reader after k calls, and what call k hands out
  abbrev reader : ℕ → MoveReader
  reader k = after k (opened s)

  abbrev call : ℕ → Option Move
  call k = hands (reader k)

  -- ---- opening gives 0, or 1 to 6, 12 and 13, these two alone with a record, and the calls change nothing but the cursor

  pub opening_range : Among (opened s).answer.refusal
  opening_range = (told b).among

  pub opening_record : refusal b ≢ 12 → refusal b ≢ 13 → (opened s).answer.«record» ≡ 0
  opening_record = (told b).no_record

  pub same_job : (k : ℕ) → (reader k).job ≡ s
  same_job zero = refl
  same_job (suc k) = same_job k

  pub same_answer : (k : ℕ) → (reader k).answer ≡ answered (fault b)
  same_answer zero = refl
  same_answer (suc k) = same_answer k

  -- ---- the cursor counts the calls up to the number of moves, and stays there

  next_cursor : (k : ℕ) → (reader (suc k)).at ≡ cursor b (reader k).at
  next_cursor k = ap (λ (j : Bor (List ℕ)). cursor j.now (reader k).at) (same_job k)

  pub counts : (k : ℕ) → k ≤ moves_in b → (reader k).at ≡ k
  counts zero h = refl
  counts (suc k) h =
      let below : k < moves_in b = omega (arith, h) in
      next_cursor k ∙ ap (cursor b) (counts k (omega (arith, h))) ∙ moves_on b k below ∙ omega arith

  pub counts_no_more : (k : ℕ) → moves_in b ≤ k → (reader k).at ≡ moves_in b
  counts_no_more zero h = omega (arith, h)
  counts_no_more (suc k) h =
      ⊎_elim
      (λ (e : moves_in b ≡ suc k). counts (suc k) (omega (arith, e)) ∙ sym e)
      (λ (l : moves_in b < suc k). next_cursor k ∙ ap (cursor b) (counts_no_more k (omega (arith, l))) ∙ stays b (moves_in b) (omega arith))
      (eq-or-lt_of_le h)

  -- ---- what call k hands out

  call_is : (k : ℕ) → call k ≡ handed b (reader k).at
  call_is k = ap (λ (j : Bor (List ℕ)). handed j.now (reader k).at) (same_job k)

  past_all : (k : ℕ) → moves_in b ≤ k → call k ≡ None
  past_all k h = call_is k ∙ ap (handed b) (counts_no_more k h) ∙ hands_no_more b (moves_in b) (omega arith)

  -- whether there is such a record or not
  pub calls_handed : (k : ℕ) → call k ≡ handed b k
  calls_handed k =
      ⊎_elim
      (λ (h : k < moves_in b). call_is k ∙ ap (handed b) (counts k (omega (arith, h))))
      (λ (h : moves_in b ≤ k). past_all k h ∙ sym (hands_no_more b k h))
      (below_or k (moves_in b))

  pub kth : (k : ℕ) → refusal b ≡ 0 → k < (said b).records → call k ≡ Some ((said b).move k)
  kth k read h =
      let below : k < moves_in b = subst (λ (n : ℕ). k < n) (sym (moves_of_job b read)) h in
      call_is k ∙ ap (handed b) (counts k (omega (arith, below))) ∙ hands_record b k below

  pub no_more : (k : ℕ) → refusal b ≡ 0 → (said b).records ≤ k → call k ≡ None
  no_more k read h = past_all k (subst (λ (n : ℕ). n ≤ k) (sym (moves_of_job b read)) h)

  pub none_refused : (k : ℕ) → refusal b ≢ 0 → call k ≡ None
  none_refused k refused = past_all k (subst (λ (n : ℕ). n ≤ k) (sym (moves_of_refused b refused)) zero-le)

-- ---- One plate has six moves

abbrev one : ℕ → ℕ → ℕ → Option Move
one f a t = Some (record { state = f; action = a; outcome = t })

pub plate_moves : map (handed plate) (upto 7)
    ≡ one 0 0 1 ∷ one 0 0 3 ∷ one 1 1 1 ∷ one 1 1 2 ∷ one 1 2 0 ∷ one 2 2 0 ∷ None ∷ []
plate_moves = refl

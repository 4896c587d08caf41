-- What advice on plans for slips of the arm answers, on every input.
use Rattle.std.specs.Prelude.{ℕ, suc, Bool, cond, not, ◌&&◌, List, ltb, eqb, length}
use Rattle.rules.specs.Job.{Job, place}
use Rattle.rules.specs.Fault.{only}
use Rattle.rules.specs.Bytes.{fault, refusal, said}
use Rattle.rules.specs.Plan.{entry, shaped}
use Rattle.rules.specs.Calls.{is_place, refused_advice, advice_of}
use Rattle.rules.specs.Answers.{AdvisedFigures}
use Rattle.larger.specs.Larger.{larger}
use Rattle.larger.specs.Plans.{larger_number, larger_places, larger_room}

-- state s and goal state q with k slips left, of up to K
abbrev pub is_larger : Job → ℕ → ℕ → ℕ → ℕ → Bool
is_larger j K s q k = is_place j s q && ltb k (suc K)

-- What advice answers, of the plans p for up to K slips, at state s and goal state q with k slips left. The first that applies: the numbers of
-- the job alone, 18, 7, 9, and 10 where the entry has none of the four shapes; a number is below the count of larger places.
abbrev pub advised_slips : (b : List ℕ) (K : ℕ) (p : List ℕ) (s q k : ℕ) → AdvisedFigures
advised_slips b K p s q k =
    let e = entry p (larger_number (said b) (larger k (place s q))) in
    cond (not (eqb (refusal b) 0)) (refused_advice (fault b))
    (cond (ltb 3 K) (refused_advice (only 18))
    (cond (ltb (length p) (larger_room (said b) K)) (refused_advice (only 7))
    (cond (not (is_larger (said b) K s q k)) (refused_advice (only 9))
    (cond (not (shaped (said b).actions (larger_places (said b) K) e)) (refused_advice (only 10))
    (advice_of e)))))

-- The numbers below a bound: the list of them, tests that all or some of them pass, and the last that passes.
use Rattle.std.specs.Prelude.{ℕ, zero, suc, Bool, true, false, cond, ◌&&◌, ◌||◌, List, [], ◌∷◌, ◌++◌}

-- the numbers below n in order, and the lists of several, one after the other
abbrev pub upto : ℕ → List ℕ
upto zero = []
upto (suc n) = upto n ++ (n ∷ [])

abbrev pub each : {A : Type 0} → List ℕ → (ℕ → List A) → List A
each [] f = []
each (i ∷ is) f = f i ++ each is f

-- every number below n passes the test; some number below n does
abbrev pub every_below : ℕ → (ℕ → Bool) → Bool
every_below zero f = true
every_below (suc n) f = every_below n f && f n

abbrev pub some_below : ℕ → (ℕ → Bool) → Bool
some_below zero f = false
some_below (suc n) f = some_below n f || f n

-- the last number below n that passes the test, or 0 where none does
abbrev pub last_below : ℕ → (ℕ → Bool) → ℕ
last_below zero f = zero
last_below (suc n) f = cond (f n) n (last_below n f)

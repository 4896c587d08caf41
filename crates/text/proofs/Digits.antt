-- The decimal text of a number: it is what the kit's digits say at the fewest that hold it, says its number, and is short.
use Prim.Native.Nat.{ℕ, zero, suc, ◌+◌, ◌-◌, ◌*◌, ◌/◌, ◌%◌, ◌^◌, ◌≤◌, ◌<◌}
use mathlib.Core.Bool.{Bool, true, false, cond}
use mathlib.Core.List.{List, [], ◌∷◌, ◌++◌}
use mathlib.Core.Path.{◌≡◌, refl, sym, ap, ◌∙◌}
use native.Mathlib.Nat.{pow-suc, one-le-pow}
use native.Mathlib.Omega.{arith}
use borrow.Author.Tests.{lt-ltb, le-ltb, ltb-false}
use lib.Dec.{ltb}
use lib.ListN.{length, get_or, length-append, get_or-append}
use Rattle.io.specs.Digits.{last_digits, IsDigitCount}
use Rattle.text.specs.Lines.{decimal_in, decimal}

decimal_of : (turns n k : ℕ) → n < turns → IsDigitCount 10 1 n k → last_digits 10 k n ≡ decimal_in turns n
unfolding decimal_in
decimal_of zero n k h f = absurd (omega arith)
decimal_of (suc t) n zero h f = absurd (omega arith)
decimal_of (suc t) n (suc zero) h f =
    let small : n < 10 = f.1 in
    let same : n % 10 ≡ n = omega arith in
    rw (same, lt-ltb n 10 small)
decimal_of (suc t) n (suc (suc k)) h f =
    let one_less : suc (suc k) - 1 ≡ suc k = omega arith in
    let more : 10 ^ suc k ≤ n = rw one_less at (f.2 (omega arith)) in
    let p : 10 ^ suc k ≡ 10 ^ k * 10 = pow-suc 10 k in
    let q : 10 ^ suc (suc k) ≡ 10 ^ suc k * 10 = pow-suc 10 (suc k) in
    let one : 0 < 10 ^ k = one-le-pow k 10 (omega arith) in
    let large : 10 ≤ n = omega arith in
    let less : suc k - 1 ≡ k = omega arith in
    rw (le-ltb n 10 large, lt-ltb (n % 10) 10 (omega arith))
    (ap (λ (ds : List ℕ). ds ++ ((48 + n % 10) ∷ []))
    (decimal_of t (n / 10) (suc k) (omega arith) (omega arith, omega arith, λ z. rw less (omega arith))))

-- What `io::decimal` writes is the decimal text.
pub decimal_digits : (n k : ℕ) → IsDigitCount 10 1 n k → last_digits 10 k n ≡ decimal n
unfolding decimal
decimal_digits n k f = decimal_of (suc n) n k (omega arith) f

-- ---- it says its number, and has no zero in front

-- the number that digits say, read from the front
abbrev pub read_on : ℕ → List ℕ → ℕ
read_on n [] = n
read_on n (d ∷ ds) = read_on (n * 10 + (d - 48)) ds

read_last : (n : ℕ) (ds : List ℕ) (d : ℕ) → read_on n (ds ++ (d ∷ [])) ≡ read_on n ds * 10 + (d - 48)
read_last n [] d = refl
read_last n (e ∷ ds) d = read_last (n * 10 + (e - 48)) ds d

-- what is shown of the decimal text of n: it has a digit, says n, and begins with 0 only where n is 0
record Says (n : ℕ) (ds : List ℕ) : Type 0 where
  some : 0 < length ds
  number : read_on 0 ds ≡ n
  front : get_or ds 0 0 ≡ 48 → n ≡ 0

-- one digit, or the digits before the last and the last
says_step : (n : ℕ) (ds : List ℕ) (b : Bool) → ltb n 10 ≡ b → (10 ≤ n → Says (n / 10) ds)
    → Says n (cond b ((48 + n) ∷ []) (ds ++ ((48 + n % 10) ∷ [])))
says_step n ds true e before = record { some = omega arith; number = omega arith; front = λ z. omega arith }
says_step n ds false e before =
    let large : 10 ≤ n = ltb-false n 10 e in
    let s = before large in
    let last = (48 + n % 10) ∷ [] in
    record {
      some = omega (arith, length-append ds last, s.some);
      number = omega (arith, read_last 0 ds (48 + n % 10), s.number);
      front = λ z.
          let small : n / 10 ≡ 0 = s.front (sym (get_or-append ds last 0 0 s.some) ∙ z) in
          absurd (omega arith);
    }

says_in : (turns n : ℕ) → n < turns → Says n (decimal_in turns n)
unfolding decimal_in
says_in zero n h = absurd (omega arith)
says_in (suc t) n h = says_step n (decimal_in t (n / 10)) (ltb n 10) refl (λ large. says_in t (n / 10) (omega arith))

-- Read as a number, the decimal text of n says n; so no two numbers have the same text.
pub decimal_says : (n : ℕ) → read_on 0 (decimal n) ≡ n
unfolding decimal
decimal_says n = (says_in (suc n) n (omega arith)).number

pub decimal_unique : (m n : ℕ) → decimal m ≡ decimal n → m ≡ n
decimal_unique m n e = sym (decimal_says m) ∙ ap (read_on 0) e ∙ decimal_says n

-- It begins with 0 only where the number is 0.
pub decimal_front : (n : ℕ) → get_or (decimal n) 0 0 ≡ 48 → n ≡ 0
unfolding decimal
decimal_front n z = (says_in (suc n) n (omega arith)).front z

-- ---- how long it is

-- one digit, or the digits before the last and the last
short_step : (n k : ℕ) (ds : List ℕ) (b : Bool) → ltb n 10 ≡ b → n < 10 ^ suc k
    → ((j : ℕ) → n / 10 < 10 ^ suc j → length ds ≤ suc j)
    → length (cond b ((48 + n) ∷ []) (ds ++ ((48 + n % 10) ∷ []))) ≤ suc k
short_step n k ds true e h shorter = omega arith
short_step n zero ds false e h shorter = absurd (omega (arith, ltb-false n 10 e))
short_step n (suc k) ds false e h shorter =
    let p : 10 ^ suc (suc k) ≡ 10 ^ suc k * 10 = pow-suc 10 (suc k) in
    simp length-append (omega (arith, shorter k (omega arith)))

short_in : (turns n k : ℕ) → n < 10 ^ suc k → length (decimal_in turns n) ≤ suc k
unfolding decimal_in
short_in zero n k h = omega arith
short_in (suc t) n k h = short_step n k (decimal_in t (n / 10)) (ltb n 10) refl h (λ j i. short_in t (n / 10) j i)

pub decimal_length : (n k : ℕ) → n < 10 ^ suc k → length (decimal n) ≤ suc k
unfolding decimal
decimal_length n k h = short_in (suc n) n k h

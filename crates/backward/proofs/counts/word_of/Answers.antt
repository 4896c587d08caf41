-- `word_of` meets its contract: the number fits.
use Prim.Native.Nat.{◌≤◌, ◌+◌, ◌*◌}
use native.Mathlib.Omega.{arith}
use native.Mathlib.Nat.{mul-le-mul}
use lib.Arith.{digits_lt}
use Rattle.backward.proofs.counts.word_of.Goals as goal

pub overflow_mul-result : goal.overflow_mul-result
overflow_mul-result c = omega (arith, digits_lt c.requires.s_lt_states c.requires.q_lt_goals)

pub overflow_add-result : goal.overflow_add-result
overflow_add-result c = omega (arith, digits_lt c.requires.s_lt_states c.requires.q_lt_goals)

pub overflow_mul-result-2 : goal.overflow_mul-result-2
overflow_mul-result-2 c = let x : c.args.s * c.args.l.goals + c.args.q ≤ 65536 = omega (arith, digits_lt c.requires.s_lt_states c.requires.q_lt_goals) in
    let a : c.args.l.actions ≤ 255 = omega arith in
    omega (arith, mul-le-mul x a)

pub overflow_add-result-2 : goal.overflow_add-result-2
overflow_add-result-2 c = let x : c.args.s * c.args.l.goals + c.args.q ≤ 65536 = omega (arith, digits_lt c.requires.s_lt_states c.requires.q_lt_goals) in
    let a : c.args.l.actions ≤ 255 = omega arith in
    omega (arith, mul-le-mul x a)

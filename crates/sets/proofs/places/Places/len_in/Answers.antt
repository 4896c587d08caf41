-- `Places::len_in` meets its contract: the size is the count below the words passed.
use Prim.Native.Nat.{◌*◌}
use mathlib.Core.Path.{sym}
use native.Mathlib.Omega.{arith}
use lib.Count.{ones-le}
use Rattle.sets.specs.Sets.{member}
use Rattle.sets.proofs.Sizes.{count_none, count_word, count_le}
use Rattle.sets.proofs.places.Places.len_in.Goals as goal

pub loop-w-init : goal.loop-w-init
loop-w-init g c = sym (count_none _)

pub overflow_add-size : goal.overflow_add-size
overflow_add-size g c =
    omega (
      arith,
      c.requires.counted,
      c.loop-w.invariant,
      c.ones_of-size.ensures.0,
      ones-le 64 _ c.ones_of-size.ensures.1,
      count_le (member c.args.self.now.words) (64 * c.loop-w.w),
    )

pub loop-w-preserved : goal.loop-w-preserved
loop-w-preserved g c =
    omega (arith, c.loop-w.invariant, c.ones_of-size.ensures.0, count_word c.args.self.now.words c.loop-w.w c.ones_of-size.ensures.1)

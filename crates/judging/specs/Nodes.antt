-- What a byte of a formula says.
use Rattle.std.specs.Prelude.{ℕ, cond, ltb, eqb}
use Rattle.judging.specs.declared.read.Node.{Node}
use Rattle.judging.specs.declared.read.Node.TheVariants.{Atom, Not, And, Next, Until, WeakNext, Eventually, Always, Malformed}

abbrev pub node_of : ℕ → Node
node_of n =
    cond (ltb n 6) Atom
    (cond (eqb n 16) Not
    (cond (eqb n 17) And
    (cond (eqb n 18) Next
    (cond (eqb n 19) Until
    (cond (eqb n 20) WeakNext
    (cond (eqb n 21) Eventually
    (cond (eqb n 22) Always
    Malformed)))))))

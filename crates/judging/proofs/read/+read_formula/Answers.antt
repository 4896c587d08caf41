-- `read_formula` meets its contract. The measure: the bytes left.
use Rattle.std.proofs.Common.{refl}
use mathlib.Core.Logic.{⊎_elim}
use Rattle.judging.specs.declared.read.Node.TheVariants.{Atom, Not, And, Next, Until, WeakNext, Eventually, Always, Malformed}
use Rattle.judging.proofs.Readings.{read_past, read_malformed, read_atom, read_same, read_deeper, read_one_bad, read_first_bad, read_second_bad, read_and, read_until}
use Rattle.judging.proofs.Readings.{read_shallow, joined_shallow}
use Rattle.judging.proofs.Forms.{root_told}
use Rattle.judging.proofs.read.+read_formula.Goals as goal

pub returns-then-f-at : goal.returns-then-f-at
returns-then-f-at t c = read_past _ _ c.if-f-at.true

pub returns-in_err-first-in-And : goal.returns-in_err-first-in-And
returns-in_err-first-in-And t c = rw c.from_residual.ensures (read_first_bad _ _ And refl (root_told _ _ c.if-f-at.false _ And c.node_of.ensures c.in-And.is) c.in_err-first-in-And.ensures)

pub returns-in_err-second-in-And : goal.returns-in_err-second-in-And
returns-in_err-second-in-And t c =
    rw c.from_residual-in_err-second-in-And.ensures
    (read_second_bad _ _ And refl (root_told _ _ c.if-f-at.false _ And c.node_of.ensures c.in-And.is) _ c.in_ok-first-in-And.ensures c.in_err-second-in-And.ensures)

pub returns-in_ok-second-in-And : goal.returns-in_ok-second-in-And
returns-in_ok-second-in-And t c =
    rw c.deep_as.ensures (read_and _ _ (root_told _ _ c.if-f-at.false _ And c.node_of.ensures c.in-And.is) _ _ c.in_ok-first-in-And.ensures c.in_ok-second-in-And.ensures)

pub returns-in_err-first-in-Until : goal.returns-in_err-first-in-Until
returns-in_err-first-in-Until t c = rw c.from_residual-in_err-first-in-Until.ensures (read_first_bad _ _ Until refl (root_told _ _ c.if-f-at.false _ Until c.node_of.ensures c.in-Until.is) c.in_err-first-in-Until.ensures)

pub returns-in_err-second-in-Until : goal.returns-in_err-second-in-Until
returns-in_err-second-in-Until t c =
    rw c.from_residual-in_err-second-in-Until.ensures
    (read_second_bad _ _ Until refl (root_told _ _ c.if-f-at.false _ Until c.node_of.ensures c.in-Until.is) _ c.in_ok-first-in-Until.ensures c.in_err-second-in-Until.ensures)

pub deeper-requires : goal.deeper-requires
deeper-requires t c = rw c.deep_as-in-Until.ensures (joined_shallow _ _ _ _ c.in_ok-first-in-Until.ensures c.in_ok-second-in-Until.ensures)

pub returns-in_ok-second-in-Until : goal.returns-in_ok-second-in-Until
returns-in_ok-second-in-Until t c =
    rw (c.deeper.ensures, c.deep_as-in-Until.ensures)
    (read_until _ _ (root_told _ _ c.if-f-at.false _ Until c.node_of.ensures c.in-Until.is) _ _ c.in_ok-first-in-Until.ensures c.in_ok-second-in-Until.ensures)

pub deeper-requires-in-Eventually : goal.deeper-requires-in-Eventually
deeper-requires-in-Eventually t c = read_shallow _ _ _ c.in_ok-read_formula-in-Eventually.ensures

pub returns-in_err-read_formula-in-Eventually : goal.returns-in_err-read_formula-in-Eventually
returns-in_err-read_formula-in-Eventually t c =
    rw c.from_residual-in_err-read_formula-in-Eventually.ensures
    (⊎_elim
    (λ e. read_one_bad _ _ Eventually refl (root_told _ _ c.if-f-at.false _ Eventually c.node_of.ensures e) c.in_err-read_formula-in-Eventually.ensures)
    (λ e. read_one_bad _ _ Always refl (root_told _ _ c.if-f-at.false _ Always c.node_of.ensures e) c.in_err-read_formula-in-Eventually.ensures)
    c.in-Eventually.is)

pub returns-in_ok-read_formula-in-Eventually : goal.returns-in_ok-read_formula-in-Eventually
returns-in_ok-read_formula-in-Eventually t c =
    rw c.deeper-in-Eventually.ensures
    (⊎_elim
    (λ e. read_deeper _ _ Eventually refl (λ d. refl) (root_told _ _ c.if-f-at.false _ Eventually c.node_of.ensures e) _ c.in_ok-read_formula-in-Eventually.ensures)
    (λ e. read_deeper _ _ Always refl (λ d. refl) (root_told _ _ c.if-f-at.false _ Always c.node_of.ensures e) _ c.in_ok-read_formula-in-Eventually.ensures)
    c.in-Eventually.is)

pub returns-in-Atom : goal.returns-in-Atom
returns-in-Atom t c = read_atom _ _ (root_told _ _ c.if-f-at.false _ Atom c.node_of.ensures c.in-Atom.is)

pub returns-in-Not : goal.returns-in-Not
returns-in-Not t c =
    ⊎_elim
    (λ e. read_same _ _ Not refl (λ d. refl) (root_told _ _ c.if-f-at.false _ Not c.node_of.ensures e) _ c.read_formula.ensures)
    (λ e. ⊎_elim
    (λ e. read_same _ _ Next refl (λ d. refl) (root_told _ _ c.if-f-at.false _ Next c.node_of.ensures e) _ c.read_formula.ensures)
    (λ e. read_same _ _ WeakNext refl (λ d. refl) (root_told _ _ c.if-f-at.false _ WeakNext c.node_of.ensures e) _ c.read_formula.ensures)
    e)
    c.in-Not.is

pub returns-in-Malformed : goal.returns-in-Malformed
returns-in-Malformed t c = read_malformed _ _ (root_told _ _ c.if-f-at.false _ Malformed c.node_of.ensures c.in-Malformed.is)

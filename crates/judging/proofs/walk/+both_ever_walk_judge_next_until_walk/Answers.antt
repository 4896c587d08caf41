-- The cycle {judge, both, next, until_walk, ever_walk} meets its contracts.
use Rattle.std.proofs.Common.{refl, arith}
use borrow.Author.Tests.{not-true, not-false}
use Rattle.judging.specs.declared.read.Node.TheVariants.{Atom, Not, And, Next, Until, WeakNext, Eventually, Always, Malformed}
use Rattle.judging.proofs.Forms.{root_told}
use Rattle.judging.proofs.Walkings.{judged_atom, judged_malformed, judged_not, judged_and, judged_next, judged_weak, judged_until, judged_ever}
use Rattle.judging.proofs.Walkings.{judged_always, until_found, until_broken, until_last, until_later}
use Rattle.judging.proofs.Walkings.{ever_found, ever_last, ever_later, ready_within, ready_part, ready_two}
use Rattle.judging.proofs.walk.+both_ever_walk_judge_next_until_walk.Goals as goal

pub ever_walk-returns-then-p-wanted : goal.ever_walk-returns-then-p-wanted
ever_walk-returns-then-p-wanted t c = ever_found _ _ _ _ c.requires.moment _ _ c.judge-p.ensures c.if-p-wanted.true

pub ever_walk-returns-then-t-i : goal.ever_walk-returns-then-t-i
ever_walk-returns-then-t-i t c = ever_last _ _ _ _ c.requires.moment _ _ c.judge-p.ensures c.if-p-wanted.false c.if-t-i.true

pub ever_walk-returns : goal.ever_walk-returns
ever_walk-returns t c = ever_later _ _ _ _ c.requires.moment _ _ c.judge-p.ensures c.if-p-wanted.false _ c.ever_walk.ensures

pub judge-bounds-f-at : goal.judge-bounds-f-at
judge-bounds-f-at t c = ready_within _ _ _ _ c.requires

pub judge-bounds-f-at-in-Atom : goal.judge-bounds-f-at-in-Atom
judge-bounds-f-at-in-Atom t c = ready_within _ _ _ _ c.requires

pub judge-overflow_add-result : goal.judge-overflow_add-result
judge-overflow_add-result t c = omega (arith, ready_within _ _ _ _ c.requires)

pub judge-judge-requires : goal.judge-judge-requires
judge-judge-requires t c =
    let w = ready_within _ _ _ _ c.requires in
    (omega (arith, c.requires.moment, c.requires.few), ready_part _ _ _ _ c.requires Not refl (root_told _ _ (ready_within _ _ _ _ c.requires) _ Not c.node_of.ensures c.in-Not.is) _ c.requires.moment)

pub judge-both-requires : goal.judge-both-requires
judge-both-requires t c =
    let w = ready_within _ _ _ _ c.requires in
    (omega (arith, c.requires.moment, c.requires.few), ready_two _ _ _ _ c.requires And refl (root_told _ _ (ready_within _ _ _ _ c.requires) _ And c.node_of.ensures c.in-And.is))

pub judge-next-requires : goal.judge-next-requires
judge-next-requires t c =
    let w = ready_within _ _ _ _ c.requires in
    (omega (arith, c.requires.moment, c.requires.few), ready_part _ _ _ _ c.requires Next refl (root_told _ _ (ready_within _ _ _ _ c.requires) _ Next c.node_of.ensures c.in-Next.is) _ c.requires.moment)

pub judge-until_walk-requires : goal.judge-until_walk-requires
judge-until_walk-requires t c =
    let w = ready_within _ _ _ _ c.requires in
    (omega (arith, c.requires.moment, c.requires.few), ready_two _ _ _ _ c.requires Until refl (root_told _ _ (ready_within _ _ _ _ c.requires) _ Until c.node_of.ensures c.in-Until.is))

pub judge-next-requires-in-WeakNext : goal.judge-next-requires-in-WeakNext
judge-next-requires-in-WeakNext t c =
    let w = ready_within _ _ _ _ c.requires in
    (omega (arith, c.requires.moment, c.requires.few), ready_part _ _ _ _ c.requires WeakNext refl (root_told _ _ (ready_within _ _ _ _ c.requires) _ WeakNext c.node_of.ensures c.in-WeakNext.is) _ c.requires.moment)

pub judge-ever_walk-requires : goal.judge-ever_walk-requires
judge-ever_walk-requires t c =
    let w = ready_within _ _ _ _ c.requires in
    (omega (arith, c.requires.moment, c.requires.few), ready_part _ _ _ _ c.requires Eventually refl (root_told _ _ (ready_within _ _ _ _ c.requires) _ Eventually c.node_of.ensures c.in-Eventually.is) _ c.requires.moment)

pub judge-ever_walk-requires-in-Always : goal.judge-ever_walk-requires-in-Always
judge-ever_walk-requires-in-Always t c =
    let w = ready_within _ _ _ _ c.requires in
    (omega (arith, c.requires.moment, c.requires.few), ready_part _ _ _ _ c.requires Always refl (root_told _ _ (ready_within _ _ _ _ c.requires) _ Always c.node_of.ensures c.in-Always.is) _ c.requires.moment)

pub judge-returns-in-Atom : goal.judge-returns-in-Atom
judge-returns-in-Atom t c = rw c.has_proposition.ensures (judged_atom _ _ _ _ (root_told _ _ (ready_within _ _ _ _ c.requires) _ Atom c.node_of.ensures c.in-Atom.is) (ready_within _ _ _ _ c.requires))

pub judge-returns-in-Not : goal.judge-returns-in-Not
judge-returns-in-Not t c = rw c.deny.ensures (judged_not _ _ _ _ (root_told _ _ (ready_within _ _ _ _ c.requires) _ Not c.node_of.ensures c.in-Not.is) _ c.judge.ensures)

pub judge-returns-in-And : goal.judge-returns-in-And
judge-returns-in-And t c = judged_and _ _ _ _ (root_told _ _ (ready_within _ _ _ _ c.requires) _ And c.node_of.ensures c.in-And.is) _ c.both.ensures

pub judge-returns-in-Next : goal.judge-returns-in-Next
judge-returns-in-Next t c = judged_next _ _ _ _ (root_told _ _ (ready_within _ _ _ _ c.requires) _ Next c.node_of.ensures c.in-Next.is) _ c.next.ensures

pub judge-returns-in-Until : goal.judge-returns-in-Until
judge-returns-in-Until t c = judged_until _ _ _ _ (root_told _ _ (ready_within _ _ _ _ c.requires) _ Until c.node_of.ensures c.in-Until.is) _ c.until_walk.ensures

pub judge-returns-in-WeakNext : goal.judge-returns-in-WeakNext
judge-returns-in-WeakNext t c = judged_weak _ _ _ _ (root_told _ _ (ready_within _ _ _ _ c.requires) _ WeakNext c.node_of.ensures c.in-WeakNext.is) _ c.next-in-WeakNext.ensures

pub judge-returns-in-Eventually : goal.judge-returns-in-Eventually
judge-returns-in-Eventually t c = judged_ever _ _ _ _ (root_told _ _ (ready_within _ _ _ _ c.requires) _ Eventually c.node_of.ensures c.in-Eventually.is) _ c.ever_walk.ensures

pub judge-returns-in-Always : goal.judge-returns-in-Always
judge-returns-in-Always t c = rw c.deny-in-Always.ensures (judged_always _ _ _ _ (root_told _ _ (ready_within _ _ _ _ c.requires) _ Always c.node_of.ensures c.in-Always.is) _ c.ever_walk-in-Always.ensures)

pub judge-returns-in-Malformed : goal.judge-returns-in-Malformed
judge-returns-in-Malformed t c = judged_malformed _ _ _ _ (root_told _ _ (ready_within _ _ _ _ c.requires) _ Malformed c.node_of.ensures c.in-Malformed.is) _

pub until_walk-returns-then-second : goal.until_walk-returns-then-second
until_walk-returns-then-second t c =
    until_found _ _ _ _ _ _ c.judge-first.ensures c.judge-second.ensures c.requires.moment c.if-second.true

pub until_walk-returns-then-not-first : goal.until_walk-returns-then-not-first
until_walk-returns-then-not-first t c =
    until_broken _ _ _ _ _ _ c.judge-first.ensures c.judge-second.ensures c.requires.moment c.if-second.false
    (not-true _ c.if-not-first.true)

pub until_walk-returns-then-i-t : goal.until_walk-returns-then-i-t
until_walk-returns-then-i-t t c =
    until_later _ _ _ _ _ _ c.judge-first.ensures c.judge-second.ensures c.requires.moment c.if-second.false
    (not-false _ c.if-not-first.false) _ c.until_walk.ensures

pub until_walk-returns : goal.until_walk-returns
until_walk-returns t c =
    until_last _ _ _ _ _ _ c.judge-first.ensures c.judge-second.ensures c.requires.moment c.if-second.false
    (not-false _ c.if-not-first.false) c.if-i-t.false

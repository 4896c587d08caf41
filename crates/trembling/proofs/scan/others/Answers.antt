-- `scan::others` meets its contract: the set has no action, one, or more.
use Rattle.trembling.proofs.Others.{others_nothing, others_alone, others_more}
use Rattle.trembling.proofs.scan.others.Goals as goal

pub returns-in-None : goal.returns-in-None
returns-in-None c = others_nothing c.args.x.bits c.in-None.is c.lowest.ensures c.none.result.bits c.none.ensures

pub returns-in-None-lowest : goal.returns-in-None-lowest
returns-in-None-lowest c =
    others_alone c.args.x.bits c.in-Some.is c.lowest.ensures c.none-in-Some.result.bits c.with-one.result.bits
    c.without.result.bits c.none-in-Some.ensures c.with-one.ensures
    c.without.ensures c.in-None-lowest.is c.lowest-in-Some.ensures c.without-in-None-lowest.result.bits
    c.without-in-None-lowest.ensures

pub returns-in-Some-lowest : goal.returns-in-Some-lowest
returns-in-Some-lowest c =
    others_more c.args.x.bits c.in-Some.is c.lowest.ensures c.none-in-Some.result.bits c.with-one.result.bits
    c.without.result.bits c.none-in-Some.ensures c.with-one.ensures
    c.without.ensures c.in-Some-lowest.is c.lowest-in-Some.ensures

-- `list` meets its contract: a refusal's line, or the listing of the plan that planning leaves.
use native.Mathlib.Omega.{arith}
use Rattle.job.proofs.Asking.{few_states, few_goals}
use Rattle.cabinet.proofs.Answering.{was_read}
use Rattle.listing.proofs.Listings.{printed_refusal, read_planned, printed_listing}
use Rattle.listing.proofs.list.Goals as goal

pub overflow_cast-l : goal.overflow_cast-l
overflow_cast-l c =
    let f = was_read c.args.job.now c.in-Ok-read.is c.read.ensures in
    omega (arith, few_states f)

pub overflow_cast-l-in-Ok-read : goal.overflow_cast-l-in-Ok-read
overflow_cast-l-in-Ok-read c =
    let f = was_read c.args.job.now c.in-Ok-read.is c.read.ensures in
    omega (arith, few_goals f)

pub returns-in-Err : goal.returns-in-Err
returns-in-Err c =
    printed_refusal c.plan.ensures c.in-Err.is c.put_refusal.ensures

pub returns-in-Err-read : goal.returns-in-Err-read
returns-in-Err-read c =
    read_planned c.plan.ensures c.in-Ok.is c.in-Err-read.is
    c.read.ensures

pub returns-in-Ok-read : goal.returns-in-Ok-read
returns-in-Ok-read c =
    printed_listing c.plan.ensures c.in-Ok.is c.in-Ok-read.is
    c.read.ensures c.list_planned.ensures

-- `plan_by_value::ranges::bank_valid` meets its contract: by the state of the bank.
use Rattle.spec_rules.specs.Neighbour.{context_of}
use Rattle.spec_state.specs.Valid.{bank_valid}
use Rattle.plan_by_value.proofs.ranges.bank_valid.Goals as goal

pub returns-in-Closed : goal.returns-in-Closed
unfolding bank_valid
returns-in-Closed c = rw c.in-Closed.is

pub returns-in-Open : goal.returns-in-Open
unfolding bank_valid context_of
returns-in-Open c = rw c.in-Open.is

pub returns-in-Refresh : goal.returns-in-Refresh
unfolding bank_valid
returns-in-Refresh c = rw c.in-Refresh.is

-- `plan_by_value::ranges::not_refresh` meets its contract: by the state of the bank.
use Rattle.spec_plan.specs.Planner.{not_refresh}
use Rattle.plan_by_value.proofs.ranges.not_refresh.Goals as goal

pub returns-in-Closed : goal.returns-in-Closed
unfolding not_refresh
returns-in-Closed c = rw c.in-Closed.is

pub returns-in-Open : goal.returns-in-Open
unfolding not_refresh
returns-in-Open c = rw c.in-Open.is

pub returns-in-Refresh : goal.returns-in-Refresh
unfolding not_refresh
returns-in-Refresh c = rw c.in-Refresh.is

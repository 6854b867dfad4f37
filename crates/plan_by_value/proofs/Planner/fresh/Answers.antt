-- `plan_by_value::Planner::fresh` meets its contract: the fresh channel.
use Rattle.spec_plan.specs.Planner.{fresh_planner}
use Rattle.plan_by_value.proofs.Planner.fresh.Goals as goal

pub returns : goal.returns
unfolding fresh_planner
returns c = rw c.fresh.ensures

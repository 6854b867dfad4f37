-- `plan_by_value::ranges::planner_valid` meets its contract: the answers, from the last to the first.
use Rattle.spec_rules.specs.Neighbour.{bank_count}
use Rattle.spec_plan.specs.Planner.{planner_valid}
use Rattle.plan_by_value.proofs.ranges.planner_valid.Goals as goal

pub returns : goal.returns
unfolding planner_valid bank_count
returns c =
    rw (
      c.channel_valid.ensures,
      c.closing.ensures,
      c.none_refreshed.ensures,
      c.is_instant.ensures,
    )

-- `plan_by_value::ranges::none_refreshed` meets its contract: no bank before x is under refresh.
use mathlib.Core.Path.{◌≡◌}
use Rattle.num.specs.Search.{all_up_to}
use Rattle.spec_rules.specs.Channel.{state_of}
use Rattle.spec_plan.specs.Planner.{not_refresh}
use Rattle.plan_by_value.proofs.ranges.none_refreshed.Given as goal

abbrev pub invariant-loop-x : goal.invariant-loop-x
invariant-loop-x l = l.right ≡ all_up_to (λ y. not_refresh (state_of l.ch y)) l.x

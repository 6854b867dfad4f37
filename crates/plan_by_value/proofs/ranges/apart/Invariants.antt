-- `plan_by_value::ranges::apart` meets its contract: the banks before x and those below them.
use mathlib.Core.Path.{◌≡◌}
use Rattle.num.specs.Search.{all_up_to}
use Rattle.plan_by_value.specs.Form.Tested.{low_apart}
use Rattle.plan_by_value.proofs.ranges.apart.Given as goal

abbrev pub invariant-loop-x : goal.invariant-loop-x
invariant-loop-x l = l.right ≡ all_up_to (low_apart l.s l.ch) l.x

-- `plan_by_value::ranges::tracks_valid` meets its contract: the banks before x are in range.
use mathlib.Core.Path.{◌≡◌}
use Rattle.num.specs.Search.{all_up_to}
use Rattle.spec_rules.specs.Neighbour.{context_of}
use Rattle.spec_rules.specs.Channel.{track_of}
use Rattle.spec_state.specs.Valid.{track_valid}
use Rattle.plan_by_value.proofs.ranges.tracks_valid.Given as goal

abbrev pub invariant-loop-x : goal.invariant-loop-x
invariant-loop-x l = l.right ≡ all_up_to (λ y. track_valid (context_of l.s) (track_of l.ch y)) l.x

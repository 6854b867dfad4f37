-- `plan_by_value::ranges::tracks_valid` meets its contract: the banks before x are in range.
use mathlib.Core.Path.{◌≡◌, refl, sym, ◌∙◌, ap₂}
use mathlib.Core.Bool.{◌&&◌}
use native.Mathlib.Omega.{arith}
use Rattle.num.specs.Search.{all_up_to}
use Rattle.num.proofs.SearchLaws.{all-next}
use Rattle.spec_rules.specs.Neighbour.{bank_count}
use Rattle.plan_by_value.proofs.ranges.tracks_valid.Goals as goal

pub loop-x-init : goal.loop-x-init
unfolding all_up_to
loop-x-init c = refl

pub loop-x-preserved : goal.loop-x-preserved
loop-x-preserved c =
    let k = c.loop-x in
    ap₂ ◌&&◌ k.invariant c.track_valid-right.ensures ∙ sym (all-next _ k.x)

pub returns : goal.returns
unfolding bank_count
returns c =
    let all : c.loop-x.x ≡ 32 = omega arith in rw all at c.loop-x.invariant

-- `plan_by_value::ranges::apart` meets its contract: the banks before x and those below them.
use mathlib.Core.Path.{◌≡◌, refl, sym, ◌∙◌, ap₂}
use mathlib.Core.Bool.{◌&&◌}
use native.Mathlib.Omega.{arith}
use Rattle.num.specs.Search.{all_up_to}
use Rattle.num.proofs.SearchLaws.{all-next}
use Rattle.spec_rules.specs.Neighbour.{bank_count}
use lib.ListN.{length}
use Rattle.chan_view.proofs.PlaceLaws.{length-of-map}
use Rattle.plan_by_value.proofs.RangeLaws.{lows-apart}
use Rattle.plan_by_value.proofs.ranges.apart.Goals as goal

pub loop-x-init : goal.loop-x-init
unfolding all_up_to
loop-x-init c = refl

pub loop-x-preserved : goal.loop-x-preserved
loop-x-preserved c =
    let k = c.loop-x in
    ap₂ ◌&&◌ k.invariant c.low_apart-right.ensures ∙ sym (all-next _ k.x)

pub returns : goal.returns
unfolding bank_count
returns c =
    let long : length c.args.ch.banks ≡ 32 = search (length-of-map, c.well_formed.1.0) in
    let all : c.loop-x.x ≡ 32 = omega arith in
    (rw all at c.loop-x.invariant) ∙ lows-apart c.args.s c.args.ch (long)

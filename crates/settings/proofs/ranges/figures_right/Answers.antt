-- `settings::ranges::figures_right` meets its contract: right says whether each number passed so far is in its range.
use mathlib.Core.Path.{◌≡◌, refl, sym}
use native.Mathlib.Omega.{arith}
use Rattle.num.specs.Search.{all_up_to}
use Rattle.num.proofs.SearchLaws.{all-next}
use Rattle.settings.proofs.ranges.figures_right.Goals as goal

pub loop-i-init : goal.loop-i-init
unfolding all_up_to
loop-i-init c = refl

pub loop-i-preserved : goal.loop-i-preserved
loop-i-preserved c = rw (c.number_right-right.ensures, c.loop-i.invariant) (sym (all-next _ _))

pub returns : goal.returns
returns c =
    let e : c.loop-i.i ≡ 15 = omega arith in rw e at c.loop-i.invariant

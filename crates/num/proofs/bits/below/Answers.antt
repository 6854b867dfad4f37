-- `num::bits::below` meets its contract: right says whether the marks of the words passed so far are below n, and left is what n has
-- past them.
use mathlib.Core.Path.{◌≡◌, refl, sym}
use native.Mathlib.Omega.{arith}
use Rattle.num.specs.Search.{all_up_to}
use Rattle.num.specs.Marks.{below}
use Rattle.num.proofs.bits.AcrossLaws.{under_next}
use Rattle.num.proofs.bits.below.Goals as goal

pub loop-k-init : goal.loop-k-init
unfolding all_up_to
loop-k-init c = (omega arith, refl)

pub loop-k-preserved : goal.loop-k-preserved
loop-k-preserved c = (omega (arith, c.saturating_sub-left.ensures, c.loop-k.invariant.0), rw (c.under-right.ensures, c.loop-k.invariant.0, c.loop-k.invariant.1) (sym (under_next c.args.ws.now c.args.n c.loop-k.k)))

pub returns : goal.returns
unfolding below
returns c =
    let e : c.loop-k.k ≡ 16 = omega arith in rw e at c.loop-k.invariant.1

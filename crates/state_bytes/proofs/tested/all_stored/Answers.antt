-- `state_bytes::tested::all_stored` meets its contract: right says whether each instant passed so far is in range.
use mathlib.Core.Path.{refl, sym}
use Rattle.num.specs.Search.{all_up_to}
use Rattle.num.proofs.SearchLaws.{all-next}
use Rattle.state_bytes.proofs.tested.all_stored.Goals as goal

pub loop-i-init : goal.loop-i-init
unfolding all_up_to
loop-i-init c = refl

pub loop-i-preserved : goal.loop-i-preserved
loop-i-preserved c = rw (c.u32_at.ensures, c.loop-i.invariant) (sym (all-next _ _))

-- `state_bytes::tested::tags_right` meets its contract: right says whether each tag passed so far is right.
use mathlib.Core.Path.{refl, sym}
use Rattle.num.specs.Search.{all_up_to}
use Rattle.num.proofs.SearchLaws.{all-next}
use Rattle.state_bytes.proofs.tested.tags_right.Goals as goal

pub loop-x-init : goal.loop-x-init
unfolding all_up_to
loop-x-init c = refl

pub loop-x-preserved : goal.loop-x-preserved
loop-x-preserved c = rw (c.tag_right-right.ensures, c.half_at-tag.ensures, c.half_at-below.ensures, c.loop-x.invariant) (sym (all-next _ _))

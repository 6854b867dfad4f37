-- `num::bits::across` meets its contract.
use Rattle.num.proofs.bits.AcrossLaws.{shifts-are-across}
use Rattle.num.proofs.bits.across.Goals as goal

pub returns : goal.returns
returns c = shifts-are-across c.args.low c.args.high c.args.r c.ranges.low.fits c.requires

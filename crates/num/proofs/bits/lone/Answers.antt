-- `num::bits::lone` meets its contract: the bits one, two and three ahead, and those of the low word, have none in common.
use Rattle.num.proofs.bits.AcrossLaws.{and-is-lone}
use Rattle.num.proofs.bits.lone.Goals as goal

pub returns : goal.returns
returns c = rw (c.across.ensures, c.across-2.ensures, c.across-3.ensures) (and-is-lone c.args.low c.args.high c.ranges.low.fits)

-- `banks` meets its contract.
use Rattle.num.proofs.bits.CountLaws.{ones_is}
use Rattle.log_index.proofs.words.banks.Goals as goal

pub returns : goal.returns
returns c = ones_is c.args.w 32 c.ranges.w.fits

-- `model_store::ones_of` meets its contract: the count of ones is the sum of the bits.
use Rattle.model_store.proofs.MaskLaws.{ones_is}
use Rattle.model_store.proofs.ones_of.Goals as goal

pub returns : goal.returns
returns c = ones_is c.args.mask 16 c.requires

-- `unstamp_by` meets its contract: the answer in numbers.
use Rattle.calls_stamp.specs.Results.{unstamp_call}
use Rattle.calls_stamp.proofs.logs.unstamp_by.Goals as goal

pub returns : goal.returns
unfolding unstamp_call
returns c = (rw c.unstamp.ensures.0 at c.from.ensures, c.unstamp.ensures.1)

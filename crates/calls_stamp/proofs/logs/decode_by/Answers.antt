-- `decode_by` meets its contract: the answer in numbers.
use Rattle.calls_stamp.specs.Results.{stamped_decode_call}
use Rattle.calls_stamp.proofs.logs.decode_by.Goals as goal

pub returns : goal.returns
unfolding stamped_decode_call
returns c = (rw c.decode.ensures.0 at c.from.ensures, c.decode.ensures.1)

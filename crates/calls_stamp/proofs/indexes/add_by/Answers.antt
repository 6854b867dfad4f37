-- `add_by` meets its contract: the answer in numbers.
use Rattle.calls_stamp.specs.Results.{stamped_index_call}
use Rattle.calls_stamp.proofs.indexes.add_by.Goals as goal

pub returns : goal.returns
unfolding stamped_index_call
returns c = (rw c.add.ensures.0 at c.from.ensures, c.add.ensures.1)

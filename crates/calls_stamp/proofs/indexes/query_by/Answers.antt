-- `query_by` meets its contract: the answer in numbers.
use Rattle.calls_stamp.specs.Results.{stamped_query_call}
use Rattle.calls_stamp.proofs.indexes.query_by.Goals as goal

pub returns : goal.returns
unfolding stamped_query_call
returns c = (rw c.query.ensures.0 at c.from.ensures, c.query.ensures.1)

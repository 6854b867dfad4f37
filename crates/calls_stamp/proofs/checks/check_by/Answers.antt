-- `check_by` meets its contract: the answer in numbers.
use Rattle.calls_stamp.specs.Results.{stamped_check_call}
use Rattle.calls_stamp.proofs.checks.check_by.Goals as goal

pub returns : goal.returns
unfolding stamped_check_call
returns c = rw c.check_stamped.ensures at c.from.ensures

-- `in_numbers` meets its contract: the verdict in numbers is the checker's.
use Rattle.calls_shortest.specs.Results.{in_numbers}
use Rattle.calls_shortest.proofs.in_numbers.Goals as goal

pub returns : goal.returns
unfolding in_numbers
returns c = rw c.from-a.ensures

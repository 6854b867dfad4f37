-- `has_bit` meets its contract.
use Rattle.num.specs.Marks.{bit}
use Rattle.spec_index.specs.Query.{has_bit}
use Rattle.log_index.proofs.query.has_bit.Goals as goal

pub returns : goal.returns
unfolding has_bit bit
returns c = rw c.u32_at.ensures

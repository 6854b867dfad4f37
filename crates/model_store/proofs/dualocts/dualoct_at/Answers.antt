-- `model_store::dualocts::dualoct_at` meets its contract: each number is the one read.
use Rattle.model_store.specs.Form.Touch.{dualoct_in}
use Rattle.model_store.proofs.dualocts.dualoct_at.Goals as goal

pub returns : goal.returns
unfolding dualoct_in
returns c = rw (c.u64_at-2.ensures, c.u64_at.ensures)

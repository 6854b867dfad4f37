-- `state_bytes::models::data_at` meets its contract: each half is the one read.
use Rattle.spec_model.specs.ModelBytes.{model_in}
use Rattle.state_bytes.proofs.models.data_at.Goals as goal

pub returns : goal.returns
unfolding model_in
returns c = rw (c.u64_at-2.ensures, c.u64_at.ensures)

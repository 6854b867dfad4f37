-- `state_bytes::models::refr_at` meets its contract: the number is the one read.
use Rattle.spec_model.specs.ModelBytes.{model_in}
use Rattle.state_bytes.proofs.models.refr_at.Goals as goal

pub returns : goal.returns
unfolding model_in
returns c = c.u16_at.ensures.0

-- `model_judge::state_alone` meets its contract.
use Rattle.model_judge.proofs.state_alone.Goals as goal

pub returns : goal.returns
returns c = rw c.unused.ensures

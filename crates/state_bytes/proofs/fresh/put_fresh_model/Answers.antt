-- `state_bytes::fresh::put_fresh_model` meets its contract: zeros.
use native.Mathlib.Omega.{arith}
use Rattle.state_bytes.proofs.fresh.FreshLaws.{model-put}
use Rattle.state_bytes.proofs.fresh.put_fresh_model.Goals as goal

pub returns : goal.returns
returns c = rw c.put_zeros.ensures (model-put c.args.b.now (omega arith))

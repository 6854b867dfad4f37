-- `state_bytes::fresh::put_fresh_planner` meets its contract: zeros, then now.
use native.Mathlib.Omega.{arith}
use Rattle.state_bytes.proofs.fresh.FreshLaws.{planner-put}
use Rattle.state_bytes.proofs.fresh.put_fresh_planner.Goals as goal

pub returns : goal.returns
returns c = rw (c.put_u32.ensures, c.put_zeros.ensures) (planner-put c.args.b.now (omega arith))

-- `state_bytes::stores::cols::close_part` meets its contract: by the test.
use native.Mathlib.Omega.{arith}
use Rattle.state_bytes.proofs.stores.cols.close_part.Goals as goal

pub returns-then-close : goal.returns-then-close
returns-then-close c = (rw c.if-close.true, omega arith)

pub returns-else-close : goal.returns-else-close
returns-else-close c = (rw c.if-close.false, omega arith)

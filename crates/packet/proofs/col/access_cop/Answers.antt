-- `access_cop` meets its contract: bit 2 is added where the bank is closed.
use Rattle.packet.specs.Col.{close_bit}
use native.Mathlib.Omega.{arith}
use Rattle.packet.proofs.col.access_cop.Goals as goal

pub returns-then-close : goal.returns-then-close
unfolding close_bit
returns-then-close c = rw c.if-close.true

pub returns-else-close : goal.returns-else-close
unfolding close_bit
returns-else-close c = rw c.if-close.false (omega arith)

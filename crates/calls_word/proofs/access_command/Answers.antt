-- `access_command` meets its contract: the test on the closing flag picks the number.
use native.Mathlib.Omega.{arith}
use Rattle.calls_word.proofs.access_command.Goals as goal

pub returns-then-close : goal.returns-then-close
returns-then-close c = rw c.if-close.true

pub returns-else-close : goal.returns-else-close
returns-else-close c = rw c.if-close.false (omega arith)

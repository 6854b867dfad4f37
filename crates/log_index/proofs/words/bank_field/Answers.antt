-- `bank_field` meets its contract.
use native.Mathlib.Omega.{arith}
use Rattle.log_index.proofs.words.bank_field.Goals as goal

pub returns-then-row : goal.returns-then-row
returns-then-row c = (rw c.if-row.true, omega arith)

pub returns-else-row : goal.returns-else-row
returns-else-row c = (rw c.if-row.false, omega arith)

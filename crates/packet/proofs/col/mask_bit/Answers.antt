-- `mask_bit` meets its contract: the test on the mask picks M.
use native.Mathlib.Omega.{arith}
use borrow.Author.Tests.{eq-eqb, ne_eqb}
use Rattle.packet.specs.Col.{mask_bit}
use Rattle.packet.proofs.col.mask_bit.Goals as goal

pub returns-then-mask-eq-FULL : goal.returns-then-mask-eq-FULL
unfolding mask_bit
returns-then-mask-eq-FULL c = rw (eq-eqb _ _ c.if-mask-eq-FULL.true) (omega arith, omega arith)

pub returns-else-mask-eq-FULL : goal.returns-else-mask-eq-FULL
unfolding mask_bit
returns-else-mask-eq-FULL c = rw (ne_eqb _ _ c.if-mask-eq-FULL.false) (omega arith, omega arith)

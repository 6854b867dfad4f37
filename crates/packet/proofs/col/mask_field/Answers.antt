-- `mask_field` meets its contract: the test on the mask picks the device's bits or the mask.
use native.Mathlib.Omega.{arith}
use borrow.Author.Tests.{eq-eqb, ne_eqb}
use Rattle.packet.specs.Col.{mask_field}
use Rattle.packet.proofs.col.mask_field.Goals as goal

pub returns-then-mask-eq-FULL : goal.returns-then-mask-eq-FULL
unfolding mask_field
returns-then-mask-eq-FULL c = rw (eq-eqb _ _ c.if-mask-eq-FULL.true) (omega arith, omega arith)

pub returns-else-mask-eq-FULL : goal.returns-else-mask-eq-FULL
unfolding mask_field
returns-else-mask-eq-FULL c = rw (ne_eqb _ _ c.if-mask-eq-FULL.false) (omega arith, omega arith)

-- `mask_of` meets its contract: the test on M picks the mask.
use borrow.Author.Tests.{eq-eqb, ne_eqb}
use Rattle.packet.specs.Col.{mask_of}
use Rattle.packet.proofs.col.mask_of.Goals as goal

pub returns-then-m-eq1 : goal.returns-then-m-eq1
unfolding mask_of
returns-then-m-eq1 c = rw (eq-eqb _ _ c.if-m-eq1.true)

pub returns-else-m-eq1 : goal.returns-else-m-eq1
unfolding mask_of
returns-else-m-eq1 c = rw (ne_eqb _ _ c.if-m-eq1.false)

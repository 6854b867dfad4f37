-- `mask_said` meets its contract: the test on M picks the test on the bits below it.
use borrow.Author.Tests.{eq-eqb, ne_eqb}
use Rattle.packet.specs.Col.{mask_said}
use Rattle.packet.proofs.col.mask_said.Goals as goal

pub returns-then-m-eq1 : goal.returns-then-m-eq1
unfolding mask_said
returns-then-m-eq1 c = rw (eq-eqb _ _ c.if-m-eq1.true)

pub returns-else-m-eq1 : goal.returns-else-m-eq1
unfolding mask_said
returns-else-m-eq1 c = rw (c.from.ensures, c.from-else-m-eq1.ensures, ne_eqb _ _ c.if-m-eq1.false)

-- `chan_view::bounds::keeps` meets its contract: where the bound applies, the test is its own.
use lib.Dec.{leb-zero}
use Rattle.chan_view.proofs.bounds.keeps.Goals as goal

pub returns-then-applies : goal.returns-then-applies
returns-then-applies c = rw (c.if-applies.true, c.from.ensures)

pub returns-else-applies : goal.returns-else-applies
returns-else-applies c = rw (c.if-applies.false, leb-zero)

-- `chan_view::bounds::since_wide` meets its contract: each way out decides the test.
use borrow.Author.Tests.{eq-eqb, ne_eqb}
use Rattle.chan_view.proofs.bounds.since_wide.Goals as goal

pub returns-then-last-eq0 : goal.returns-then-last-eq0
returns-then-last-eq0 c = rw (eq-eqb _ _ c.if-last-eq0.true)

pub returns : goal.returns
returns c = rw (ne_eqb _ _ c.if-last-eq0.false, c.from.ensures)

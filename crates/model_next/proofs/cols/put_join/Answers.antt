-- `model_next::cols::put_join` meets its contract: by whether another waits.
use borrow.Author.Tests.{eq-eqb, ne_eqb}
use Rattle.model_next.proofs.cols.put_join.Goals as goal

pub returns-then-left-eq0 : goal.returns-then-left-eq0
returns-then-left-eq0 c = rw (eq-eqb c.args.left 0 c.if-left-eq0.true, c.store_write.ensures)

pub returns-else-left-eq0 : goal.returns-else-left-eq0
returns-else-left-eq0 c = rw (ne_eqb c.args.left 0 c.if-left-eq0.false, c.store_beside.ensures)

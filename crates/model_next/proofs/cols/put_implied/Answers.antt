-- `model_next::cols::put_implied` meets its contract: by whether there is one.
use Rattle.model_next.proofs.cols.put_implied.Goals as goal

pub returns-then-implied : goal.returns-then-implied
returns-then-implied c = rw (c.if-implied.true, c.store_implied.ensures, c.from.ensures)

pub returns-else-implied : goal.returns-else-implied
returns-else-implied c = rw c.if-implied.false

-- `model_next::cols::put_rd` meets its contract: one store after the other.
use Rattle.model_next.proofs.cols.put_rd.Goals as goal

pub returns : goal.returns
returns c = rw (c.put_implied.ensures, c.store_rd.ensures)

-- `model_next::cols::put_nocop` meets its contract: the retire, then the instants.
use Rattle.model_next.proofs.cols.put_nocop.Goals as goal

pub returns : goal.returns
returns c = rw (c.store_col.ensures, c.put_left.ensures.b_after)

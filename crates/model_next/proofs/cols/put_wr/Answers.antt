-- `model_next::cols::put_wr` meets its contract: the retire, the write, then the instants.
use Rattle.model_next.specs.Form.Next.{join_next}
use Rattle.model_next.proofs.cols.put_wr.Goals as goal

pub returns : goal.returns
unfolding join_next
returns c = rw (c.store_col.ensures, c.put_join.ensures, c.put_left-left.ensures.b_after, c.put_left-left.ensures.value)

-- `state_bytes::stores::cols::store_col` meets its contract: the stores, from the last to the first.
use Rattle.spec_state.specs.Form.Stores.{col_stored}
use Rattle.state_bytes.proofs.stores.cols.store_col.Goals as goal

pub returns : goal.returns
unfolding col_stored
returns c = rw (c.put_u32-2.ensures, c.put_u32.ensures)

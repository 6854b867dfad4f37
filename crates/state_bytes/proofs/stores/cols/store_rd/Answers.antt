-- `state_bytes::stores::cols::store_rd` meets its contract: the stores, from the last to the first.
use Rattle.spec_state.specs.Form.Stores.{rd_stored}
use Rattle.state_bytes.proofs.stores.cols.store_rd.Goals as goal

pub returns : goal.returns
unfolding rd_stored
returns c = rw (c.store_col.ensures, c.put_u32-2.ensures, c.put_u32.ensures)

-- `state_bytes::stores::rows::store_row` meets its contract: the stores, from the last to the first.
use Rattle.spec_state.specs.Form.Stores.{row_stored}
use Rattle.state_bytes.proofs.stores.rows.store_row.Goals as goal

pub returns : goal.returns
unfolding row_stored
returns c = rw (c.put_u32-2.ensures, c.put_u32.ensures)

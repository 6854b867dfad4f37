-- `state_bytes::stores::rows::store_close` meets its contract: the stores, from the last to the first.
use Rattle.spec_state.specs.Form.Stores.{close_stored, shut_stored}
use Rattle.state_bytes.proofs.stores.rows.store_close.Goals as goal

pub returns : goal.returns
unfolding close_stored shut_stored
returns c = rw (c.store_row.ensures, c.put_u32.ensures, c.store_shut.ensures)

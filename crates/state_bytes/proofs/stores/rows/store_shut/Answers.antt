-- `state_bytes::stores::rows::store_shut` meets its contract: the stores, from the last to the first.
use Rattle.spec_state.specs.Form.Stores.{shut_stored}
use Rattle.state_bytes.proofs.stores.rows.store_shut.Goals as goal

pub returns : goal.returns
unfolding shut_stored
returns c = rw (c.put_u16.ensures, c.put_u32.ensures)

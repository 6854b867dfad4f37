-- `state_bytes::stores::rows::store_refa` meets its contract: the stores, from the last to the first.
use Rattle.spec_state.specs.Form.Stores.{refa_stored}
use Rattle.state_bytes.proofs.stores.rows.store_refa.Goals as goal

pub returns : goal.returns
unfolding refa_stored
returns c = rw (c.store_row.ensures, c.put_u16.ensures, c.put_u32.ensures)

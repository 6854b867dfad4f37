-- `state_bytes::stores::rows::store_act` meets its contract: the stores, from the last to the first.
use Rattle.spec_state.specs.Form.Stores.{act_stored}
use Rattle.state_bytes.proofs.stores.rows.store_act.Goals as goal

pub returns : goal.returns
unfolding act_stored
returns c = rw (c.store_row.ensures, c.put_u16.ensures, c.from.ensures, c.put_u32-2.ensures, c.put_u32.ensures)

-- `state_bytes::stores::rows::store_implied` meets its contract: the stores, from the last to the first.
use Rattle.spec_state.specs.Form.Stores.{implied_stored}
use Rattle.state_bytes.proofs.stores.rows.store_implied.Goals as goal

pub returns : goal.returns
unfolding implied_stored
returns c = rw (c.put_u32-2.ensures, c.put_u32.ensures, c.store_shut.ensures)

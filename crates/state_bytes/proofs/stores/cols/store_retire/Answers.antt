-- `state_bytes::stores::cols::store_retire` meets its contract: the one store.
use Rattle.spec_state.specs.Form.Stores.{retire_stored}
use Rattle.state_bytes.proofs.stores.cols.store_retire.Goals as goal

pub returns : goal.returns
unfolding retire_stored
returns c = c.put_u32.ensures

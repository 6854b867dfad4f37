-- `state_bytes::stores::cols::store_data` meets its contract: the one store.
use Rattle.spec_state.specs.Form.Stores.{data_stored}
use Rattle.state_bytes.proofs.stores.cols.store_data.Goals as goal

pub returns : goal.returns
unfolding data_stored
returns c = c.put_u64.ensures

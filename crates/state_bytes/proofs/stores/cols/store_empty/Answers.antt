-- `state_bytes::stores::cols::store_empty` meets its contract: the stores, from the last to the first.
use Rattle.spec_state.specs.Form.Stores.{empty_stored}
use Rattle.state_bytes.proofs.stores.cols.store_empty.Goals as goal

pub returns : goal.returns
unfolding empty_stored
returns c = rw (c.put_u64-2.ensures, c.put_u64.ensures)

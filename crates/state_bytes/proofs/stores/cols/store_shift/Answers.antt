-- `state_bytes::stores::cols::store_shift` meets its contract: the stores, from the last to the first.
use Rattle.spec_state.specs.Form.Stores.{shift_stored}
use Rattle.state_bytes.proofs.stores.cols.store_shift.Goals as goal

pub returns : goal.returns
unfolding shift_stored
returns c = rw (c.put_u64-3.ensures, c.put_u64-2.ensures, c.put_u64.ensures, c.u64_at-second.ensures)

-- `state_bytes::stores::cols::store_behind` meets its contract: the stores, from the last to the first.
use Rattle.spec_state.specs.Form.Stores.{behind_stored}
use Rattle.state_bytes.proofs.stores.cols.store_behind.Goals as goal

pub returns : goal.returns
unfolding behind_stored
returns c = rw (c.put_u64-3.ensures, c.put_u64-2.ensures, c.put_u64.ensures, c.u64_at-older.ensures, c.word_of-newer.ensures)

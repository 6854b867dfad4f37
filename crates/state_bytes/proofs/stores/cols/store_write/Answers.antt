-- `state_bytes::stores::cols::store_write` meets its contract: the stores, from the last to the first.
use Rattle.spec_state.specs.Form.Stores.{write_stored}
use Rattle.state_bytes.proofs.stores.cols.store_write.Goals as goal

pub returns : goal.returns
unfolding write_stored
returns c = rw (c.put_u64-2.ensures, c.put_u64.ensures, c.word_of-word.ensures)

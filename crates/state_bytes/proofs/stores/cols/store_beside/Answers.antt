-- `state_bytes::stores::cols::store_beside` meets its contract: the stores, from the last to the first.
use Rattle.spec_state.specs.Form.Stores.{beside_stored}
use Rattle.state_bytes.proofs.stores.cols.store_beside.Goals as goal

pub returns : goal.returns
unfolding beside_stored
returns c = rw (c.put_u64-2.ensures, c.put_u64.ensures, c.word_of-word.ensures)

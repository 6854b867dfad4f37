-- `state_bytes::stores::rows::store_prer` meets its contract: the stores, from the last to the first.
use Rattle.spec_state.specs.Form.Stores.{prer_stored}
use Rattle.state_bytes.proofs.stores.rows.store_prer.Goals as goal

pub returns : goal.returns
unfolding prer_stored
returns c =
    rw (
      c.store_row.ensures,
      c.put_u32.ensures,
      c.store_side-2.ensures,
      c.high_of.ensures,
      c.store_side.ensures,
      c.low_of.ensures,
      c.store_shut.ensures,
    )

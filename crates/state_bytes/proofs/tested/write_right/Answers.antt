-- `state_bytes::tested::write_right` meets its contract: each number is the one read.
use Rattle.state_bytes.specs.Form.Tested.{write_right}
use Rattle.state_bytes.proofs.tested.write_right.Goals as goal

pub returns : goal.returns
unfolding write_right
returns c =
    rw (
      c.u16_at.ensures.0,
      c.from.ensures,
      c.u32_at-at.ensures,
      c.u16_at-tag.ensures.0,
      c.from-bank.ensures,
    )

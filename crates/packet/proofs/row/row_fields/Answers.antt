-- `row_fields` meets its contract: each product is what `device_head` and `u64::from` ensure, times a power of two.
use native.Mathlib.Omega.{arith}
use Rattle.packet.specs.Row.{row_fields}
use Rattle.packet.proofs.row.row_fields.Goals as goal

pub returns : goal.returns
unfolding row_fields
returns c = omega arith

-- `col_fields` meets its contract: each product is what the callees ensure, times a power of two.
use native.Mathlib.Omega.{arith}
use Rattle.packet.specs.Col.{col_fields}
use Rattle.packet.proofs.col.col_fields.Goals as goal

pub returns : goal.returns
unfolding col_fields
returns c = omega arith

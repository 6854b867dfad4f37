-- `log_block::write::write_fields` meets its contract: five stores, one after the other, are the body of the block.
use Rattle.std.proofs.Common.{arith}
use Rattle.log_block.proofs.WriteLaws.{body-stores}
use Rattle.log_block.proofs.write.write_fields.Goals as goal

pub returns : goal.returns
returns c =
    let a = c.args in
    rw (
      c.put_zeros-2.ensures,
      c.put_u32-2.ensures,
      c.put_u32.ensures,
      c.from.ensures,
      c.put_bytes.ensures,
      c.put_zeros.ensures,
    )
    (body-stores a.b.now a.stamp.now a.k a.n (omega arith) (omega arith))

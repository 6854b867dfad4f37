-- `spare_right` meets its contract: each group of bytes is tested as the number that it is.
use Rattle.std.proofs.Common.{sym, arith}
use Rattle.record_bytes.proofs.requests.SpareLaws.{spare-groups}
use Rattle.record_bytes.proofs.requests.spare_right.Goals as goal

pub returns : goal.returns
returns c =
    rw (
      c.u64_at.ensures,
      c.u32_at-3.ensures,
      c.u32_at-2.ensures,
      c.u16_at-mask.ensures.0,
      c.u32_at.ensures,
    ) (sym (spare-groups c.args.b.now (omega arith)))

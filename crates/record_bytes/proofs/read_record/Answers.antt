-- `read_record` meets its contract: the fields are those of the 32 bytes from the place on.
use Rattle.std.proofs.Common.{◌+◌, sym, ◌∙◌, add-zero, arith, eq-eqb, ne_eqb}
use Rattle.record.specs.Record.{record_read}
use Rattle.record.proofs.RecordLaws.{field_in, head_in}
use Rattle.record_bytes.proofs.read_record.Goals as goal

pub returns-then-head-ne0 : goal.returns-then-head-ne0
unfolding record_read
returns-then-head-ne0 c =
    let l = c.args.b.now in
    let at = c.args.at in
    let e = head_in l at c.u32_at-head.result (omega arith) (omega (arith, c.type_inv.b (at + 4))) c.u32_at-head.ensures in
    rw (ne_eqb _ 0 (λ z. c.if-head-ne0.true (e.1 ∙ z)))

pub returns : goal.returns
unfolding record_read
returns c =
    let l = c.args.b.now in
    let at = c.args.at in
    let e = head_in l at c.u32_at-head.result (omega arith) (omega (arith, c.type_inv.b (at + 4))) c.u32_at-head.ensures in
    rw (
      eq-eqb _ 0 (sym e.1 ∙ c.if-head-ne0.false),
      ← e.0,
      field_in l at 0 4 (omega arith),
      field_in l at 8 8 (omega arith),
      field_in l at 16 8 (omega arith),
      field_in l at 24 8 (omega arith),
      add-zero,
    )
    (rw (
      c.u32_at-instant.ensures,
      c.u64_at-word.ensures,
      c.u64_at.ensures,
      c.u64_at-2.ensures,
    ) at c.record_of.ensures)

-- `put_fields` meets its contract: five numbers put side by side are the fields of a record.
use Rattle.std.proofs.Common.{arith}
use Rattle.record.proofs.RecordLaws.{fields-put}
use Rattle.record_bytes.proofs.put_fields.Goals as goal

pub returns : goal.returns
returns c =
    let a = c.args in
    fields-put a.out.now a.at a.instant a.kind a.word a.d.dqa a.d.dqb (omega arith) (omega arith)
    (rw c.from.ensures at c.put_u32.ensures)
    (rw c.from-2.ensures at c.put_u32-2.ensures)
    c.put_u64.ensures
    c.put_u64-2.ensures
    c.put_u64-3.ensures

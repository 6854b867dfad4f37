-- `put_record` meets its contract: each arm puts the fields that the definition has for it.
use Rattle.record.specs.Record.{record_bytes}
use Rattle.record_bytes.proofs.put_record.Goals as goal

pub returns-in-RowAt : goal.returns-in-RowAt
unfolding record_bytes
returns-in-RowAt c = rw c.in-RowAt.is (rw c.row_word.ensures at c.put_fields.ensures)

pub returns-in-ColAt : goal.returns-in-ColAt
unfolding record_bytes
returns-in-ColAt c = rw c.in-ColAt.is (rw c.col_word.ensures at c.put_fields-in-ColAt.ensures)

pub returns-in-DataOf : goal.returns-in-DataOf
unfolding record_bytes
returns-in-DataOf c = rw c.in-DataOf.is c.put_fields-in-DataOf.ensures

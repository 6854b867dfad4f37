-- `put_record_line` meets its contract: each arm is a case of the definition.
use Rattle.listing_text.specs.Text.{codes, dash, mask_text, record_line}
use Rattle.listing_text.proofs.lines.put_record_line.Goals as goal

pub returns-in-RowAt : goal.returns-in-RowAt
unfolding record_line
returns-in-RowAt c = rw c.in-RowAt.is c.put_row_line.ensures

pub returns-in-ColAt : goal.returns-in-ColAt
unfolding record_line
returns-in-ColAt c = rw c.in-ColAt.is c.put_col_line.ensures

pub returns-in-DataOf : goal.returns-in-DataOf
unfolding record_line mask_text dash codes
returns-in-DataOf c = rw c.in-DataOf.is c.put_line.ensures

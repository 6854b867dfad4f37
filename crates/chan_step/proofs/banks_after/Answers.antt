-- `chan_step::banks_after` meets its contract: by the kind of the record.
use Rattle.chan_step.specs.Form.Banks.{banks_next}
use Rattle.chan_step.proofs.banks_after.Goals as goal

pub returns-in-RowAt : goal.returns-in-RowAt
unfolding banks_next
returns-in-RowAt c = rw (c.row_banks.ensures, c.in-RowAt.is)

pub returns-in-ColAt : goal.returns-in-ColAt
unfolding banks_next
returns-in-ColAt c = rw (c.col_banks.ensures, c.in-ColAt.is)

pub returns-in-DataOf : goal.returns-in-DataOf
unfolding banks_next
returns-in-DataOf c = rw c.in-DataOf.is

-- `chan_step::buffer_after` meets its contract: by the kind of the record.
use Rattle.chan_step.specs.Form.Lasts.{buffer_next}
use Rattle.chan_step.proofs.buffer_after.Goals as goal

pub returns-in-RowAt : goal.returns-in-RowAt
unfolding buffer_next
returns-in-RowAt c = rw c.in-RowAt.is

pub returns-in-ColAt : goal.returns-in-ColAt
unfolding buffer_next
returns-in-ColAt c = rw (c.col_buffer.ensures, c.in-ColAt.is)

pub returns-in-DataOf : goal.returns-in-DataOf
unfolding buffer_next
returns-in-DataOf c = rw c.in-DataOf.is

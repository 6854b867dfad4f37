-- `chan_step::lasts_after` meets its contract: by the kind of the record.
use Rattle.chan_step.specs.Form.Lasts.{lasts_next}
use Rattle.chan_step.proofs.lasts_after.Goals as goal

pub returns-in-RowAt : goal.returns-in-RowAt
unfolding lasts_next
returns-in-RowAt c = rw (c.row_lasts.ensures, c.in-RowAt.is)

pub returns-in-ColAt : goal.returns-in-ColAt
unfolding lasts_next
returns-in-ColAt c = rw (c.col_lasts.ensures, c.in-ColAt.is)

pub returns-in-DataOf : goal.returns-in-DataOf
unfolding lasts_next
returns-in-DataOf c = rw c.in-DataOf.is

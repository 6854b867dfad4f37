-- `chan_view::views::seen_of` meets its contract: by the kind of the record.
use Rattle.chan_view.specs.Form.View.{seen_of}
use Rattle.chan_view.proofs.views.seen_of.Goals as goal

pub returns-in-RowAt : goal.returns-in-RowAt
unfolding seen_of
returns-in-RowAt c = rw (c.row_view.ensures, c.in-RowAt.is)

pub returns-in-ColAt : goal.returns-in-ColAt
unfolding seen_of
returns-in-ColAt c = rw (c.col_view.ensures, c.in-ColAt.is)

pub returns-in-DataOf : goal.returns-in-DataOf
unfolding seen_of
returns-in-DataOf c = rw c.in-DataOf.is

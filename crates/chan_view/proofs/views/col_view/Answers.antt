-- `chan_view::views::col_view` meets its contract: by the command.
use Rattle.chan_view.specs.Form.View.{col_view}
use Rattle.chan_view.proofs.views.col_view.Goals as goal

pub returns-in-Nocop : goal.returns-in-Nocop
unfolding col_view
returns-in-Nocop c = rw (c.in-Nocop.is, c.plain_view.ensures)

pub returns-in-Wr : goal.returns-in-Wr
unfolding col_view
returns-in-Wr c = rw (c.in-Wr.is, c.plain_view.ensures)

pub returns-in-Rd : goal.returns-in-Rd
unfolding col_view
returns-in-Rd c = rw (c.in-Rd.is, c.plain_view.ensures)

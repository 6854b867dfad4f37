-- `chan_view::views::row_view` meets its contract: by the command.
use Rattle.chan_view.specs.Form.View.{row_view}
use Rattle.chan_view.proofs.views.row_view.Goals as goal

pub returns-in-Act : goal.returns-in-Act
unfolding row_view
returns-in-Act c = rw (c.in-Act.is, c.plain_view.ensures)

pub returns-in-Prer : goal.returns-in-Prer
unfolding row_view
returns-in-Prer c = rw (c.in-Prer.is, c.plain_view.ensures)

pub returns-in-Refa : goal.returns-in-Refa
unfolding row_view
returns-in-Refa c = rw (c.in-Refa.is, c.plain_view.ensures)

pub returns-in-Refp : goal.returns-in-Refp
unfolding row_view
returns-in-Refp c = rw (c.in-Refp.is, c.plain_view.ensures)

-- `chan_step::col_buffer` meets its contract: by the command.
use Rattle.chan_step.specs.Form.Lasts.{col_buffer}
use Rattle.chan_step.proofs.col_buffer.Goals as goal

pub returns-in-Nocop : goal.returns-in-Nocop
unfolding col_buffer
returns-in-Nocop c = rw (c.left.ensures, c.in-Nocop.is)

pub returns-in-Wr : goal.returns-in-Wr
unfolding col_buffer
returns-in-Wr c = rw (c.joined.ensures, c.left-in-Wr.ensures, c.in-Wr.is)

pub returns-in-Rd : goal.returns-in-Rd
unfolding col_buffer
returns-in-Rd c = rw (c.left-in-Rd.ensures, c.in-Rd.is)

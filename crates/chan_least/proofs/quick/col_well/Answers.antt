-- `chan_least::quick::col_well` meets its contract: by the command.
use Rattle.chan_least.specs.Form.Quick.{col_well}
use Rattle.chan_least.proofs.quick.col_well.Goals as goal

pub returns-in-Nocop : goal.returns-in-Nocop
unfolding col_well
returns-in-Nocop c = rw (c.from.ensures, c.nocop_bound.ensures, c.leaves_well.ensures, c.in-Nocop.is)

pub returns-in-Wr : goal.returns-in-Wr
unfolding col_well
returns-in-Wr c = rw (c.writes_well.ensures, c.leaves_well-in-Wr.ensures, c.in-Wr.is)

pub returns-in-Rd : goal.returns-in-Rd
unfolding col_well
returns-in-Rd c = rw (c.reads_well.ensures, c.in-Rd.is)

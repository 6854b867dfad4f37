-- `chan_least::quick::row_well` meets its contract: by the command.
use Rattle.chan_least.specs.Form.Quick.{row_well}
use Rattle.chan_least.proofs.quick.row_well.Goals as goal

pub returns-in-Act : goal.returns-in-Act
unfolding row_well
returns-in-Act c = rw (c.opens_well.ensures, c.act_by.ensures, c.in-Act.is)

pub returns-in-Prer : goal.returns-in-Prer
unfolding row_well
returns-in-Prer c = rw (c.closes_well.ensures, c.in-Prer.is)

pub returns-in-Refa : goal.returns-in-Refa
unfolding row_well
returns-in-Refa c = rw (c.opens_well-in-Refa.ensures, c.act_by-in-Refa.ensures, c.in-Refa.is)

pub returns-in-Refp : goal.returns-in-Refp
unfolding row_well
returns-in-Refp c = rw (c.closes_well-in-Refp.ensures, c.in-Refp.is)

-- `chan_step::col_lasts` meets its contract: by the command.
use Rattle.spec_rules.specs.Packets.{col_traits}
use Rattle.chan_step.proofs.col_lasts.Goals as goal

pub returns-in-Nocop : goal.returns-in-Nocop
unfolding col_traits
returns-in-Nocop c = rw c.in-Nocop.is

pub returns-in-Wr : goal.returns-in-Wr
unfolding col_traits
returns-in-Wr c = rw c.in-Wr.is

pub returns-in-Rd : goal.returns-in-Rd
unfolding col_traits
returns-in-Rd c = rw c.in-Rd.is

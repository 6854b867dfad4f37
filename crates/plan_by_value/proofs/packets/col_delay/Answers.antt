-- `plan_by_value::packets::col_delay` meets its contract: by the command.
use Rattle.spec_rules.specs.Neighbour.{context_of}
use Rattle.plan_by_value.proofs.packets.col_delay.Goals as goal

pub returns-in-Nocop : goal.returns-in-Nocop
unfolding context_of
returns-in-Nocop c = rw c.in-Nocop.is

pub returns-in-Wr : goal.returns-in-Wr
unfolding context_of
returns-in-Wr c = rw c.in-Wr.is

pub returns-in-Rd : goal.returns-in-Rd
unfolding context_of
returns-in-Rd c = rw (c.in-Rd.is, c.read_delay.ensures)

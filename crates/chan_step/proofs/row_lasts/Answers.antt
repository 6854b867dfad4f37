-- `chan_step::row_lasts` meets its contract: by the command.
use Rattle.spec_rules.specs.Packets.{row_traits}
use Rattle.chan_step.proofs.row_lasts.Goals as goal

pub returns-in-Act : goal.returns-in-Act
unfolding row_traits
returns-in-Act c = rw c.in-Act.is

pub returns-in-Prer : goal.returns-in-Prer
unfolding row_traits
returns-in-Prer c = rw c.in-Prer.is

pub returns-in-Refa : goal.returns-in-Refa
unfolding row_traits
returns-in-Refa c = rw c.in-Refa.is

pub returns-in-Refp : goal.returns-in-Refp
unfolding row_traits
returns-in-Refp c = rw c.in-Refp.is

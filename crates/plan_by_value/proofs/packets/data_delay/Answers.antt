-- `plan_by_value::packets::data_delay` meets its contract: by the pins.
use Rattle.spec_rules.specs.Rules.{longest_delay}
use Rattle.plan_by_value.proofs.packets.data_delay.Goals as goal

pub returns-in-Row : goal.returns-in-Row
unfolding longest_delay
returns-in-Row c = rw c.in-Row.is

pub returns-in-Col : goal.returns-in-Col
unfolding longest_delay
returns-in-Col c = rw c.in-Col.is c.col_delay.ensures

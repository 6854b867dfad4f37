-- `plan_by_value::packets::record_at` meets its contract: by the pins.
use Rattle.spec_rules.specs.Earliest.{placed_at}
use Rattle.plan_by_value.proofs.packets.record_at.Goals as goal

pub returns-in-Row : goal.returns-in-Row
unfolding placed_at
returns-in-Row c = rw c.in-Row.is

pub returns-in-Col : goal.returns-in-Col
unfolding placed_at
returns-in-Col c = rw c.in-Col.is

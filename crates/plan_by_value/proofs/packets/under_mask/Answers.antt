-- `plan_by_value::packets::under_mask` meets its contract: by the pins.
use Rattle.spec_rules.specs.Earliest.{under}
use Rattle.plan_by_value.proofs.packets.under_mask.Goals as goal

pub returns-in-Row : goal.returns-in-Row
unfolding under
returns-in-Row c = rw c.in-Row.is

pub returns-in-Col : goal.returns-in-Col
unfolding under
returns-in-Col c = rw (c.in-Col.is, c.col_under.ensures)

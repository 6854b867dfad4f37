-- `meter::feeds::right` meets its contract.
use Rattle.meter.specs.Meter.{meter_valid}
use Rattle.meter.proofs.feeds.right.Goals as goal

pub returns : goal.returns
unfolding meter_valid
returns c = rw (c.first.ensures, c.apart.ensures, c.from_4.ensures)

-- `meter::feeds::fresh` meets its contract.
use mathlib.Core.Path.{refl}
use Rattle.meter.specs.Meter.{fresh_meter}
use Rattle.meter.proofs.feeds.fresh.Goals as goal

pub returns : goal.returns
unfolding fresh_meter
returns c = refl

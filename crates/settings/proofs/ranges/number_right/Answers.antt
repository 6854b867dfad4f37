-- `settings::ranges::number_right` meets its contract: the tables are the definition's.
use Rattle.settings.specs.Settings.{lows, highs}
use Rattle.settings.specs.Form.Numbers.{leasts, mosts}
use Rattle.settings.proofs.ranges.number_right.Goals as goal

pub returns : goal.returns
unfolding leasts mosts lows highs
returns c = rw (c.from.ensures, c.from-2.ensures)

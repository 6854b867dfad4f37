-- `settings::ranges::rest_right` meets its contract: the tests are the definition's.
use mathlib.Core.Path.{refl}
use Rattle.settings.proofs.ranges.rest_right.Goals as goal

pub returns : goal.returns
returns c = refl

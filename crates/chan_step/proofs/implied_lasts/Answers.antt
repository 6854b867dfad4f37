-- `chan_step::implied_lasts` meets its contract: field by field.
use mathlib.Core.Path.{refl}
use Rattle.chan_step.proofs.implied_lasts.Goals as goal

pub returns : goal.returns
returns c = refl

-- `chan_step::implied_at` meets its contract: the sum.
use mathlib.Core.Path.{refl}
use Rattle.chan_step.proofs.implied_at.Goals as goal

pub returns : goal.returns
returns c = refl

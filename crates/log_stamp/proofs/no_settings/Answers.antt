-- `no_settings` meets its contract: sixteen numbers that are not there are 0.
use mathlib.Core.Path.{refl}
use Rattle.num.specs.Bytes.{number}
use Rattle.log_stamp.proofs.no_settings.Goals as goal

pub returns : goal.returns
unfolding number
returns c = refl

-- `chan_step::tracks::act_track` meets its contract: field by field.
use mathlib.Core.Path.{refl}
use Rattle.chan_step.proofs.tracks.act_track.Goals as goal

pub returns : goal.returns
returns c = refl

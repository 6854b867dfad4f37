-- `chan_step::tracks::closed_track` meets its contract: field by field.
use mathlib.Core.Path.{refl}
use Rattle.chan_step.proofs.tracks.closed_track.Goals as goal

pub returns : goal.returns
returns c = refl

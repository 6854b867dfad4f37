-- `chan_step::tracks::refresh_track` meets its contract: field by field.
use mathlib.Core.Path.{refl}
use Rattle.chan_step.proofs.tracks.refresh_track.Goals as goal

pub returns : goal.returns
returns c = refl

-- `model_judge::track_for` meets its contract: the track read is that of the state.
use mathlib.Core.Path.{◌∙◌}
use Rattle.model_judge.proofs.ReadLaws.{track-read}
use Rattle.model_judge.proofs.track_for.Goals as goal

pub returns : goal.returns
returns c =
    let slot = c.slot_of.ensures in
    c.track_at.ensures ∙ rw (track-read c.args.b.now c.slot_of.result slot.1, slot.0)

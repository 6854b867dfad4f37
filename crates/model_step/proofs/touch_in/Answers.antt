-- `model_step::touch_in` meets its contract: by what the record is seen as.
use mathlib.Core.Path.{sym, ◌∙◌}
use Rattle.spec_state.specs.ChannelBytes.{channel_in}
use Rattle.model_judge.proofs.ReadLaws.{buffer-read}
use Rattle.model_step.proofs.TouchLaws.{touch-packet, touch-data}
use Rattle.model_step.proofs.touch_in.Goals as goal

pub returns-in-Packet : goal.returns-in-Packet
returns-in-Packet c =
    let b = c.args.b.now in
    rw (
      c.touch_of.ensures,
      c.leaving.ensures,
      c.buffer_at.ensures,
      c.track_for-held.ensures,
      c.track_for-own.ensures,
      c.held_at-h.ensures,
      buffer-read b,
    )
    (touch-packet c.args.s (channel_in b) c.args.r _ (sym c.seen_of-seen.ensures ∙ c.in-Packet.is))

pub returns-in-Data : goal.returns-in-Data
returns-in-Data c = touch-data c.args.s (channel_in c.args.b.now) c.args.r _ (sym c.seen_of-seen.ensures ∙ c.in-Data.is)

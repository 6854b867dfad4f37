-- `model_judge::packet_in` meets its contract: the tracks are those of the banks that the packet concerns.
use mathlib.Core.Path.{◌∙◌}
use Rattle.spec_state.specs.ChannelBytes.{channel_in}
use Rattle.chan_judge.proofs.JudgeLaws.{rule-read, rule-unopened}
use Rattle.model_judge.proofs.ReadLaws.{banks-count, lasts-read, state-enough}
use Rattle.model_judge.proofs.packet_in.Goals as goal

pub returns-then-v : goal.returns-then-v
returns-then-v c =
    let b = c.args.b.now in
    rw (
      c.packet_rule.ensures,
      c.act_in.ensures,
      c.lasts_at-l.ensures,
      c.around-k.ensures,
      c.state_alone-next.ensures,
      c.track_for.ensures,
      c.track_for-held.ensures,
      c.track_for-high.ensures,
      c.high_of.ensures,
      c.track_for-low.ensures,
      c.low_of.ensures,
      c.centre-c.ensures,
      c.track_for-own.ensures,
      lasts-read b,
    )
    (state-enough c.args.s c.args.v c.args.h (channel_in b).banks _ (channel_in b).lasts
    ∙ rule-read c.args.s c.args.v c.args.h (channel_in b).banks (banks-count b) (channel_in b).lasts)

pub returns : goal.returns
returns c =
    let b = c.args.b.now in
    rw (
      c.packet_rule-2.ensures,
      c.lasts_at-l.ensures,
      c.around-k.ensures,
      c.state_alone-next.ensures,
      c.track_for.ensures,
      c.track_for-held.ensures,
      c.track_for-high.ensures,
      c.high_of.ensures,
      c.track_for-low.ensures,
      c.low_of.ensures,
      c.centre-c.ensures,
      c.track_for-own.ensures,
      lasts-read b,
    )
    (state-enough c.args.s c.args.v c.args.h (channel_in b).banks _ (channel_in b).lasts
    ∙ rule-unopened c.args.s c.args.v c.args.h (channel_in b).banks (banks-count b) (channel_in b).lasts c.if-v.false)

-- `chan_judge::packet_in` meets its contract: the tracks are those of the banks that the packet concerns.
use mathlib.Core.Path.{◌≡◌}
use lib.ListN.{length}
use Rattle.chan_view.proofs.PlaceLaws.{length-of-map}
use Rattle.chan_judge.proofs.JudgeLaws.{rule-read, rule-unopened}
use Rattle.chan_judge.proofs.packet_in.Goals as goal

pub returns-then-v : goal.returns-then-v
returns-then-v c =
    let long : length c.args.ch.banks ≡ 32 = search (length-of-map, c.well_formed.1.0) in
    rw (
      c.packet_rule.ensures,
      c.act_bound.ensures,
      c.around-k.ensures,
      c.slot_of-o.ensures.0,
      c.slot_of-m.ensures.0,
      c.slot_of-n.ensures.0,
      c.high_of.ensures,
      c.slot_of-j.ensures.0,
      c.low_of.ensures,
      c.centre-c.ensures,
      c.slot_of-i.ensures.0,
    )
    (rule-read c.args.s c.args.v c.args.h c.args.ch.banks (long) c.args.ch.lasts)

pub returns : goal.returns
returns c =
    let long : length c.args.ch.banks ≡ 32 = search (length-of-map, c.well_formed.1.0) in
    rw (
      c.packet_rule-2.ensures,
      c.around-k.ensures,
      c.slot_of-o.ensures.0,
      c.slot_of-m.ensures.0,
      c.slot_of-n.ensures.0,
      c.high_of.ensures,
      c.slot_of-j.ensures.0,
      c.low_of.ensures,
      c.centre-c.ensures,
      c.slot_of-i.ensures.0,
    )
    (rule-unopened c.args.s c.args.v c.args.h c.args.ch.banks (long) c.args.ch.lasts c.if-v.false)

-- `chan_step::after` meets its contract: the state after a packet, with the PRER that it implies or without one, and after data.
use Rattle.std.specs.Prelude.{Some}
use Prim.Native.Nat.{◌+◌}
use mathlib.Core.Path.{◌≡◌, sym, ◌∙◌}
use mathlib.Core.Bool.{true}
use native.Mathlib.Omega.{arith}
use lib.ListN.{length}
use Rattle.spec_rules.specs.Neighbour.{context_of}
use Rattle.spec_rules.specs.History.{only}
use Rattle.spec_rules.specs.Channel.{after_implied, after}
use Rattle.chan_view.specs.Form.View.{centre_of}
use Rattle.chan_view.proofs.PlaceLaws.{length-of-map}
use Rattle.chan_view.proofs.ViewLaws.{seen-shows}
use Rattle.chan_step.proofs.AfterLaws.{channel_of, packet-after, data-after}
use Rattle.chan_step.proofs.after.Goals as goal

pub returns-in_default : goal.returns-in_default
returns-in_default c =
    let long : length c.args.ch.banks ≡ 32 = search (length-of-map, c.well_formed.1.0) in
    sym (data-after c.args.s c.args.ch (long) c.args.r _ (sym c.seen_of.ensures ∙ c.in_default.is))

-- the PRER's instant fits: the packet's is that of the record
pub implied_at-requires : goal.implied_at-requires
implied_at-requires c =
    let e = (seen-shows c.args.r _ (sym c.seen_of.ensures ∙ c.in-Packet.is)).instant-of in
    omega arith

pub returns-then-implies : goal.returns-then-implies
returns-then-implies c =
    let long : length c.args.ch.banks ≡ 32 = search (length-of-map, c.well_formed.1.0) in
    let packet-next : let a = c.args in let v = c.in-Packet.v in after (context_of a.s) a.ch a.r ≡ after_implied (context_of a.s) (v.at.0 + a.s.offp) (only c.implies.result (Some (centre_of a.s c.held_of-h.result v))) (channel_of c.banks_after.result c.lasts_after.result c.buffer_after.result v.writes) = rw (
      c.implies.ensures,
      c.buffer_after.ensures,
      c.lasts_after.ensures,
      c.banks_after.ensures,
      c.retired_banks.ensures,
      c.leaving-leaves.ensures,
      c.held_of-h.ensures,
    )
    (packet-after c.args.s c.args.ch (long) c.args.r _ (sym c.seen_of.ensures ∙ c.in-Packet.is)) in
    let implied : c.implies.result ≡ true = c.if-implies.true in
    rw (
      c.after_implied.ensures,
      c.centre.ensures,
      c.implied_at.ensures,
      packet-next,
      implied,
    )

pub returns : goal.returns
unfolding after_implied
returns c =
    let long : length c.args.ch.banks ≡ 32 = search (length-of-map, c.well_formed.1.0) in
    let packet-next : let a = c.args in let v = c.in-Packet.v in after (context_of a.s) a.ch a.r ≡ after_implied (context_of a.s) (v.at.0 + a.s.offp) (only c.implies.result (Some (centre_of a.s c.held_of-h.result v))) (channel_of c.banks_after.result c.lasts_after.result c.buffer_after.result v.writes) = rw (
      c.implies.ensures,
      c.buffer_after.ensures,
      c.lasts_after.ensures,
      c.banks_after.ensures,
      c.retired_banks.ensures,
      c.leaving-leaves.ensures,
      c.held_of-h.ensures,
    )
    (packet-after c.args.s c.args.ch (long) c.args.r _ (sym c.seen_of.ensures ∙ c.in-Packet.is)) in
    rw (packet-next, c.if-implies.false)

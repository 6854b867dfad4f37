-- `chan_least::least_from` meets its contract: of a packet, and of data.
use mathlib.Core.Path.{◌≡◌, sym, ◌∙◌}
use lib.ListN.{length}
use Rattle.chan_view.proofs.PlaceLaws.{length-of-map}
use Rattle.chan_least.proofs.LeastLaws.{least-packet, least-data}
use Rattle.chan_least.proofs.least_from.Goals as goal

pub returns-in_default : goal.returns-in_default
returns-in_default c =
    let long : length c.args.ch.banks ≡ 32 = search (length-of-map, c.well_formed.1.0) in
    rw (c.max.ensures, c.from.ensures)
    (least-data c.args.s c.args.ch (long) c.args.r _ (sym c.seen_of.ensures ∙ c.in_default.is) c.args.now.0)

pub returns : goal.returns
returns c =
    let long : length c.args.ch.banks ≡ 32 = search (length-of-map, c.well_formed.1.0) in
    rw (c.least_by.ensures, c.act_in-act.ensures, c.tracks_in-k.ensures, c.centre_by.ensures, c.held_of-h.ensures)
    (least-packet c.args.s c.args.ch (long) c.args.r _ (sym c.seen_of.ensures ∙ c.in-Packet.is) c.args.now.0)

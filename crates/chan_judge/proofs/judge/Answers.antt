-- `chan_judge::judge` meets its contract: by what the record is seen as.
use mathlib.Core.Path.{◌≡◌, ◌∙◌, sym}
use lib.ListN.{length}
use Rattle.chan_view.proofs.PlaceLaws.{length-of-map}
use Rattle.chan_judge.proofs.JudgeLaws.{judged-packet, judged-data}
use Rattle.chan_judge.proofs.judge.Goals as goal

pub returns-in-Packet : goal.returns-in-Packet
returns-in-Packet c =
    let long : length c.args.ch.banks ≡ 32 = search (length-of-map, c.well_formed.1.0) in
    rw (c.packet_in.ensures, c.held_of-h.ensures)
    (judged-packet c.args.s c.args.ch c.args.r (long) _ (sym c.seen_of-seen.ensures ∙ c.in-Packet.is))

pub returns-in-Data : goal.returns-in-Data
returns-in-Data c =
    rw (c.data_rule.ensures, c.held_of-h.ensures)
    (judged-data c.args.s c.args.ch c.args.r _ (sym c.seen_of-seen.ensures ∙ c.in-Data.is))

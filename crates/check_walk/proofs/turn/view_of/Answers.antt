-- `turn::view_of` meets its contract: by the kind of the record.
use mathlib.Core.Path.{sym}
use Rattle.check_walk.specs.Form.Turn.{view_in}
use Rattle.check_walk.proofs.turn.view_of.Goals as goal

pub returns-in-Packet : goal.returns-in-Packet
unfolding view_in
returns-in-Packet c = rw (sym c.seen_of-seen.ensures, c.in-Packet.is)

pub returns-in-Data : goal.returns-in-Data
unfolding view_in
returns-in-Data c = rw (sym c.seen_of-seen.ensures, c.in-Data.is) c.plain_view.ensures

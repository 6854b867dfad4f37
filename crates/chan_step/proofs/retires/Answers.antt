-- `chan_step::retires` meets its contract: by what the record is seen as.
use Rattle.chan_step.specs.Form.Lasts.{retires_by}
use Rattle.chan_step.proofs.retires.Goals as goal

pub returns-in-Packet : goal.returns-in-Packet
unfolding retires_by
returns-in-Packet c = rw (c.leaving.ensures, ← c.seen_of-seen.ensures, c.in-Packet.is)

pub returns-in-Data : goal.returns-in-Data
unfolding retires_by
returns-in-Data c = rw (← c.seen_of-seen.ensures, c.in-Data.is)

-- `place_of` meets its contract: each field is read at its place.
use Rattle.record_bytes.proofs.requests.place_of.Goals as goal

pub returns : goal.returns
returns c = rw (c.from-2.ensures, c.u16_at.ensures.0, c.from.ensures)

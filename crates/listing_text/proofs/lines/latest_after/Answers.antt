-- `latest_after` meets its contract: each arm is a case of the definitions.
use mathlib.Core.Path.{refl}
use Rattle.listing_text.proofs.lines.latest_after.Goals as goal

pub returns-in-Wr : goal.returns-in-Wr
returns-in-Wr c = rw (c.in-ColAt.is, c.in-Wr.is) (refl, refl)

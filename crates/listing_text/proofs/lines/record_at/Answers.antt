-- `record_at` meets its contract: each arm is a case of the definition.
use mathlib.Core.Path.{◌∙◌, sym}
use Rattle.spec_check.specs.Check.{known}
use Rattle.listing_text.proofs.lines.record_at.Goals as goal

pub returns-in-None : goal.returns-in-None
unfolding known
returns-in-None c = rw (sym c.read_record.ensures ∙ c.in-None.is)

pub returns-in-Some : goal.returns-in-Some
unfolding known
returns-in-Some c = rw (sym c.read_record.ensures ∙ c.in-Some.is)

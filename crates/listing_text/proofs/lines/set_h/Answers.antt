-- `set_h` meets its contract: field by field.
use mathlib.Core.Path.{refl}
use Rattle.settings.specs.Bench.{set_of, set_h}
use Rattle.listing_text.proofs.lines.set_h.Goals as goal

pub returns : goal.returns
unfolding set_of set_h
returns c = refl

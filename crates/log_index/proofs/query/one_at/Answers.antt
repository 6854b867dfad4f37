-- `one_at` meets its contract.
use mathlib.Core.Path.{◌∙◌, sym}
use Rattle.log_index.proofs.query.one_at.Goals as goal

pub returns-then-has_bit : goal.returns-then-has_bit
returns-then-has_bit c = rw (sym c.has_bit.ensures ∙ c.if-has_bit.true)

pub returns-else-has_bit : goal.returns-else-has_bit
returns-else-has_bit c = rw (sym c.has_bit.ensures ∙ c.if-has_bit.false)

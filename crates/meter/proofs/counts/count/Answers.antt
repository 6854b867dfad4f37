-- `meter::counts::count` meets its contract.
use mathlib.Core.Path.{sym, ◌∙◌}
use Rattle.meter.specs.Answer.{feed_number}
use Rattle.meter.specs.Calls.{count_answered}
use Rattle.meter.proofs.counts.count.Goals as goal

pub busy_count-count-requires : goal.busy_count-count-requires
busy_count-count-requires c = record { newest_value = sym c.right.ensures ∙ c.if-right.true }

pub returns-then-right : goal.returns-then-right
unfolding count_answered
returns-then-right c = rw (sym c.right.ensures, c.if-right.true, c.busy_count-count.ensures.0)

pub returns-else-right : goal.returns-else-right
unfolding count_answered feed_number
returns-else-right c = rw (sym c.right.ensures, c.if-right.false)

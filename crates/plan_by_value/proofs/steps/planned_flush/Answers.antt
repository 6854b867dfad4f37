-- `plan_by_value::steps::planned_flush` meets its contract: its one step is the definition's.
use borrow.Author.Rules.{rules}
use Rattle.spec_plan.specs.Plan.{any_waits, planned_flush}
use Rattle.plan_by_value.proofs.steps.planned_flush.Goals as goal

pub returns : goal.returns
unfolding planned_flush
returns c p e k = c.flushed_while.ensures any_waits (record { told = λ b r w. search rules }) p e k

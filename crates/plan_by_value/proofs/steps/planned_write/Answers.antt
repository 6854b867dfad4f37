-- `plan_by_value::steps::planned_write` meets its contract: one step after the other.
use borrow.Author.Rules.{rules}
use Rattle.spec_plan.specs.Plan.{any_closes, planned_write}
use Rattle.plan_by_value.proofs.steps.planned_write.Goals as goal

pub returns : goal.returns
unfolding planned_write
returns c p e k = c.flushed_while.ensures any_closes (record { told = λ b r w. search rules }) p _ (c.written-z.ensures p _ (c.reached.ensures p e k))

-- `plan_by_value::steps::flushed_while` meets its contract: one NOCOP, then another, where the test passes.
use Rattle.spec_plan.specs.Plan.{flushed_while}
use Rattle.plan_by_value.proofs.steps.flushed_while.Goals as goal

pub returns : goal.returns
unfolding flushed_while
returns g c asks t p e k = c.flushed_if-2.ensures asks t p _ (c.flushed_if.ensures asks t p e k)

-- `plan_by_value::steps::written` meets its contract: one step after the other.
use Rattle.spec_plan.specs.Plan.{written}
use Rattle.plan_by_value.proofs.steps.written.Goals as goal

pub returns : goal.returns
unfolding written
returns c p e k = c.loaded.ensures p _ (c.sent.ensures p e k)

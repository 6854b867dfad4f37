-- `plan_by_value::steps::flushed` meets its contract: a NOCOP sent.
use Rattle.spec_plan.specs.Plan.{flushed}
use Rattle.plan_by_value.proofs.steps.flushed.Goals as goal

pub returns : goal.returns
unfolding flushed
returns c p e k = c.sent.ensures p e k

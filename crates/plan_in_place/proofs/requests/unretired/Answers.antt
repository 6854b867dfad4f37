-- `plan_in_place::requests::unretired` meets its contract: by the request.
use mathlib.Core.Path.{◌∙◌}
use Rattle.spec_plan.specs.Call.{unretired}
use Rattle.plan_steps.proofs.Tested.{waits-is}
use Rattle.plan_in_place.proofs.requests.unretired.Goals as goal

pub returns-in-Close : goal.returns-in-Close
unfolding unretired
returns-in-Close c = rw c.in-Close.is (c.waits.ensures ∙ waits-is _)

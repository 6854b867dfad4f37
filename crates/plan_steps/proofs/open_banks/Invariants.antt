-- `plan_steps::open_banks` meets its contract.
use mathlib.Core.Path.{◌≡◌}
use Rattle.spec_plan.specs.Plan.{state_in}
use Rattle.plan_bytes.specs.Form.Drawn.{drafted}
use Rattle.plan_steps.specs.Form.Opened.{open_up_to}
use Rattle.plan_steps.proofs.open_banks.Given as goal

abbrev pub invariant-loop-x : goal.invariant-loop-x
invariant-loop-x l = l.n ≡ open_up_to (state_in (drafted l.b)) l.x

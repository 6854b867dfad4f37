-- `plan_steps::open_banks` meets its contract.
use mathlib.Core.Path.{refl}
use native.Mathlib.Omega.{arith}
use Rattle.spec_plan.specs.Plan.{state_in}
use Rattle.plan_bytes.specs.Form.Drawn.{drafted}
use Rattle.plan_steps.specs.Form.Opened.{open_up_to}
use Rattle.plan_steps.proofs.Walk.{opens-few, opens-step}
use Rattle.plan_steps.proofs.open_banks.Goals as goal

pub loop-x-init : goal.loop-x-init
unfolding open_up_to
loop-x-init c = refl

pub overflow_add-n : goal.overflow_add-n
overflow_add-n c = omega (arith, c.loop-x.invariant, c.opened-n.ensures, opens-few (state_in (drafted c.args.b.now)) c.loop-x.x)

pub loop-x-preserved : goal.loop-x-preserved
loop-x-preserved c = opens-step (state_in (drafted c.args.b.now)) c.loop-x.x _ _ c.loop-x.invariant c.opened-n.ensures

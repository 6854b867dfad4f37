-- `calls_plan::all::risen` meets its contract: the bound that a request keeps, or the highest of all.
use Rattle.plan_bytes.proofs.calm.CalmLaws.{highest-below}
use native.Mathlib.Omega.{arith}
use Rattle.calls_plan.proofs.all.risen.Goals as goal

pub returns : goal.returns
returns c =
    let b = c.args.planner.now in
    highest-below b _ (omega (arith, c.highest.ensures))

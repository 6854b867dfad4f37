-- `plan_by_value::steps::closed_up_to` meets its contract: what is closed of the banks below x, in every turn.
use Prim.Native.Nat.{ℕ, ◌<◌}
use mathlib.Core.Bool.{Bool}
use Rattle.spec_rules.specs.Neighbour.{context_of}
use Rattle.spec_plan.specs.declared.PlannerState.{PlannerState}
use Rattle.spec_plan.specs.Plan.{Draft, closed_up_to}
use Rattle.plan_by_value.specs.Form.Drawn.{Draws}
use Rattle.plan_by_value.specs.Form.Told.{Tells}
use Rattle.plan_by_value.proofs.steps.closed_up_to.Given as goal

abbrev pub invariant-loop-x : goal.invariant-loop-x
invariant-loop-x g l =
    (pick : ℕ → Bool) → Tells (λ x r. (x < 32) × goal.F-post g l.banks x r) pick → (p : PlannerState) (e : Draft) → Draws l.s p l.initial.z e → Draws l.s p l.z (closed_up_to (context_of l.s) pick l.x e)

-- `plan_by_value::steps::planned_close` meets its contract: its one step is the definition's.
use borrow.Author.Rules.{rules}
use mathlib.Core.Bool.{true}
use Rattle.spec_plan.specs.Plan.{planned_close}
use Rattle.plan_by_value.proofs.steps.planned_close.Goals as goal

pub returns : goal.returns
unfolding planned_close
returns c p e k = c.closed_up_to.ensures (λ x. true) (record { told = λ x r w. search rules }) p e k

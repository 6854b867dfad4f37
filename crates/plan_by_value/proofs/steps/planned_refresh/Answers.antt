-- `plan_by_value::steps::planned_refresh` meets its contract: one step after the other; the bank may be another where the draft is late.
use borrow.Author.Rules.{rules}
use Rattle.spec_rules.specs.Neighbour.{context_of, near}
use Rattle.spec_plan.specs.declared.PlannerState.{PlannerState}
use Rattle.spec_plan.specs.Plan.{planned_refresh}
use Rattle.plan_by_value.proofs.DrawLaws.{draws_by}
use Rattle.plan_by_value.proofs.StepLaws.{refreshed, refreshed-grows}
use Rattle.plan_by_value.proofs.steps.planned_refresh.Goals as goal

pub returns : goal.returns
unfolding planned_refresh
returns c p e k =
    let y = c.turned.ensures c.args.s p _ (c.sent.ensures p _ (c.sent-z.ensures p _ (c.closed_up_to-y.ensures (near (context_of c.args.s) c.args.d.planner.refresh) (record { told = λ x r w. search rules }) p e k))) in
    draws_by c.args.s p c.args.d _ e (λ (p : PlannerState). p.refresh) (refreshed c.args.s p e) (refreshed-grows c.args.s p e) k y

-- `plan_by_value::steps::planned_read` meets its contract: one step after the other.
use borrow.Author.Rules.{rules}
use Rattle.spec_rules.specs.Neighbour.{context_of}
use Rattle.spec_plan.specs.Plan.{delays, planned_read}
use Rattle.plan_by_value.proofs.steps.planned_read.Goals as goal

pub returns : goal.returns
unfolding planned_read
returns c p e k = c.sent.ensures p _ (c.flushed_while-z.ensures (delays (context_of c.args.s) c.args.close c.args.at) (record { told = λ b r w. search rules }) p _ (c.reached-y.ensures p e k))

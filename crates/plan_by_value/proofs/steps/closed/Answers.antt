-- `plan_by_value::steps::closed` meets its contract: one step after the other.
use borrow.Author.Rules.{rules}
use Rattle.spec_rules.specs.Neighbour.{context_of}
use Rattle.spec_plan.specs.Plan.{loses, closed}
use Rattle.plan_by_value.proofs.steps.closed.Goals as goal

pub returns : goal.returns
unfolding closed
returns c p e k = c.sent.ensures p _ (c.flushed_while-z.ensures (loses (context_of c.args.s) c.args.x) (record { told = λ b r w. search rules }) p e k)

-- `plan_by_value::steps::reached` meets its contract: nothing where the row is open.
use borrow.Author.Rules.{rules}
use Rattle.spec_rules.specs.Neighbour.{context_of, near}
use Rattle.plan_by_value.proofs.StepLaws.{draws-reached}
use Rattle.plan_by_value.proofs.steps.reached.Goals as goal

pub returns-then-open_on : goal.returns-then-open_on
returns-then-open_on c p e k = draws-reached c.args.s p c.args.d _ e c.args.bank c.args.row k c.open_on.result c.open_on.ensures (rw c.if-open_on.true k)

pub returns : goal.returns
returns c p e k = draws-reached c.args.s p c.args.d _ e c.args.bank c.args.row k c.open_on.result c.open_on.ensures (rw c.if-open_on.false (c.sent.ensures p _ (c.closed_up_to-z.ensures (near (context_of c.args.s) c.args.bank) (record { told = λ x r w. search rules }) p e k)))

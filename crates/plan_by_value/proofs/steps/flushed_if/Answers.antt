-- `plan_by_value::steps::flushed_if` meets its contract: NOCOP where the test of the buffer passes.
use Rattle.plan_by_value.proofs.StepLaws.{draws-flushed}
use Rattle.plan_by_value.proofs.steps.flushed_if.Goals as goal

pub returns-then-test : goal.returns-then-test
returns-then-test g c asks t p e k = draws-flushed c.args.s p c.args.d _ e asks k c.test.result (t.told _ _ c.test.ensures) (rw c.if-test.true (c.flushed.ensures p e k))

pub returns : goal.returns
returns g c asks t p e k = draws-flushed c.args.s p c.args.d _ e asks k c.test.result (t.told _ _ c.test.ensures) (rw c.if-test.false k)

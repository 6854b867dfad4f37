-- `plan_by_value::drafts::turned` meets its contract: the next bank, modulo 32.
use Rattle.plan_by_value.proofs.StepLaws.{draws-turned}
use Rattle.plan_by_value.proofs.drafts.turned.Goals as goal

pub returns : goal.returns
returns c s p e k = rw c.moved.ensures (draws-turned s p c.args.d e k)

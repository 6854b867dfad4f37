-- `plan_bytes::calm::calm` meets its contract.
use Rattle.plan_bytes.specs.Form.Calm.{is_calm}
use Rattle.plan_bytes.proofs.calm.CalmLaws.{low-calm}
use Rattle.plan_bytes.proofs.calm.calm.Goals as goal

pub returns-then-top-lt536870912 : goal.returns-then-top-lt536870912
returns-then-top-lt536870912 c = low-calm c.args.b.now _ c.top.ensures c.if-top-lt536870912.true

pub returns : goal.returns
unfolding is_calm
returns c = rw c.highest.ensures

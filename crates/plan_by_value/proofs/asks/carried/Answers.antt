-- `plan_by_value::asks::carried` meets its contract: whether a write leaves.
use mathlib.Core.Path.{◌∙◌}
use Rattle.plan_by_value.proofs.CarryLaws.{carried-by}
use Rattle.plan_by_value.proofs.asks.carried.Goals as goal

pub returns-then-retires : goal.returns-then-retires
returns-then-retires c = rw c.if-retires.true at (carried-by c.args.s c.args.p c.args.q c.retires.result (c.retires.ensures ∙ rw c.held_of.ensures))

pub returns : goal.returns
returns c = rw c.if-retires.false at (carried-by c.args.s c.args.p c.args.q c.retires.result (c.retires.ensures ∙ rw c.held_of.ensures))

-- `plan_by_value::asks::implied_delay` meets its contract: by what code sees of the older write.
use mathlib.Core.Path.{◌∙◌}
use Rattle.plan_by_value.proofs.CarryLaws.{implied-by}
use Rattle.plan_by_value.proofs.asks.implied_delay.Goals as goal

pub returns-then-retires-h : goal.returns-then-retires-h
returns-then-retires-h c =
    rw (rw c.held_of-h.ensures at c.if-retires-h.true) at
    (implied-by c.args.s c.args.p c.args.q c.retires.result (c.retires.ensures ∙ rw c.held_of-h.ensures))

pub returns : goal.returns
returns c =
    rw (rw c.held_of-h.ensures at c.if-retires-h.false) at
    (implied-by c.args.s c.args.p c.args.q c.retires.result (c.retires.ensures ∙ rw c.held_of-h.ensures))

-- `state_bytes::planners::planner_right` meets its contract: the tests are those of a planner's bytes.
use mathlib.Core.Path.{sym}
use native.Mathlib.Omega.{arith}
use Rattle.state_bytes.proofs.RightLaws.{planner-tested, planner-length-wrong}
use Rattle.state_bytes.proofs.planners.planner_right.Goals as goal

pub returns-in_default : goal.returns-in_default
returns-in_default c =
    let a = c.args in sym (planner-length-wrong a.s a.b.now c.in_default.ensures.cases)

pub returns : goal.returns
returns c =
    let a = c.args in
    let whole = c.in-Some.ensures.cases in
    rw (c.channel_right.ensures, c.fields_right.ensures, whole.same) (planner-tested a.s a.b.now (λ i l. omega (arith, c.type_inv.b i)) (omega arith))

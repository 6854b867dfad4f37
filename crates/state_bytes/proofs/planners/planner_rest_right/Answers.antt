-- `state_bytes::planners::planner_rest_right` meets its contract: what is left of the tests of a planner's bytes.
use native.Mathlib.Omega.{arith}
use Rattle.std.proofs.Common.{rules}
use Rattle.state_bytes.proofs.RightLaws.{planner-rest}
use Rattle.state_bytes.proofs.planners.planner_rest_right.Goals as goal

pub returns : goal.returns
returns c =
    rw (c.buffer_right.ensures, c.tags_right.ensures, c.fields_right.ensures)
    (planner-rest c.args.s c.args.b.now (λ i l. search rules) (omega arith) c.requires.b_value)

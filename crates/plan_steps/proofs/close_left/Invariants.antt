-- `plan_steps::close_left` meets its contract.
use Prim.Native.Nat.{◌-◌}
use Rattle.plan_steps.proofs.Walk.{Walking}
use Rattle.plan_steps.proofs.close_left.Given as goal

abbrev pub invariant-loop-left : goal.invariant-loop-left
invariant-loop-left l = Walking l.s l.initial.b l.initial.room l.b l.room l.left l.to l.x

abbrev pub decreases-loop-left : goal.decreases-loop-left
decreases-loop-left l = 32 - l.x

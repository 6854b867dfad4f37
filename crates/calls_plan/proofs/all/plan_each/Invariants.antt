-- `calls_plan::all::plan_each` meets its contract: at each turn planner and room are what the requests so far left, and no stored
-- instant of the planner is above the bound.
use Rattle.plan_bytes.specs.Form.Numbers.{Below}
use Rattle.calls_plan.proofs.AllLaws.{Lent, SoFar}
use Rattle.calls_plan.proofs.all.plan_each.Given as goal

abbrev pub invariant-loop-place : goal.invariant-loop-place
invariant-loop-place l = record {
  given : Lent l.s l.initial.planner l.requests;
  so-far : SoFar l.s l.initial.planner l.requests l.initial.room l.planner l.room l.place l.records;
  low : Below l.top l.planner;
}

-- `calls_plan::planner_fresh` meets its contract: another length, or the fresh planner's bytes.
use mathlib.Core.Path.{refl}
use borrow.Author.Tests.{eq-eqb, ne_eqb}
use Rattle.record.specs.Refusal.{answer_of}
use Rattle.spec_plan.specs.PlannerBytes.{planner_length}
use Rattle.spec_calls.specs.Plans.{planner_fresh}
use Rattle.calls_plan.proofs.planner_fresh.Goals as goal

pub returns-in_default : goal.returns-in_default
unfolding planner_fresh planner_length answer_of
returns-in_default c =
    record {
      value = rw (ne_eqb _ 768 c.in_default.ensures.cases) refl;
      planner_after = rw (ne_eqb _ 768 c.in_default.ensures.cases) refl;
    }

pub returns : goal.returns
unfolding planner_fresh planner_length
returns c =
    record {
      value = rw (eq-eqb _ 768 c.in-Some.ensures.cases.long) refl;
      planner_after = rw (eq-eqb _ 768 c.in-Some.ensures.cases.long) c.put_fresh_planner.ensures;
    }

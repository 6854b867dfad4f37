-- `plan_steps::flush_if` meets its contract.
use mathlib.Core.Path.{◌∙◌}
use native.Mathlib.Omega.{arith}
use Rattle.spec_rules.specs.Neighbour.{context_of}
use Rattle.spec_plan.specs.PlannerBytes.{planner_in}
use Rattle.plan_bytes.proofs.ReadyLaws.{readies, ready, held_plain}
use Rattle.plan_bytes.proofs.Compose.{drawn-none}
use Rattle.plan_steps.proofs.Tested.{waits-is}
use Rattle.plan_steps.proofs.Stepwise.{one-flushed}
use Rattle.plan_steps.proofs.flush_if.Goals as goal

pub nocop-requires : goal.nocop-requires
nocop-requires c =
    record {
      ready = ready _ _ _ c.requires.rested;
      b_value = waits-is c.args.b.now ∙ c.requires.b_value c.if-test.true;
      closes = held_plain _ _ _ c.requires.rested (waits-is c.args.b.now ∙ c.requires.b_value c.if-test.true);
      to_in_bounds = omega (arith, rw c.if-test.true at c.requires.fits, one-flushed (context_of c.args.s) (planner_in c.args.b.now));
    }

pub returns : goal.returns
returns c = rw c.if-test.false (drawn-none _ _ _ _ (readies _ _ _ (ready _ _ _ c.requires.rested)).exact)

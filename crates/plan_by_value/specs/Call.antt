-- A plan call by value, on any settings and any state of a planner.
-- Assumes nothing.
use Rattle.std.specs.Prelude.{ℕ, ◌&&◌, cond, List, length, Err, Result}
use Rattle.settings.specs.declared.Settings.{Settings}
use Rattle.settings.specs.Settings.{valid}
use Rattle.record.specs.declared.Refusal.TheVariants.{Settings as OutOfRange}
use Rattle.spec_rules.specs.Neighbour.{context_of}
use Rattle.spec_plan.specs.declared.PlannerState.{PlannerState}
use Rattle.spec_plan.specs.Planner.{planner_valid}
use Rattle.spec_plan.specs.Call.{plan_outcome, plan_next, plan_room}
use Rattle.record.specs.declared.Refusal.{Refusal}

-- what a call hands back: its answer, the planner that goes on, and the bytes of the lent buffer
pub record Planning : Type 0 where
  pub outcome : Result ℕ Refusal
  pub planner : PlannerState
  pub room : List ℕ

-- "Checks run 1, 9, 13, 2 to 8": "a figure outside its range" of the settings, and "A planner or model state with a field out of its
-- range is refused under 1." Such a refusal changes nothing.
unfoldable pub planning : Settings → PlannerState → List ℕ → List ℕ → Planning
planning s p request room =
    cond (valid s && planner_valid (context_of s) p)
    (record {
      outcome = plan_outcome (context_of s) p request (length room);
      planner = plan_next (context_of s) p request (length room);
      room = plan_room (context_of s) p request room;
    })
    (record { outcome = Err OutOfRange; planner = p; room = room })

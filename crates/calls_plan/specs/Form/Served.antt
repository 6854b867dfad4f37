-- The result of a plan call from a state that is not refused, by what its request says.
-- Assumes nothing.
use Rattle.std.specs.Prelude.{ℕ, ◌≡◌, false, List, length, Err, Ok, Result}
use Rattle.num.specs.Bytes.{splice}
use Rattle.settings.specs.declared.Settings.{Settings}
use Rattle.record.specs.declared.Request.{Request}
use Rattle.record.proofs.RequestLaws.{InRange}
use Rattle.spec_rules.specs.Neighbour.{Context}
use Rattle.spec_plan.specs.PlannerBytes.{planner_bytes, planner_in}
use Rattle.spec_plan.specs.Plan.{Draft}
use Rattle.spec_plan.specs.Call.{list_bytes, unretired, outcome_by, draft_by}
use Rattle.spec_plan.specs.Looked.{looked_by}
use Rattle.spec_calls.specs.Plans.{plan_answer, PlanResult}
use Rattle.record.specs.declared.Refusal.{Refusal}

-- a refusal, or a draft that is put to planner and room, with how many banks a close looked at
abbrev pub served_by : Context → List ℕ → ℕ → Draft → List ℕ → Result ℕ Refusal → PlanResult
served_by cx planner banks d room (Err why) = record { answer = plan_answer 0 (Err why); planner = planner; room = room }
served_by cx planner banks d room (Ok n) =
    record {
      answer = plan_answer banks (Ok n);
      planner = planner_bytes d.planner;
      room = splice room 0 (list_bytes cx.settings d.records);
    }

-- a request in range that is no close while a write waits
abbrev pub Granted : Settings → List ℕ → Request → Type 0
Granted s planner q = InRange s q × (unretired q (planner_in planner) ≡ false)

unfoldable pub served : Context → List ℕ → Result Request Refusal → List ℕ → PlanResult
served cx planner x room =
    served_by cx planner (looked_by (planner_in planner) x) (draft_by cx (planner_in planner) x) room (outcome_by cx (planner_in planner) x (length room))

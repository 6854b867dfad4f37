-- The planner and the records of a call whose request says this.
-- Assumes nothing.
use Rattle.std.specs.Prelude.{ℕ, cond, List, [], Result}
use Rattle.record.specs.declared.Record.{Record}
use Rattle.spec_rules.specs.Neighbour.{Context}
use Rattle.spec_plan.specs.declared.PlannerState.{PlannerState}
use Rattle.spec_plan.specs.Call.{outcome_by, is_made, draft_by}
use Rattle.record.specs.declared.Request.{Request}
use Rattle.record.specs.declared.Refusal.{Refusal}

abbrev pub next_by : Context → PlannerState → Result Request Refusal → ℕ → PlannerState
next_by cx p x room = cond (is_made (outcome_by cx p x room)) (draft_by cx p x).planner p

abbrev pub records_by : Context → PlannerState → Result Request Refusal → ℕ → List Record
records_by cx p x room = cond (is_made (outcome_by cx p x room)) (draft_by cx p x).records []

-- What the planner's calls answer and leave in every lent buffer: rdram_planner_fresh and rdram_plan.
-- Assumes nothing.
use Rattle.std.specs.Prelude.{ℕ, cond, List, eqb, length, Err, Ok, Result}
use Rattle.settings.specs.declared.Settings.{Settings as Figures}
use Rattle.record.specs.declared.Refusal.{Refusal}
use Rattle.record.specs.declared.Refusal.TheVariants.{Settings}
use Rattle.record.specs.Refusal.{answer_of}
use Rattle.record.specs.Request.{request_read}
use Rattle.spec_rules.specs.Neighbour.{Context, context_of}
use Rattle.spec_plan.specs.declared.PlannerState.{PlannerState}
use Rattle.spec_plan.specs.Planner.{fresh_planner}
use Rattle.spec_plan.specs.PlannerBytes.{planner_length, planner_bytes, planner_in, planner_right}
use Rattle.spec_plan.specs.Call.{plan_outcome, plan_next, plan_room}
use Rattle.spec_plan.specs.Looked.{looked_by}
use Rattle.spec_calls.specs.declared.PlanAnswer.{PlanAnswer}
use Rattle.spec_calls.specs.Settings.{under_settings}

-- the number, and the planner's bytes at exit
pub record FreshResult : Type 0 where
  pub number : ℕ
  pub state : List ℕ

-- a fresh state goes to a buffer of its length; another length is a state that is refused
abbrev pub fresh_into : ℕ → List ℕ → List ℕ → FreshResult
fresh_into size fresh given =
    cond (eqb (length given) size) (record { number = 0; state = fresh }) (record { number = (answer_of Settings).number; state = given })

unfoldable pub planner_fresh : List ℕ → FreshResult
planner_fresh planner = fresh_into planner_length (planner_bytes fresh_planner) planner

-- a plan call's answer in numbers; close hands back "unless refused, a count, one for each bank it looked at"
unfoldable pub plan_answer : ℕ → Result ℕ Refusal → PlanAnswer
plan_answer banks (Err why) = record { number = (answer_of why).number; banks = 0; records = 0 }
plan_answer banks (Ok n) = record { number = 0; banks = banks; records = n }

-- the answer, and the bytes of planner and room at exit
pub record PlanResult : Type 0 where
  pub answer : PlanAnswer
  pub planner : List ℕ
  pub room : List ℕ

-- of a planner, a request and a room as they are lent
module _ (planner request room : List ℕ) where
  -- "A refusal returns its number [..], and changes no lent buffer."
  abbrev pub plan_refused : Refusal → PlanResult
  plan_refused why = record { answer = plan_answer 0 (Err why); planner = planner; room = room }

  -- an accepted call: how many banks close looked at, the next state, and the records from the room's start on
  abbrev pub plan_made : Context → PlannerState → ℕ → PlanResult
  plan_made cx p n =
      record {
        answer = plan_answer (looked_by p (request_read cx.settings request)) (Ok n);
        planner = planner_bytes (plan_next cx p request (length room));
        room = plan_room cx p request room;
      }

  abbrev pub plan_by : Context → PlannerState → Result ℕ Refusal → PlanResult
  plan_by cx p (Err why) = plan_refused why
  plan_by cx p (Ok n) = plan_made cx p n

  -- 1 for a planner's bytes that are no state under the settings, then 13, 2 to 8
  unfoldable pub plan_under : Figures → PlanResult
  plan_under s =
      let cx : Context = context_of s in
      let p : PlannerState = planner_in planner in
      cond (planner_right cx planner) (plan_by cx p (plan_outcome cx p request (length room))) (plan_refused Settings)

unfoldable pub plan_call : List ℕ → List ℕ → List ℕ → List ℕ → PlanResult
plan_call settings planner request room = under_settings settings (plan_refused planner request room) (plan_under planner request room)

-- "A refusal returns its number, [..] and changes no lent buffer" (document 01, "What is turned back"): one claim on every C call
-- that is lent a buffer to write, of any bytes and lengths. Number 0 is an accepted call. rdram_check, rdram_check_log,
-- rdram_word_encode, rdram_word_decode, rdram_meter_count and rdram_meter_share are lent no buffer to write.
-- Assumes nothing.
use Rattle.std.specs.Prelude.{ℕ, ◌≡◌, List, ◌≢◌, ◌⊎◌}
use Rattle.num.specs.Bytes.{Bytes}
use Rattle.meter.specs.declared.Meter.{Meter}
use Rattle.meter.specs.Calls.{fed_answered}
use Rattle.spec_calls.specs.Plans.{PlanResult, planner_fresh, plan_call}
use Rattle.spec_calls.specs.PlanAll.{plan_all_call}
use Rattle.spec_calls.specs.Models.{StepResult, model_fresh, step_call}
use Rattle.spec_calls.specs.Logs.{log_encode_call, log_decode_call}

-- the planner, the room for records
abbrev pub PlanKept : List ℕ → List ℕ → PlanResult → Type 0
PlanKept planner room x = x.answer.number ≢ 0 → (x.planner ≡ planner) × (x.room ≡ room)

-- the model, the store, the room for an answer
abbrev pub StepKept : List ℕ → List ℕ → List ℕ → StepResult → Type 0
StepKept model store room x = x.answer.number ≢ 0 → (x.model ≡ model) × (x.store ≡ store) × (x.room ≡ room)

pub record RefusedCalls : Type 0 where
  -- rdram_planner_fresh
  pub planner-fresh : (planner : List ℕ) → (planner_fresh planner).number ≢ 0 → (planner_fresh planner).state ≡ planner
  -- rdram_plan
  pub plan : (settings planner request room : List ℕ) → PlanKept planner room (plan_call settings planner request room)
  -- rdram_plan_all: 1 and 13 refuse the call. Another number "refuses the request and is not a refused call"
  pub plan-all : (settings planner requests room : List ℕ) → Bytes planner → Bytes requests
      → ((plan_all_call settings planner requests room).answer.number ≡ 1) ⊎ ((plan_all_call settings planner requests room).answer.number ≡ 13)
      → ((plan_all_call settings planner requests room).planner ≡ planner) × ((plan_all_call settings planner requests room).room ≡ room)
  -- rdram_model_fresh
  pub model-fresh : (model : List ℕ) → (model_fresh model).number ≢ 0 → (model_fresh model).state ≡ model
  -- rdram_model_step
  pub model-step : (settings model store given room : List ℕ) → StepKept model store room (step_call settings model store given room)
  -- rdram_log_encode
  pub log-encode : (settings list log : List ℕ) → (log_encode_call settings list log).answer.number ≢ 0 → (log_encode_call settings list log).lent ≡ log
  -- rdram_log_decode
  pub log-decode : (settings log list : List ℕ) → (log_decode_call settings log list).answer.number ≢ 0 → (log_decode_call settings log list).lent ≡ list
  -- rdram_meter_feed
  pub meter-feed : (m : Meter) (at : ℕ) → (fed_answered m at).number ≢ 0 → (fed_answered m at).meter ≡ m

-- What rdram_plan_all answers and leaves in every lent buffer (document 02 h, "A whole request file in one call"): "One call takes
-- many requests and adds to one list. It must equal the single calls made in turn".
-- Assumes nothing.
use Rattle.std.specs.Prelude.{ℕ, zero, suc, ◌+◌, ◌*◌, ◌/◌, ◌%◌, cond, List, ◌++◌, eqb, length, take, drop}
use Rattle.num.specs.Bytes.{part}
use Rattle.settings.specs.declared.Settings.{Settings as Figures}
use Rattle.record.specs.declared.Refusal.{Refusal}
use Rattle.record.specs.declared.Refusal.TheVariants.{Settings, Length}
use Rattle.record.specs.Refusal.{answer_of}
use Rattle.spec_rules.specs.Neighbour.{context_of}
use Rattle.spec_plan.specs.PlannerBytes.{planner_right}
use Rattle.spec_calls.specs.declared.PlanAllAnswer.{PlanAllAnswer}
use Rattle.spec_calls.specs.Settings.{under_settings}
use Rattle.spec_calls.specs.Plans.{PlanResult, plan_call}

-- the answer, and the bytes of planner and room at exit
pub record PlanAllResult : Type 0 where
  pub answer : PlanAllAnswer
  pub planner : List ℕ
  pub room : List ℕ

-- request i of the bytes of many
abbrev pub request_at : List ℕ → ℕ → List ℕ
request_at requests i = part requests (24 * i) 24

-- of the requests, and of a single call by the bytes of planner, request and room
module _ (single : List ℕ → List ℕ → List ℕ → PlanResult) (requests : List ℕ) where
  -- one single call more: the next request, with the planner and of the room what the requests before it left. A refused one is
  -- named by its number, and its position is how many were planned before it
  unfoldable pub one_more : PlanAllResult → PlanAllResult
  one_more x =
      let used : ℕ = 32 * x.answer.records in
      let made : PlanResult = single x.planner (request_at requests x.answer.place) (drop used x.room) in
      record {
        answer = record {
          number = made.answer.number;
          place = cond (eqb made.answer.number 0) (x.answer.place + 1) x.answer.place;
          records = x.answer.records + made.answer.records;
        };
        planner = made.planner;
        room = take used x.room ++ made.room;
      }

  -- the first n requests, "stopping before the first refused request"
  unfoldable pub in_turn : ℕ → PlanAllResult → PlanAllResult
  in_turn zero x = x
  in_turn (suc n) x = cond (eqb (in_turn n x).answer.number 0) (one_more (in_turn n x)) (in_turn n x)

-- of a planner and a room as they are lent
module _ (planner room : List ℕ) where
  -- before the first request
  abbrev pub none_yet : PlanAllResult
  none_yet = record { answer = record { number = 0; place = 0; records = 0 }; planner = planner; room = room }

  -- "refuse the whole call before any request is planned"
  abbrev pub all_refused : Refusal → PlanAllResult
  all_refused why = record { answer = record { number = (answer_of why).number; place = 0; records = 0 }; planner = planner; room = room }

-- "a bad state (1) or a broken length (13)", else every request in turn; "an empty file is else accepted and adds no record"
unfoldable pub plan_all_under : (List ℕ → List ℕ → List ℕ → PlanResult) → List ℕ → List ℕ → List ℕ → Figures → PlanAllResult
plan_all_under single planner requests room s =
    cond (planner_right (context_of s) planner)
    (cond (eqb (length requests % 24) 0) (in_turn single requests (length requests / 24) (none_yet planner room)) (all_refused planner room Length))
    (all_refused planner room Settings)

-- "Bad settings", then these; the single call is that of rdram_plan
unfoldable pub plan_all_call : List ℕ → List ℕ → List ℕ → List ℕ → PlanAllResult
plan_all_call settings planner requests room =
    under_settings settings (all_refused planner room) (plan_all_under (plan_call settings) planner requests room)

-- What each request of an input prints (document 01, "Bench runs").
-- Assumes nothing.
use Rattle.std.specs.Prelude.{ℕ, zero, suc, ◌*◌, List, [], ◌∷◌, ◌++◌, Err, Ok, Result}
use Rattle.num.specs.Bytes.{part}
use Rattle.settings.specs.Bench.{set_h}
use Rattle.record.specs.declared.Record.{Record}
use Rattle.record.specs.Refusal.{answer_of}
use Rattle.spec_rules.specs.Neighbour.{context_of}
use Rattle.spec_plan.specs.declared.PlannerState.{PlannerState}
use Rattle.spec_plan.specs.Planner.{fresh_planner}
use Rattle.spec_plan.specs.Call.{plan_outcome, plan_records}
use Rattle.spec_plan.specs.Runs.{Call, planner_after, listed}
use Rattle.listing_text.specs.Text.{most_records, request_room, write_bank_after, write_column_after, record_lines, refused_line}
use Rattle.record.specs.declared.Refusal.{Refusal}

-- room for the records of any request (`spec_plan/proofs/Bound.antt`: `most`)
abbrev pub room_bytes : ℕ
room_bytes = 32 * most_records

-- ---- one request

-- what an answer prints with the records that the call has made, after others
unfoldable pub outcome_text : List Record → Result ℕ Refusal → List Record → List ℕ
outcome_text before (Err why) l = refused_line (answer_of why).number
outcome_text before (Ok n) l = record_lines (write_bank_after 0 before) (write_column_after 0 before) l

-- what a request prints, of a planner and the records before it
unfoldable pub request_text : List Record → PlannerState → List ℕ → List ℕ
request_text before p request = outcome_text before (plan_outcome (context_of set_h) p request room_bytes) (plan_records (context_of set_h) p request room_bytes)

-- ---- a whole input

-- request i of the input
abbrev pub request_in : List ℕ → ℕ → List ℕ
request_in input i = part input (24 * i) 24

-- the plan calls of the first n requests
unfoldable pub calls_up_to : List ℕ → ℕ → List Call
calls_up_to input zero = []
calls_up_to input (suc n) = calls_up_to input n ++ (record { request = request_in input n; room = room_bytes } ∷ [])

-- the planner that request n is given to, "the next request follows", and the records before it
abbrev pub planner_for : List ℕ → ℕ → PlannerState
planner_for input n = planner_after (context_of set_h) fresh_planner (calls_up_to input n)

abbrev pub records_listed : List ℕ → ℕ → List Record
records_listed input n = listed (context_of set_h) fresh_planner (calls_up_to input n)

-- the text of the first n requests
unfoldable pub text_up_to : List ℕ → ℕ → List ℕ
text_up_to input zero = []
text_up_to input (suc n) = text_up_to input n ++ request_text (records_listed input n) (planner_for input n) (request_in input n)

-- "65,520 bytes (2,730 requests)": the longest input that is listed, and room for the text of its requests
abbrev pub most_requests : ℕ
most_requests = 2730

abbrev pub longest_input : ℕ
longest_input = 24 * most_requests

abbrev pub requests_room : ℕ
requests_room = most_requests * request_room

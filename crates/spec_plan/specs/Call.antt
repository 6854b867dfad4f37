-- A plan call: one request of any bytes, and any room (document 01, "Planner", "What is turned back").
-- Assumes nothing.
use Rattle.std.specs.Prelude.{ℕ, ◌+◌, ◌/◌, Bool, true, false, cond, ◌&&◌, List, [], ◌∷◌, ◌++◌, leb, length, Err, Ok, Result}
use Rattle.num.specs.Bytes.{splice}
use Rattle.settings.specs.declared.Settings.{Settings}
use Rattle.settings.specs.Instants.{horizon}
use Rattle.record.specs.declared.Record.{Record}
use Rattle.record.specs.declared.Request.{Request}
use Rattle.record.specs.declared.Request.TheVariants.{Read, Write, Refresh, Wait, Flush, Close}
use Rattle.record.specs.declared.Refusal.TheVariants.{Horizon, Full, Unretired}
use Rattle.record.specs.Record.{record_bytes}
use Rattle.record.specs.Request.{request_read}
use Rattle.spec_rules.specs.Neighbour.{Context}
use Rattle.spec_rules.specs.Packets.{instant}
use Rattle.spec_rules.specs.Rules.{longest_delay, implied_delay}
use Rattle.spec_rules.specs.declared.Channel.{Channel}
use Rattle.spec_rules.specs.Channel.{waiting_of, leaving_of, after}
use Rattle.spec_plan.specs.declared.PlannerState.{PlannerState}
use Rattle.spec_plan.specs.Plan.{Draft, any_waits, planned}
use Rattle.record.specs.declared.Refusal.{Refusal}

-- the bytes of records, one after the other
unfoldable pub list_bytes : Settings → List Record → List ℕ
list_bytes s [] = []
list_bytes s (r ∷ l) = record_bytes s r ++ list_bytes s l

-- no packet, data or implied instant of these records, from this state on, passes the last instant
unfoldable pub in_time : Context → Channel → List Record → Bool
in_time cx ch [] = true
in_time cx ch (r ∷ l) =
    (leb (instant r + longest_delay cx r) horizon && leb (instant r + implied_delay cx (leaving_of cx ch r)) horizon) && in_time cx (after cx ch r) l

-- "7 horizon: a packet, D, read-data instant or now would pass 1,000,000,000"; "An implied instant past the limit is a horizon refusal"
unfoldable pub timely : Context → PlannerState → Draft → Bool
timely cx p d = in_time cx p.channel d.records && leb d.planner.now.0 horizon

-- 7, then "8 full: fewer free records [..] in the lent buffer than the call needs"
unfoldable pub outcome_of : Context → PlannerState → Draft → ℕ → Result ℕ Refusal
outcome_of cx p d room =
    cond (timely cx p d) (cond (leb (length d.records) (room / 32)) (Ok (length d.records)) (Err Full)) (Err Horizon)

-- "for close while a write waits"
unfoldable pub unretired : Request → PlannerState → Bool
unretired (Read at close) p = false
unretired (Write at mask d close) p = false
unretired Refresh p = false
unretired (Wait n) p = false
unretired Flush p = false
unretired Close p = any_waits (waiting_of p.channel.buffer)

-- what a call answers whose request says this: the request's own refusals first, then "15 unretired [..] after 6 and before 7"
unfoldable pub outcome_by : Context → PlannerState → Result Request Refusal → ℕ → Result ℕ Refusal
outcome_by cx p (Err why) room = Err why
outcome_by cx p (Ok q) room = cond (unretired q p) (Err Unretired) (outcome_of cx p (planned cx q p) room)

-- the answer to a request of these bytes, with a lent buffer of so many
unfoldable pub plan_outcome : Context → PlannerState → List ℕ → ℕ → Result ℕ Refusal
plan_outcome cx p request room = outcome_by cx p (request_read cx.settings request) room

-- "accepted means not refused"
unfoldable pub is_made : Result ℕ Refusal → Bool
is_made (Err why) = false
is_made (Ok n) = true

abbrev pub accepted : Context → PlannerState → List ℕ → ℕ → Bool
accepted cx p request room = is_made (plan_outcome cx p request room)

-- the planner with the records of the request that bytes say, where they say one
unfoldable pub draft_by : Context → PlannerState → Result Request Refusal → Draft
draft_by cx p (Err why) = record { planner = p; records = [] }
draft_by cx p (Ok q) = planned cx q p

abbrev pub draft_of : Context → PlannerState → List ℕ → Draft
draft_of cx p request = draft_by cx p (request_read cx.settings request)

-- the next state: "A refusal [..] changes no lent buffer", nor the state
unfoldable pub plan_next : Context → PlannerState → List ℕ → ℕ → PlannerState
plan_next cx p request room = cond (accepted cx p request room) (draft_of cx p request).planner p

-- the records that the call makes
unfoldable pub plan_records : Context → PlannerState → List ℕ → ℕ → List Record
plan_records cx p request room = cond (accepted cx p request room) (draft_of cx p request).records []

-- the lent buffer after the call: the records from its start on, every other byte as it was
unfoldable pub plan_room : Context → PlannerState → List ℕ → List ℕ → List ℕ
plan_room cx p request room = splice room 0 (list_bytes cx.settings (plan_records cx p request (length room)))

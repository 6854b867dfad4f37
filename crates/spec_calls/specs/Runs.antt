-- Whole runs as a C caller drives them (document 01, "Flat memory and whole runs"): state bytes, record bytes, answers in numbers.
-- Assumes nothing.
use Rattle.std.specs.Prelude.{ℕ, zero, suc, ◌+◌, ◌*◌, ◌/◌, ◌<◌, ◌≤◌, ◌≡◌, Bool, true, false, not, ◌||◌, cond, List, [], ◌∷◌, ◌++◌, eqb, leb, ltb, length, take, Ok}
use Rattle.num.specs.Bytes.{Bytes, part}
use Rattle.settings.specs.declared.Settings.{Settings}
use Rattle.record.specs.declared.Record.{Record}
use Rattle.record.specs.declared.Request.TheVariants.{Flush}
use Rattle.record.specs.Request.{request_read}
use Rattle.spec_rules.specs.Neighbour.{context_of}
use Rattle.spec_plan.specs.Planner.{fresh_planner}
use Rattle.spec_plan.specs.PlannerBytes.{planner_bytes}
use Rattle.spec_model.specs.Model.{fresh_model}
use Rattle.spec_model.specs.ModelBytes.{model_bytes}
use Rattle.spec_runs.specs.Flat.{Fed, flat_after, flat_answers, flat_masks}
use Rattle.spec_runs.specs.Count.{ones_of, retired_masks}
use Rattle.spec_runs.specs.Drive.{reads_in}
use Rattle.spec_check.specs.Check.{records_up_to}
use Rattle.spec_calls.specs.Checks.{check_call}
use Rattle.spec_calls.specs.Plans.{PlanResult, plan_call}
use Rattle.spec_calls.specs.PlanAll.{PlanAllResult, request_at, plan_all_call}
use Rattle.spec_calls.specs.Models.{StepResult, step_call}

-- ---- plan calls

-- one call of the planner, with a lent room of any bytes: of rdram_plan with the bytes of a request, or of rdram_plan_all with those
-- of many
pub data PlanCall : Type 0 where
  One : (request room : List ℕ) → PlanCall
  Many : (requests room : List ℕ) → PlanCall

-- the planner's bytes, and the packet list so far
pub record Bench : Type 0 where
  pub planner : List ℕ
  pub list : List ℕ

-- "The packet list starts empty"; the planner is as rdram_planner_fresh leaves it
unfoldable pub fresh_bench : Bench
fresh_bench = record { planner = planner_bytes fresh_planner; list = [] }

-- the caller adds the records of the call to its list: "each plan call gets the planner and the packet list that the last one left"
abbrev pub bench_by : Bench → List ℕ → ℕ → List ℕ → Bench
bench_by x planner records room = record { planner = planner; list = x.list ++ take (32 * records) room }

unfoldable pub bench_next : List ℕ → PlanCall → Bench → Bench
bench_next settings (One request room) x =
    let made : PlanResult = plan_call settings x.planner request room in
    bench_by x made.planner made.answer.records made.room
bench_next settings (Many requests room) x =
    let made : PlanAllResult = plan_all_call settings x.planner requests room in
    bench_by x made.planner made.answer.records made.room

unfoldable pub bench_after : List ℕ → List PlanCall → Bench → Bench
bench_after settings [] x = x
bench_after settings (c ∷ l) x = bench_after settings l (bench_next settings c x)

-- the first n of many requests, as accepted ones
unfoldable pub requests_fed : List ℕ → ℕ → List Fed
requests_fed requests zero = []
requests_fed requests (suc n) = requests_fed requests n ++ (record { request = request_at requests n; accepted = true } ∷ [])

-- what flat memory is fed: "each request, and whether the answer was a refusal". Of many these are the ones before the place that the
-- call answers: the request there is refused, and those after it are not asked, so that flat memory takes notice of none of them
unfoldable pub call_fed : List ℕ → PlanCall → Bench → List Fed
call_fed settings (One request room) x =
    record { request = request; accepted = eqb (plan_call settings x.planner request room).answer.number 0 } ∷ []
call_fed settings (Many requests room) x = requests_fed requests (plan_all_call settings x.planner requests room).answer.place

unfoldable pub bench_fed : List ℕ → List PlanCall → Bench → List Fed
bench_fed settings [] x = []
bench_fed settings (c ∷ l) x = call_fed settings c x ++ bench_fed settings l (bench_next settings c x)

-- ---- model calls

-- the model's bytes and the store, the dualocts that were returned, the sum of the numbers of bytes written, the record that comes
-- next, and whether a call was refused for another reason than 8
pub record Device : Type 0 where
  pub model : List ℕ
  pub store : List ℕ
  pub answers : List (List ℕ)
  pub written : ℕ
  pub next : ℕ
  pub failed : Bool

-- the model is as rdram_model_fresh leaves it, "with any bytes of the right length as store"
unfoldable pub fresh_device : List ℕ → Device
fresh_device store = record { model = model_bytes fresh_model; store = store; answers = []; written = 0; next = 0; failed = false }

-- one call of rdram_model_step on the next record of the list, with a lent answer buffer of any bytes
unfoldable pub device_by : List ℕ → List ℕ → List ℕ → Device → Device
device_by settings list room x =
    let did : StepResult = step_call settings x.model x.store (part list (32 * x.next) 32) room in
    record {
      model = did.model;
      store = did.store;
      answers = x.answers ++ cond (eqb did.answer.event 1) (take 16 did.room ∷ []) [];
      written = x.written + did.answer.bytes;
      next = cond (eqb did.answer.number 0) (x.next + 1) x.next;
      failed = x.failed || not (eqb did.answer.number 0 || eqb did.answer.number 8);
    }

-- where the list has a next record
unfoldable pub device_next : List ℕ → List ℕ → List ℕ → Device → Device
device_next settings list room x = cond (ltb x.next (length list / 32)) (device_by settings list room x) x

-- calls with these answer buffers
unfoldable pub device_after : List ℕ → List ℕ → List (List ℕ) → Device → Device
device_after settings list [] x = x
device_after settings list (room ∷ rooms) x = device_after settings list rooms (device_next settings list room x)

-- how many of the calls have 16 bytes, which is "room for [the] answer" of any record
unfoldable pub wide_buffers : List (List ℕ) → ℕ
wide_buffers [] = 0
wide_buffers (room ∷ rooms) = cond (leb 16 (length room)) 1 0 + wide_buffers rooms

-- ---- the claim

-- every request is of bytes
abbrev pub BytesOf : PlanCall → Type 0
BytesOf (One request room) = Bytes request
BytesOf (Many requests room) = Bytes requests

unfoldable pub BytesIn : List PlanCall → Type 0
BytesIn [] = Unit {0}
BytesIn (c ∷ l) = BytesOf c × BytesIn l

-- "any accepted flush" as the last request that flat memory is fed
pub record FlushesLast (s : Settings) (requests : List Fed) : Type 0 where
  pub first : List Fed
  pub last : Fed
  pub ends : requests ≡ first ++ (last ∷ [])
  pub flush : request_read s last.request ≡ Ok Flush
  pub taken : last.accepted ≡ true

-- demand 3 of the C calls: of settings bytes that say s, plan calls, the bytes of a store, and the answer buffers of the model calls
module _ (settings : List ℕ) (s : Settings) (calls : List PlanCall) (store : List ℕ) (rooms : List (List ℕ)) where
  -- the packet list that the plan calls leave, and the number of its records
  abbrev pub packet_bytes : List ℕ
  packet_bytes = (bench_after settings calls fresh_bench).list

  abbrev pub records : ℕ
  records = length packet_bytes / 32

  -- what flat memory is fed
  abbrev pub calls_fed : List Fed
  calls_fed = bench_fed settings calls fresh_bench

  -- the model and what it has answered, after the rdram_model_step calls on that list
  abbrev pub device_at_end : Device
  device_at_end = device_after settings packet_bytes rooms (fresh_device store)

  -- the records that it has taken
  abbrev pub taken_records : List Record
  taken_records = records_up_to s packet_bytes device_at_end.next

  pub record CallsRun : Type 0 where
    -- rdram_check passes the list
    pub lawful : (check_call settings packet_bytes).number ≡ 0
    -- no model call is refused but for want of room
    pub passes : device_at_end.failed ≡ false
    -- "the same record comes again until a call has room for its answer": a further call with 16 bytes takes the next record
    pub takes : (room : List ℕ) → 16 ≤ length room → device_at_end.next < records → (device_next settings packet_bytes room device_at_end).next ≡ device_at_end.next + 1
    -- so as many such calls as the list has records take it whole, whatever calls stand between
    pub takes_all : records ≤ wide_buffers rooms → device_at_end.next ≡ records
    -- the dualocts that were returned, one for each RD that was taken, are the first of flat memory's answers, in order
    pub so_far : device_at_end.answers ≡ take (reads_in taken_records) (flat_answers (context_of s) calls_fed store)
    -- and all of them where every record is taken
    pub reads : device_at_end.next ≡ records → device_at_end.answers ≡ flat_answers (context_of s) calls_fed store
    -- "The store must equal flat memory after any accepted flush."
    pub flat-after-flush : device_at_end.next ≡ records → FlushesLast s calls_fed → device_at_end.store ≡ flat_after (context_of s) calls_fed store
    -- "the number of bytes a retire wrote [..]; their sum over a run is the ones in all retired masks", of the records taken
    pub counted : device_at_end.written ≡ ones_of (retired_masks (context_of s) taken_records)
    -- and after an accepted flush the ones in the masks of all accepted writes
    pub count-after-flush : device_at_end.next ≡ records → FlushesLast s calls_fed → device_at_end.written ≡ ones_of (flat_masks (context_of s) calls_fed)

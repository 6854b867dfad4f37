-- Demand 3 (document 01, "Flat memory and whole runs"): "a single claim about the whole list of [plan calls] and not one for each
-- call."
-- Assumes nothing.
use Rattle.std.specs.Prelude.{ℕ, ◌-◌, ◌≤◌, ◌≡◌, true, false, List, [], ◌∷◌, ◌++◌, length, take, drop, Ok}
use Rattle.record.specs.declared.Record.{Record}
use Rattle.record.specs.declared.Request.TheVariants.{Flush}
use Rattle.record.specs.Request.{request_read}
use Rattle.spec_rules.specs.Neighbour.{Context}
use Rattle.spec_rules.specs.Broken.{every_rule}
use Rattle.spec_plan.specs.declared.PlannerState.{PlannerState}
use Rattle.spec_plan.specs.Planner.{fresh_planner}
use Rattle.spec_plan.specs.Call.{accepted, plan_next}
use Rattle.spec_plan.specs.Runs.{Call, planner_after, listed}
use Rattle.spec_runs.specs.Flat.{Fed, flat_after, flat_answers, flat_masks}
use Rattle.spec_runs.specs.Count.{ones_of, retired_masks}
use Rattle.spec_runs.specs.Drive.{Drive, started, called, driven, wide_calls, reads_in}

-- what flat memory is fed by a list of plan calls
unfoldable pub fed : Context → PlannerState → List Call → List Fed
fed cx p [] = []
fed cx p (c ∷ l) =
    record { request = c.request; accepted = accepted cx p c.request c.room } ∷ fed cx (plan_next cx p c.request c.room) l

-- "any accepted flush" as the last call
pub record EndsInFlush (cx : Context) (calls : List Call) : Type 0 where
  pub first : List Call
  pub last : Call
  pub ends : calls ≡ first ++ (last ∷ [])
  pub flush : request_read cx.settings last.request ≡ Ok Flush
  pub taken : accepted cx (planner_after cx fresh_planner first) last.request last.room ≡ true

-- the claim, of settings that are accepted, plan calls, the bytes of a store, and the room of each model call
module _ (cx : Context) (calls : List Call) (store rooms : List ℕ) where
  -- the packet list that the plan calls leave
  abbrev pub packets : List Record
  packets = listed cx fresh_planner calls

  -- what flat memory is fed
  abbrev pub feed : List Fed
  feed = fed cx fresh_planner calls

  -- the model and what it has answered, after the model calls on that list
  abbrev pub end : Drive
  end = driven cx rooms (started store packets)

  -- the records that it has taken
  abbrev pub records_taken : List Record
  records_taken = take (length packets - length end.pending) packets

  pub record WholeRun : Type 0 where
    -- the list breaks no rule
    pub lawful : every_rule cx packets ≡ true
    -- a fresh model passes it: no call on a record of it is refused but for want of room
    pub passes : end.failed ≡ false
    -- "the same record comes again until a call has room for its answer": a further call with 16 bytes takes the next record
    pub takes : (room : ℕ) → 16 ≤ room → (called cx room end end.pending).pending ≡ drop 1 end.pending
    -- so as many such calls as the list has records take it whole, whatever calls stand between
    pub takes_all : length packets ≤ wide_calls rooms → end.pending ≡ []
    -- the dualocts that the model has returned, one for each RD that it has taken, are the first of flat memory's answers, in order
    pub so_far : end.answers ≡ take (reads_in records_taken) (flat_answers cx feed store)
    -- and all of them where every record is taken
    pub reads : end.pending ≡ [] → end.answers ≡ flat_answers cx feed store
    -- "The store must equal flat memory after any accepted flush."
    pub flat-after-flush : end.pending ≡ [] → EndsInFlush cx calls → end.store ≡ flat_after cx feed store
    -- "the number of bytes a retire wrote [..]; their sum over a run is the ones in all retired masks", of the records taken
    pub counted : end.written ≡ ones_of (retired_masks cx records_taken)
    -- and after an accepted flush the ones in the masks of all accepted writes
    pub count-after-flush : end.pending ≡ [] → EndsInFlush cx calls → end.written ≡ ones_of (flat_masks cx feed)

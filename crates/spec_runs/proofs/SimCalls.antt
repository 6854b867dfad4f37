-- Plan calls, accepted or refused, keep what joins planner, model and flat memory; and so do lists of them.
-- Assumes nothing.
use Rattle.std.specs.Prelude.{Err, Ok, Result}
use Prim.Native.Nat.{ℕ}
use mathlib.Core.Path.{◌≡◌, refl}
use mathlib.Core.Bool.{Bool, true, false, cond}
use mathlib.Core.List.{List, [], ◌∷◌, ◌++◌, append-nil, append_assoc}
use Rattle.num.specs.Bytes.{Bytes}
use Rattle.record.specs.declared.Dualoct.{Dualoct}
use Rattle.record.specs.declared.Record.{Record}
use Rattle.record.specs.declared.Request.{Request}
use Rattle.record.specs.declared.Request.TheVariants.{Read, Write, Refresh, Wait, Flush, Close}
use Rattle.record.specs.Request.{request_read}
use Rattle.record.proofs.RequestLaws.{InRange, accepted-range}
use Rattle.spec_rules.specs.Neighbour.{Context, Neighbours}
use Rattle.spec_rules.specs.Channel.{fresh, waiting_of}
use Rattle.spec_plan.specs.declared.PlannerState.{PlannerState}
use Rattle.spec_plan.specs.Planner.{fresh_planner}
use Rattle.spec_plan.specs.Plan.{Draft, steps_of, planned}
use Rattle.spec_plan.specs.Call.{accepted, draft_by, draft_of, plan_next, plan_records}
use Rattle.spec_plan.specs.Runs.{Call, OfBytes, planner_after, listed}
use Rattle.spec_plan.proofs.CallLaws.{Rest, rested as plan_rested, made-rest, called, call-made}
use Rattle.spec_plan.proofs.Legal.{run-fresh}
use Rattle.spec_model.specs.Model.{fresh_model}
use Rattle.spec_runs.specs.Flat.{Fed, memory_by, answers_by, memory_of, answers_of, flat_next, flat_answer, flat_after, flat_answers, masks_by, masks_of, flat_mask, flat_masks}
use Rattle.spec_runs.specs.WholeRun.{fed}
use Rattle.spec_runs.proofs.PlainRun.{model_all, store_all, answers_all, masks_all}
use Rattle.spec_runs.proofs.Sim.{Sim}
use Rattle.spec_runs.proofs.SimPlan.{Both, sim_read, sim_write, sim-refresh, sim-wait, sim-flush, sim-close}
use Rattle.record.specs.declared.Refusal.{Refusal}

-- a planner between calls
abbrev pub rested : PlannerState → Draft
rested p = record { planner = p; records = [] }

module _ (cx : Context) (ns : Neighbours cx) (st : List ℕ) where
  -- planner, model and flat memory between calls, after these records
  abbrev pub Between : List Record → PlannerState → List ℕ → List (List ℕ) → List ℕ → Type 0
  Between before p memory answers masks = Sim cx st before (rested p) memory answers masks

  -- ---- one call

  module _ (before : List Record) (p : PlannerState) (v : Rest cx p) (memory : List ℕ) (answers : List (List ℕ)) (masks : List ℕ) (k : Between before p memory answers masks) where
    abbrev both : Both cx ns p st before memory answers masks (rested p)
    both = (plan_rested cx p v, k)

    sim-planned : (q : Request) → InRange cx.settings q → Sim cx st before (planned cx q p) (memory_by cx q memory) (answers ++ answers_by cx q memory) (masks ++ masks_by q)
    unfolding planned steps_of memory_by answers_by masks_by
    sim-planned (Read at c) i = rw append-nil (sim_read cx ns p st before memory answers masks c (rested p) both at i)
    sim-planned (Write at mask bytes c) i = rw append-nil (sim_write cx ns p st before memory answers masks c (rested p) both at mask bytes i.0 i.1 (i.2, i.3))
    sim-planned Refresh i = rw (append-nil answers, append-nil masks) (sim-refresh cx ns p st before memory answers masks (rested p) both)
    sim-planned (Wait n) i = rw (append-nil answers, append-nil masks) (sim-wait cx ns p st before memory answers masks (rested p) both n)
    sim-planned Flush i = rw (append-nil answers, append-nil masks) (sim-flush cx ns p st before memory answers masks (rested p) both).0
    sim-planned Close i = rw (append-nil answers, append-nil masks) (sim-close cx ns p st before memory answers masks (rested p) both)

    -- an accepted flush leaves no write
    pub flush-empties : (request : List ℕ) (room : ℕ) → request_read cx.settings request ≡ Ok Flush → accepted cx p request room ≡ true
        → waiting_of (plan_next cx p request room).channel.buffer ≡ []
    unfolding plan_next draft_by planned steps_of
    flush-empties request room e a = rw (a, e) (sim-flush cx ns p st before memory answers masks (rested p) both).1

    sim-request : (x : Result Request Refusal) (request : List ℕ) → Bytes request → request_read cx.settings request ≡ x
        → Sim cx st before (draft_by cx p x) (memory_of cx x memory) (answers ++ answers_of cx x memory) (masks ++ masks_of x)
    unfolding draft_by memory_of answers_of masks_of
    sim-request (Err why) request w e = rw (append-nil answers, append-nil masks) k
    sim-request (Ok q) request w e = sim-planned q (accepted-range cx.settings request q w e)

  -- between calls the records go to the list
  sim-rest : (before : List Record) (d : Draft) (memory : List ℕ) (answers : List (List ℕ)) (masks : List ℕ) → Sim cx st before d memory answers masks
      → Between (before ++ d.records) d.planner memory answers masks
  sim-rest before d memory answers masks k =
      record {
        refr = k.refr;
        older = k.older;
        newer = k.newer;
        at = record {
          model = rw append-nil k.at.model;
          flat = rw append-nil k.at.flat;
          same = rw append-nil k.at.same;
          written-under = rw append-nil k.at.written-under;
          data-in = rw append-nil k.at.data-in;
        };
      }

  pub sim-call : (before : List Record) (p : PlannerState) → Rest cx p → (memory : List ℕ) (answers : List (List ℕ)) (masks : List ℕ) → Between before p memory answers masks
      → (request : List ℕ) (room : ℕ) → Bytes request →
      let f : Fed = record { request = request; accepted = accepted cx p request room } in
      Between (before ++ plan_records cx p request room) (plan_next cx p request room) (flat_next cx f memory) (answers ++ flat_answer cx f memory) (masks ++ flat_mask cx f)
  unfolding plan_next plan_records flat_next flat_answer flat_mask
  sim-call before p v memory answers masks k request room w = go (accepted cx p request room)
    where
      x : Result Request Refusal
      x = request_read cx.settings request

      go : (b : Bool) → Between (before ++ cond b (draft_of cx p request).records []) (cond b (draft_of cx p request).planner p)
          (cond b (memory_of cx x memory) memory) (answers ++ cond b (answers_of cx x memory) []) (masks ++ cond b (masks_of x) [])
      go true = sim-rest before (draft_of cx p request) (memory_of cx x memory) (answers ++ answers_of cx x memory) (masks ++ masks_of x) (sim-request before p v memory answers masks k x request w refl)
      go false = rw (append-nil before, append-nil answers, append-nil masks) k

  -- ---- lists of calls

  pub sim-calls : (calls : List Call) → OfBytes calls → (before : List Record) (p : PlannerState) → Rest cx p → (memory : List ℕ) (answers : List (List ℕ)) (masks : List ℕ)
      → Between before p memory answers masks
      → Between (before ++ listed cx p calls) (planner_after cx p calls) (flat_after cx (fed cx p calls) memory) (answers ++ flat_answers cx (fed cx p calls) memory) (masks ++ flat_masks cx (fed cx p calls))
  unfolding planner_after listed fed flat_after flat_answers flat_masks OfBytes
  sim-calls [] b before p v memory answers masks k = rw (append-nil before, append-nil answers, append-nil masks) k
  sim-calls (c ∷ calls) b before p v memory answers masks k =
      let q : PlannerState = plan_next cx p c.request c.room in
      let inv : Rest cx q = made-rest cx p (called cx p c.request c.room) (call-made cx p c.request c.room ns b.0 v) in
      rw (← append_assoc before (plan_records cx p c.request c.room), ← append_assoc answers, ← append_assoc masks)
      (sim-calls calls b.1 (before ++ plan_records cx p c.request c.room) q inv _ _ _ (sim-call before p v memory answers masks k c.request c.room b.0))

  pub sim-fresh : Between [] fresh_planner st [] []
  unfolding fresh_planner fresh_model model_all store_all answers_all masks_all fresh waiting_of
  sim-fresh =
      let z : Dualoct = record { dqa = 0; dqb = 0 } in
      record { refr = 0; older = z; newer = z; at = record { model = refl; flat = refl; same = refl; written-under = refl; data-in = tt } }

  -- after a list of calls from a fresh planner
  pub sim-run : (calls : List Call) → OfBytes calls
      → Between (listed cx fresh_planner calls) (planner_after cx fresh_planner calls) (flat_after cx (fed cx fresh_planner calls) st) (flat_answers cx (fed cx fresh_planner calls) st)
      (flat_masks cx (fed cx fresh_planner calls))
  sim-run calls b = sim-calls calls b [] fresh_planner (run-fresh cx ns).rest st [] [] sim-fresh

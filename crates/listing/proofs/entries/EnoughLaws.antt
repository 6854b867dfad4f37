-- A plan call under set H makes at most 16 records, so that room for these is as good as any more.
-- Assumes nothing.
use Rattle.std.specs.Prelude.{Err, Ok, Result}
use Prim.Native.Nat.{ℕ, ◌*◌, ◌/◌, ◌≤◌}
use mathlib.Core.Path.{◌≡◌, refl}
use mathlib.Core.Bool.{Bool, true, false, cond}
use mathlib.Core.List.{List, [], ◌∷◌}
use lib.Dec.{leb}
use lib.ListN.{length, length-append}
use borrow.Author.Tests.{le-leb}
use native.Mathlib.Omega.{arith}
use Rattle.settings.specs.Bench.{set_of, set_h}
use Rattle.record.specs.declared.Record.{Record}
use Rattle.record.specs.declared.Request.{Request}
use Rattle.record.specs.declared.Refusal.TheVariants.{Horizon, Full, Unretired}
use Rattle.record.specs.Request.{request_read}
use Rattle.spec_rules.specs.Neighbour.{Context, context_of}
use Rattle.spec_rules.proofs.NeighbourLaws.{core-neighbours}
use Rattle.spec_plan.specs.declared.PlannerState.{PlannerState}
use Rattle.spec_plan.specs.Planner.{planner_valid}
use Rattle.spec_plan.specs.Plan.{planned}
use Rattle.spec_plan.specs.Call.{timely, outcome_of, unretired, outcome_by, plan_outcome, is_made, draft_by, plan_next, plan_records}
use Rattle.spec_plan.specs.Runs.{Call, OfBytes, listed}
use Rattle.spec_plan.specs.Most.{request_most}
use Rattle.spec_plan.proofs.Bound.{most}
use Rattle.spec_plan.proofs.Valid.{next-valid}
use Rattle.listing_text.specs.Text.{most_records}
use Rattle.listing.specs.Entries.{room_bytes}
use Rattle.record.specs.declared.Refusal.{Refusal}

abbrev cx : Context
cx = context_of set_h

module _ (p : PlannerState) (v : planner_valid cx p ≡ true) where
  -- of a request that is not refused under 15
  most-planned : (q : Request) → unretired q p ≡ false → length (planned cx q p).records ≤ most_records
  unfolding set_h set_of request_most
  most-planned q u = let m = most set_h p v q u in omega (arith, m.0, m.1)

  outcome-enough : (x : Result Request Refusal) (room : ℕ) → room_bytes ≤ room → outcome_by cx p x room ≡ outcome_by cx p x room_bytes
  unfolding outcome_by outcome_of
  outcome-enough (Err why) room h = refl
  outcome-enough (Ok q) room h = go (unretired q p) refl
    where
      l : List Record
      l = (planned cx q p).records

      by : Bool → Bool → Result ℕ Refusal
      by u f = cond u (Err Unretired) (cond (timely cx p (planned cx q p)) (cond f (Ok (length l)) (Err Full)) (Err Horizon))

      go : (u : Bool) → unretired q p ≡ u → by u (leb (length l) (room / 32)) ≡ by u (leb (length l) (room_bytes / 32))
      go true e = refl
      go false e =
          let m = most-planned q e in
          rw (le-leb (length l) (room / 32) (omega (arith, m)), le-leb (length l) (room_bytes / 32) (omega (arith, m)))

  -- 8 is no answer, and the others are the same
  pub call-enough : (request : List ℕ) (room : ℕ) → room_bytes ≤ room → plan_outcome cx p request room ≡ plan_outcome cx p request room_bytes
  unfolding plan_outcome
  call-enough request room h = outcome-enough (request_read cx.settings request) room h

  pub next-enough : (request : List ℕ) (room : ℕ) → room_bytes ≤ room → plan_next cx p request room ≡ plan_next cx p request room_bytes
  unfolding plan_next
  next-enough request room h = rw (call-enough request room h)

  pub records-enough : (request : List ℕ) (room : ℕ) → room_bytes ≤ room → plan_records cx p request room ≡ plan_records cx p request room_bytes
  unfolding plan_records
  records-enough request room h = rw (call-enough request room h)

  made-most : (x : Result Request Refusal) (room : ℕ) → length (cond (is_made (outcome_by cx p x room)) (draft_by cx p x).records []) ≤ most_records
  unfolding outcome_by draft_by is_made
  made-most (Err why) room = omega arith
  made-most (Ok q) room = go (unretired q p) refl
    where
      l : List Record
      l = (planned cx q p).records

      either : (m : Bool) → length l ≤ most_records → length (cond m l []) ≤ most_records
      either true h = h
      either false h = omega arith

      go : (u : Bool) → unretired q p ≡ u → length (cond (is_made (cond u (Err Unretired) (outcome_of cx p (planned cx q p) room))) l []) ≤ most_records
      go true e = omega arith
      go false e = either (is_made (outcome_of cx p (planned cx q p) room)) (most-planned q e)

  pub records-most : (request : List ℕ) (room : ℕ) → length (plan_records cx p request room) ≤ most_records
  unfolding plan_records plan_outcome
  records-most request room = made-most (request_read cx.settings request) room

-- the records of a list of calls
pub listed-most : (calls : List Call) → OfBytes calls → (p : PlannerState) → planner_valid cx p ≡ true → length (listed cx p calls) ≤ most_records * length calls
unfolding listed OfBytes
listed-most [] b p v = omega arith
listed-most (c ∷ calls) b p v =
    let next : PlannerState = plan_next cx p c.request c.room in
    let new = records-most p v c.request c.room in
    let rest = listed-most calls b.1 next (next-valid cx (core-neighbours set_h) p c.request c.room b.0 v) in
    omega (arith, new, rest, length-append (plan_records cx p c.request c.room) (listed cx next calls))

-- "A refusal [..] changes no lent buffer" (document 01, "What is turned back"), nor the planner.
-- Assumes nothing.
use Prim.Native.Nat.{ℕ}
use mathlib.Core.Path.{◌≡◌}
use mathlib.Core.Bool.{false}
use mathlib.Core.List.{List, []}
use lib.ListN.{length}
use Rattle.spec_rules.specs.Neighbour.{Context}
use Rattle.spec_plan.specs.declared.PlannerState.{PlannerState}
use Rattle.spec_plan.specs.Call.{list_bytes, accepted, plan_next, plan_records, plan_room}

module _ (cx : Context) (p : PlannerState) (request : List ℕ) where
  pub refused-state : (room : ℕ) → accepted cx p request room ≡ false → plan_next cx p request room ≡ p
  unfolding plan_next
  refused-state room e = rw e

  pub refused-records : (room : ℕ) → accepted cx p request room ≡ false → plan_records cx p request room ≡ []
  unfolding plan_records
  refused-records room e = rw e

  pub refused-room : (room : List ℕ) → accepted cx p request (length room) ≡ false → plan_room cx p request room ≡ room
  unfolding plan_room list_bytes
  refused-room room e = rw (refused-records (length room) e)

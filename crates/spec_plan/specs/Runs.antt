-- Whole runs of plan calls (document 01, "Flat memory and whole runs"): "The packet list starts empty; each plan call gets the
-- planner and the packet list that the last one left."
-- Assumes nothing.
use Rattle.std.specs.Prelude.{ℕ, List, [], ◌∷◌, ◌++◌}
use Rattle.num.specs.Bytes.{Bytes}
use Rattle.record.specs.declared.Record.{Record}
use Rattle.spec_rules.specs.Neighbour.{Context}
use Rattle.spec_plan.specs.declared.PlannerState.{PlannerState}
use Rattle.spec_plan.specs.Call.{plan_next, plan_records}

-- "A plan call gives the planner one request, of any bytes, with any free room, none included."
pub record Call : Type 0 where
  pub request : List ℕ
  pub room : ℕ

-- every request is of bytes
unfoldable pub OfBytes : List Call → Type 0
OfBytes [] = Unit {0}
OfBytes (c ∷ l) = Bytes c.request × OfBytes l

module _ (cx : Context) where
  -- the planner after a list of calls
  unfoldable pub planner_after : PlannerState → List Call → PlannerState
  planner_after p [] = p
  planner_after p (c ∷ l) = planner_after (plan_next cx p c.request c.room) l

  -- the packet list that they make
  unfoldable pub listed : PlannerState → List Call → List Record
  listed p [] = []
  listed p (c ∷ l) = plan_records cx p c.request c.room ++ listed (plan_next cx p c.request c.room) l

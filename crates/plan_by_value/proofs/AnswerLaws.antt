-- The answer to a request, by its draft.
-- Assumes nothing.
use Rattle.std.specs.Prelude.{Err, Ok, Result}
use Prim.Native.Nat.{ℕ, ◌/◌, ◌≤◌, ◌<◌}
use mathlib.Core.Path.{◌≡◌, refl}
use mathlib.Core.Bool.{true, false}
use mathlib.Core.List.{List}
use lib.Dec.{leb}
use lib.ListN.{length}
use borrow.Author.Tests.{le-leb, lt-leb}
use native.Mathlib.Omega.{arith}
use Rattle.num.specs.Bytes.{splice}
use Rattle.num.proofs.SpliceLaws.{splice-none}
use Rattle.settings.specs.declared.Settings.{Settings}
use Rattle.settings.specs.Instants.{horizon}
use Rattle.record.specs.declared.Request.{Request}
use Rattle.record.specs.declared.Refusal.{Refusal}
use Rattle.record.specs.declared.Refusal.TheVariants.{Horizon, Full, Unretired}
use Rattle.spec_rules.specs.Neighbour.{context_of}
use Rattle.spec_rules.proofs.Bools.{and_right, not-passes}
use Rattle.spec_plan.specs.declared.PlannerState.{PlannerState}
use Rattle.spec_plan.specs.Plan.{planned}
use Rattle.spec_plan.specs.Planner.{planner_valid}
use Rattle.spec_plan.specs.Call.{list_bytes, timely, outcome_of, unretired, outcome_by, is_made, draft_by}
use Rattle.spec_plan.proofs.Invariant.{valid-tested}
use Rattle.spec_plan.proofs.Bound.{most-any}
use Rattle.plan_by_value.specs.declared.Draft.{Draft as Drawn}
use Rattle.plan_by_value.specs.Form.Answered.{next_by, records_by}
use Rattle.plan_by_value.specs.Form.Drawn.{records_of, Draws}
use Rattle.plan_by_value.proofs.DrawLaws.{in-time, draws-count}

module _ (s : Settings) (p : PlannerState) where
  pub now-in-time : planner_valid (context_of s) p ≡ true → leb p.now.0 horizon ≡ true
  now-in-time v = and_right (leb 4 p.now.0) _ (valid-tested (context_of s) p v).now-in

  -- a refusal changes neither the planner nor the lent buffer
  pub refused-keeps : (x : Result Request Refusal) (why : Refusal) (l : List ℕ) → outcome_by (context_of s) p x (length l) ≡ Err why
      → (p ≡ next_by (context_of s) p x (length l)) × (l ≡ splice l 0 (list_bytes s (records_by (context_of s) p x (length l))))
  unfolding is_made list_bytes
  refused-keeps x why l e = rw e (refl, splice-none l 0)

  pub unretired-is : (q : Request) (room : ℕ) → unretired q p ≡ true → outcome_by (context_of s) p (Ok q) room ≡ Err Unretired
  unfolding outcome_by
  unretired-is q room e = rw e

  -- a request, with what code makes of it
  module _ (q : Request) (v : planner_valid (context_of s) p ≡ true) (u : unretired q p ≡ false) (d : Drawn) (k : Draws s p d (planned (context_of s) q p)) (room : ℕ) where
    pub late_is : d.late ≡ true → outcome_by (context_of s) p (Ok q) room ≡ Err Horizon
    unfolding outcome_by outcome_of
    late_is l = rw (u, not-passes d.late (timely (context_of s) p (planned (context_of s) q p)) k.late l)

    -- of one that is in time
    module _ (l : d.late ≡ false) where
      pub count-is : d.count ≡ length (planned (context_of s) q p).records
      count-is = draws-count s p d (planned (context_of s) q p) k (most-any s p v q u) l

      pub count_most : d.count ≤ 32
      count_most = omega (arith, count-is, most-any s p v q u)

      pub full_is : room / 32 < d.count → outcome_by (context_of s) p (Ok q) room ≡ Err Full
      unfolding outcome_by outcome_of
      full_is h = rw (u, in-time s p d (planned (context_of s) q p) k l, lt-leb (length (planned (context_of s) q p).records) (room / 32) (omega (arith, h, count-is)))

      pub made-is : d.count ≤ room / 32 → outcome_by (context_of s) p (Ok q) room ≡ Ok d.count
      unfolding outcome_by outcome_of
      made-is h = rw (u, in-time s p d (planned (context_of s) q p) k l, le-leb (length (planned (context_of s) q p).records) (room / 32) (omega (arith, h, count-is)), count-is)

      pub next-is : d.count ≤ room / 32 → d.planner ≡ next_by (context_of s) p (Ok q) room
      unfolding is_made draft_by
      next-is h = rw (made-is h) (k.planner l)

      pub records-are : d.count ≤ room / 32 → records_of d.list d.count ≡ records_by (context_of s) p (Ok q) room
      unfolding is_made draft_by
      records-are h = rw (made-is h) (k.records l (most-any s p v q u))

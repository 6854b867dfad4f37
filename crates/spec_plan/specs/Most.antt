-- How many records a request makes, by its kind and the core form (document 02 d and f).
-- Assumes nothing.
use Rattle.std.specs.Prelude.{ℕ, ◌≤◌, ◌≡◌, true, false, cond, ltb, length}
use Rattle.settings.specs.declared.Settings.{Settings}
use Rattle.record.specs.declared.Request.{Request}
use Rattle.record.specs.declared.Request.TheVariants.{Read, Write, Refresh, Wait, Flush, Close}
use Rattle.spec_rules.specs.Neighbour.{context_of}
use Rattle.spec_plan.specs.declared.PlannerState.{PlannerState}
use Rattle.spec_plan.specs.Planner.{planner_valid}
use Rattle.spec_plan.specs.Plan.{planned}
use Rattle.spec_plan.specs.Call.{unretired}

-- "No request now makes more than 16 records, 32 in form 2."
unfoldable pub request_most : ℕ → ℕ
request_most core = cond (ltb core 2) 16 32

-- by kind: a NOCOP for each of two writes that wait, and a PRER to each of two open neighbours; then ACT with RD or RDA, with WR and
-- D, or with WRA, D and its own NOCOP; or REFA and REFP. A flush has the NOCOPs alone, a close a PRER for each bank that can be open.
unfoldable pub most_of : ℕ → Request → ℕ
most_of core (Read at close) = 6
most_of core (Write at mask d close) = cond close 8 7
most_of core Refresh = 6
most_of core (Wait n) = 0
most_of core Flush = 2
most_of core Close = request_most core

-- from any state that is not refused
abbrev pub AtMost : Settings → Type 0
AtMost s =
    (p : PlannerState) → planner_valid (context_of s) p ≡ true → (q : Request) → unretired q p ≡ false
    → (length (planned (context_of s) q p).records ≤ most_of s.core q) × (most_of s.core q ≤ request_most s.core)

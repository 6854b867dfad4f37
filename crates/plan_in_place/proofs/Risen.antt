-- How far the stored instants of a state rise by a request: by at most 9,700, or to the now that it leaves.
-- Assumes nothing.
use Prim.Native.Nat.{ℕ, ◌+◌, ◌-◌, ◌≤◌, max}
use mathlib.Core.Path.{◌≡◌, sym, ap, ◌∙◌}
use mathlib.Core.Bool.{true}
use mathlib.Core.List.{List}
use native.Mathlib.Omega.{arith}
use borrow.Author.Tests.{leb-true}
use Rattle.settings.specs.declared.Settings.{Settings}
use Rattle.settings.specs.Instants.{horizon}
use Rattle.record.specs.declared.Request.{Request}
use Rattle.record.specs.declared.Request.TheVariants.{Wait}
use Rattle.record.proofs.RequestLaws.{InRange}
use Rattle.spec_rules.specs.Neighbour.{context_of}
use Rattle.spec_rules.proofs.Bools.{and_right}
use Rattle.spec_rules.proofs.NeighbourLaws.{core-neighbours}
use Rattle.spec_plan.specs.declared.PlannerState.{PlannerState}
use Rattle.spec_plan.specs.Plan.{Draft, planned_wait, steps_of, planned}
use Rattle.spec_plan.specs.Call.{in_time, timely}
use Rattle.spec_plan.specs.PlannerBytes.{planner_bytes, planner_in}
use Rattle.spec_plan.proofs.CallLaws.{planned-made}
use Rattle.plan_bytes.specs.Form.Numbers.{word, Below}
use Rattle.plan_bytes.specs.Form.Drawn.{drafted, Ready, Rested}
use Rattle.plan_bytes.proofs.Tops.{under_more}
use Rattle.plan_bytes.proofs.Marks.{far, Marked, marked_more}
use Rattle.plan_bytes.proofs.ReadyLaws.{readies, ready, at_rest}
use Rattle.plan_bytes.proofs.Again.{start, After, after-step, ready-more}
use Rattle.plan_in_place.proofs.Planned.{now-is}
use Rattle.plan_in_place.proofs.Called.{NoWait, wait-or-none, request-marked}

module _ (s : Settings) (top : ℕ) (b : List ℕ) (k : Rested s top b) (l : top ≤ 999990000) where
  r : Ready s top b
  r = ready s top b k

  -- what a request leaves
  abbrev draft : Request → Draft
  draft q = planned (context_of s) q (planner_in b)

  -- from a draft whose instants are below a top, by the bytes that it leaves
  below_left : (q : Request) → InRange s q → (high : ℕ) → high ≤ far → Marked s (high + 3) (draft q) → (left : List ℕ) → left ≡ planner_bytes (draft q).planner → After s high (draft q) left
  unfolding context_of
  below_left q i high h m left e =
      after-step s (readies s top b r).figures high (draft q) h m (planned-made (context_of s) (core-neighbours s) (planner_in b) (at_rest s top b k) q i).inv left e

  raised : (high more : ℕ) (left : List ℕ) → high ≤ more → Ready s high left → Below more left
  raised high more left h w = (readies s more left (ready-more s high more left h w)).below

  rises-none : (q : Request) → NoWait q → InRange s q → (left : List ℕ) → left ≡ planner_bytes (draft q).planner → Below (max (top + 9700) (word left 752)) left
  rises-none q n i left e =
      let m : Marked s (top + 9700 + 3) (draft q) = marked_more s (top + 3 + 9700) (top + 9700 + 3) (omega arith) (draft q) (request-marked s top b r (omega arith) q n) in
      raised (top + 9700) (max (top + 9700) (word left 752)) left (omega arith) (below_left q i (top + 9700) (omega arith) m left e).ready

  rises-wait : (n : ℕ) → InRange s (Wait n) → timely (context_of s) (planner_in b) (draft (Wait n)) ≡ true → (left : List ℕ) → left ≡ planner_bytes (draft (Wait n)).planner
      → Below (max (top + 9700) (word left 752)) left
  unfolding planned steps_of planned_wait timely
  rises-wait n i t left e =
      let now : ℕ = (planner_in b).now.0 + n in
      let high : ℕ = max (top + 9700) (now - 3) in
      let in-time : now ≤ horizon = leb-true now horizon (and_right (in_time (context_of s) (planner_in b).channel (draft (Wait n)).records) _ t) in
      let z : Marked s (top + 3) (drafted b) = start s top b r in
      let low = z.low in
      let m : Marked s (high + 3) (draft (Wait n)) =
      record { instants = z.instants; under = under_more (top + 3) (high + 3) (omega arith) (planner_in b).channel z.under; low = omega arith; now = omega arith } in
      let a : After s high (draft (Wait n)) left = below_left (Wait n) i high (omega arith) m left e in
      let stored : word left 752 + 3 ≡ now = sym (now-is s high left a.ready) ∙ ap (λ (p : PlannerState). p.now.0) a.back in
      raised high (max (top + 9700) (word left 752)) left (omega arith) a.ready

  pub rises : (q : Request) → InRange s q → timely (context_of s) (planner_in b) (draft q) ≡ true → (left : List ℕ) → left ≡ planner_bytes (draft q).planner → Below (max (top + 9700) (word left 752)) left
  rises q =
      wait-or-none (λ q. InRange s q → timely (context_of s) (planner_in b) (draft q) ≡ true → (left : List ℕ) → left ≡ planner_bytes (draft q).planner → Below (max (top + 9700) (word left 752)) left)
      rises-wait (λ q n i t. rises-none q n i) q

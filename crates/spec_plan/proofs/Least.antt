-- "Each ROW or COL packet takes the least instant, not before now, that the rules allow." (document 01, "Planner"): of every
-- packet of every call of a run, by the rules over all records before it.
-- Assumes nothing.
use Prim.Native.Nat.{ℕ, ◌+◌, ◌≤◌, ◌<◌}
use mathlib.Core.Path.{◌≡◌, sym, ap, ◌∙◌}
use mathlib.Core.Bool.{true}
use mathlib.Core.List.{List, [], ◌∷◌, ◌++◌, append-nil, append_assoc, reverse, reverse-append}
use lib.ListN.{length, length-append, take}
use lib.Seq.{take-append-add, get_or-append-add}
use native.Mathlib.Omega.{arith}
use Rattle.num.specs.Bytes.{Bytes}
use Rattle.settings.specs.declared.Settings.{Settings}
use Rattle.record.specs.declared.Record.{Record}
use Rattle.spec_rules.specs.declared.Channel.{Channel}
use Rattle.spec_rules.specs.Neighbour.{Context, Neighbours, context_of}
use Rattle.spec_rules.specs.Packets.{instant, is_packet}
use Rattle.spec_rules.specs.Broken.{earlier, record_in, lowest_rule}
use Rattle.spec_rules.specs.Earliest.{placed_at, under}
use Rattle.spec_rules.proofs.NeighbourLaws.{core-neighbours}
use Rattle.spec_rules.proofs.TrackLaws.{Tracks}
use Rattle.spec_rules.proofs.EarliestLaws.{slot-least}
use Rattle.spec_plan.specs.declared.PlannerState.{PlannerState}
use Rattle.spec_plan.specs.Planner.{fresh_planner}
use Rattle.spec_plan.specs.Call.{plan_next, plan_records}
use Rattle.spec_plan.specs.Runs.{Call, OfBytes, planner_after, listed}
use Rattle.spec_plan.proofs.Trace.{Each, each-before, each_at, channel_by, now_by, Placed}
use Rattle.spec_plan.proofs.CallLaws.{Made, InTime, each-in-time, called, call-made, call-in-time}
use Rattle.spec_plan.proofs.Legal.{Allowed, Run, call-tracks, run_call, run-made}

-- now before record j of the records that a call makes: "Now is the latest ROW or COL instant", and before the first packet of
-- the call the planner's own
abbrev pub now_at : PlannerState → List Record → ℕ → ℕ
now_at p made j = now_by p.now.0 (earlier made j)

-- the records before record j of a call are those of the call before it, and the list that stood
pub earlier-join : (l made : List Record) (j : ℕ) → earlier (l ++ made) (length l + j) ≡ earlier made j ++ reverse l
earlier-join l made j = ap reverse (take-append-add l made j) ∙ reverse-append l (take j made)

-- the list after one call more
pub listed-last : (cx : Context) (p : PlannerState) (calls : List Call) (c : Call)
    → listed cx p (calls ++ (c ∷ [])) ≡ listed cx p calls ++ plan_records cx (planner_after cx p calls) c.request c.room
unfolding listed planner_after
listed-last cx p [] c = append-nil _
listed-last cx p (b ∷ calls) c =
    ap (λ (l : List Record). plan_records cx p b.request b.room ++ l) (listed-last cx (plan_next cx p b.request b.room) calls c)
    ∙ sym (append_assoc (plan_records cx p b.request b.room) _ _)

-- after any calls each packet of a call breaks no rule, and at each instant from now to before its own it breaks one, under any mask
abbrev pub PlacedLeast : Context → Type 0
PlacedLeast cx =
    (calls : List Call) → OfBytes calls → (c : Call) → Bytes c.request →
    let p : PlannerState = planner_after cx fresh_planner calls in
    let l : List Record = listed cx fresh_planner calls in
    let made : List Record = plan_records cx p c.request c.room in
    (j : ℕ) → j < length made → is_packet (record_in made j) ≡ true
    → (lowest_rule cx (earlier (l ++ made) (length l + j)) (record_in made j) ≡ 0)
    × ((t m : ℕ) → now_at p made j ≤ t → lowest_rule cx (earlier (l ++ made) (length l + j)) (placed_at t (under m (record_in made j))) ≡ 0 → instant (record_in made j) ≤ t)

module _ (cx : Context) (ns : Neighbours cx) where
  -- after the list l that planner p made
  module _ (l : List Record) (p : PlannerState) (k : Run cx l p) (request : List ℕ) (w : Bytes request) (room : ℕ) where
    call-least : (j : ℕ) → j < length (plan_records cx p request room) →
        let made : List Record = plan_records cx p request room in
        let before : List Record = earlier (l ++ made) (length l + j) in
        is_packet (record_in made j) ≡ true
        → (lowest_rule cx before (record_in made j) ≡ 0)
        × ((t m : ℕ) → now_at p made j ≤ t → lowest_rule cx before (placed_at t (under m (record_in made j))) ≡ 0 → instant (record_in made j) ≤ t)
    call-least j m packet =
        let made : List Record = plan_records cx p request room in
        let es : List Record = earlier made j in
        let r : Record = record_in made j in
        let ch : Channel = channel_by cx p.channel es in
        let all : Made cx p (called cx p request room) = call-made cx p request room ns w k.rest in
        let timely : Each (InTime cx p.channel) (reverse made) = each-in-time cx p.channel made (call-in-time cx p request room) in
        let here : Placed cx p es r = each_at (Placed cx p) made all.each j m in
        let tracks : Tracks cx ch (es ++ reverse l) = (call-tracks cx ns p (reverse l) k.tracks k.each es (each-before (Placed cx p) made all.each j (omega arith)) (each-before (InTime cx p.channel) made timely j (omega arith))).0 in
        let fine : Allowed cx (earlier (l ++ made) (length l + j)) (record_in (l ++ made) (length l + j)) =
        each_at (Allowed cx) (l ++ made) (run_call cx ns l p k request w room).each (length l + j) (rw (length-append l made) (omega arith)) in
        let same : record_in (l ++ made) (length l + j) ≡ r = get_or-append-add l made j _ in (
          rw same at fine.1,
          λ t m late e. rw (here.least packet) (slot-least cx ns ch (es ++ reverse l) tracks r packet (now_at p made j) t m (rw (earlier-join l made j) at e) late),
        )

  pub placed-least : PlacedLeast cx
  placed-least calls b c w =
      call-least (listed cx fresh_planner calls) (planner_after cx fresh_planner calls) (run-made cx ns calls b) c.request w c.room

-- under each core form
pub placed-least-core : (s : Settings) → PlacedLeast (context_of s)
placed-least-core s = placed-least (context_of s) (core-neighbours s)

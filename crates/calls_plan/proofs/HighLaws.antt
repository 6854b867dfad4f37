-- How far the stored instants of a planner's bytes rise by a plan call that is accepted.
-- Assumes nothing.
use Rattle.std.specs.Prelude.{Err, Ok, Result}
use Prim.Native.Nat.{ℕ, ◌+◌, ◌/◌, ◌≤◌, max}
use mathlib.Core.Path.{◌≡◌, refl, sym, ap, ◌∙◌}
use mathlib.Core.Bool.{Bool, true, false, cond}
use mathlib.Core.List.{List}
use lib.Dec.{leb}
use lib.ListN.{length}
use Rattle.num.specs.Bytes.{Bytes}
use Rattle.settings.specs.declared.Settings.{Settings}
use Rattle.settings.specs.Settings.{valid}
use Rattle.record.specs.declared.Request.{Request}
use Rattle.record.specs.declared.Refusal.{Refusal}
use Rattle.record.specs.declared.Refusal.TheVariants as refusal
use Rattle.record.specs.Request.{request_read}
use Rattle.record.proofs.RefusalLaws.{refused-number}
use Rattle.record.proofs.RequestLaws.{InRange, accepted-range}
use Rattle.spec_rules.specs.Neighbour.{context_of}
use Rattle.spec_rules.proofs.Bools.{and_left}
use Rattle.spec_state.specs.Valid.{channel_valid}
use Rattle.spec_state.proofs.RoundTrip.{valid-kept}
use Rattle.spec_plan.specs.declared.PlannerState.{PlannerState}
use Rattle.spec_plan.specs.Planner.{planner_valid}
use Rattle.spec_plan.specs.PlannerBytes.{planner_bytes, planner_in, planner_right}
use Rattle.spec_plan.specs.Plan.{Draft, planned}
use Rattle.spec_plan.specs.Call.{timely, outcome_of, unretired, outcome_by, draft_by}
use Rattle.spec_plan.specs.Looked.{looked_by}
use Rattle.spec_plan.proofs.Invariant.{valid-inv, valid-plain}
use Rattle.spec_plan.proofs.PlannerRoundTrip.{planner-decode-encode}
use Rattle.plan_bytes.specs.Form.Numbers.{word, Below}
use Rattle.plan_bytes.specs.Form.Drawn.{Ready, Rested}
use Rattle.plan_in_place.proofs.Risen.{rises}
use Rattle.spec_calls.specs.Plans.{plan_answer, PlanResult, plan_under}
use Rattle.calls_plan.specs.Form.Served.{served_by, served}
use Rattle.calls_plan.proofs.CallLaws.{by-request}

-- the bytes of a planner that is not refused
pub rested-bytes : (s : Settings) → valid s ≡ true → (q : PlannerState) → planner_valid (context_of s) q ≡ true → (b : List ℕ) → b ≡ planner_bytes q → (top : ℕ) → Below top b → Rested s top b
unfolding Rested Ready context_of planner_valid
rested-bytes s v q k b e top t =
    let back : planner_in b ≡ q = ap planner_in e ∙ planner-decode-encode (context_of s) v q k in
    record {
      ready = record {
        figures = v;
        exact = ap planner_bytes back ∙ sym e;
        inv = rw back (valid-inv (context_of s) q k);
        instants = rw back (valid-kept (context_of s) q.channel (and_left (channel_valid (context_of s) q.channel) _ k)).instants;
        below = t;
      };
      plain = rw back (valid-plain (context_of s) q k);
    }

module _ (s : Settings) (planner room : List ℕ) (top : ℕ) (k : Rested s top planner) (l : top ≤ 999990000) where
  -- what is claimed of a result
  abbrev Rises : PlanResult → Type 0
  Rises x = x.answer.number ≡ 0 → Below (max (top + 9700) (word x.planner 752)) x.planner

  -- of what a request says, where it is in range
  said-rises : (x : Result Request Refusal) → ((q : Request) → x ≡ Ok q → InRange s q) → Rises (served (context_of s) planner x room)
  unfolding served outcome_by outcome_of draft_by plan_answer
  said-rises (Err why) i = λ n. absurd (refused-number why n)
  said-rises (Ok q) i = go (unretired q (planner_in planner)) (timely (context_of s) (planner_in planner) d) (leb (length d.records) (length room / 32)) refl
    where
      d : Draft
      d = planned (context_of s) q (planner_in planner)

      banks : ℕ
      banks = looked_by (planner_in planner) (Ok q)

      go : (u t f : Bool) → timely (context_of s) (planner_in planner) d ≡ t
          → Rises (served_by (context_of s) planner banks d room (cond u (Err refusal.Unretired) (cond t (cond f (Ok (length d.records)) (Err refusal.Full)) (Err refusal.Horizon))))
      go true t f e n = absurd (refused-number refusal.Unretired n)
      go false true true e n = rises s top planner k l q (i q refl) e (planner_bytes d.planner) refl
      go false true false e n = absurd (refused-number refusal.Full n)
      go false false f e n = absurd (refused-number refusal.Horizon n)

  pub call-rises : planner_right (context_of s) planner ≡ true → (request : List ℕ) → Bytes request → Rises (plan_under planner request room s)
  call-rises r request w = rw (by-request s planner request room r) (said-rises (request_read s request) (λ q e. accepted-range s request q w e))

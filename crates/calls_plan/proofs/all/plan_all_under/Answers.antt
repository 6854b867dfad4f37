-- `calls_plan::all::plan_all_under` meets its contract: refusal 1 or 13, or the requests in turn.
use Prim.Native.Nat.{◌%◌}
use mathlib.Core.Path.{◌≡◌, refl, sym, ◌∙◌}
use mathlib.Core.Logic.{◌≢◌}
use lib.ListN.{length}
use native.Mathlib.Omega.{arith}
use borrow.Author.Tests.{eq-eqb, ne_eqb}
use Rattle.state_bytes.proofs.RightLaws.{planner-length-wrong}
use Rattle.spec_calls.specs.PlanAll.{plan_all_under}
use Rattle.calls_plan.proofs.all.plan_all_under.Goals as goal

pub returns-in_default : goal.returns-in_default
unfolding plan_all_under
returns-in_default c =
    let e = planner-length-wrong c.args.s c.args.planner.now c.in_default.ensures.cases in
    record { value = rw e c.none_planned.ensures; planner_after = rw e refl; room_after = rw e refl }

pub returns-then-not-planner_right : goal.returns-then-not-planner_right
unfolding plan_all_under
returns-then-not-planner_right c =
    let e = sym (rw c.in-Some.ensures.cases.same at c.planner_right.ensures) ∙ c.if-not-planner_right.true in
    record { value = rw e c.none_planned-then-not-planner_right.ensures; planner_after = rw (c.in-Some.ensures.cases.same, e) refl; room_after = rw e refl }

pub returns-then-requests-ne0 : goal.returns-then-requests-ne0
unfolding plan_all_under
returns-then-requests-ne0 c =
    let n = length c.args.requests.now in
    let broken : n % 24 ≢ 0 = λ z. omega (arith, c.if-requests-ne0.true) in
    let same = c.in-Some.ensures.cases.same in
    let e = sym (rw same at c.planner_right.ensures) ∙ c.if-not-planner_right.false in
    record {
      value = rw (e, ne_eqb (n % 24) 0 broken) c.none_planned-then-requests-ne0.ensures;
      planner_after = rw (same, e, ne_eqb (n % 24) 0 broken) refl;
      room_after = rw (e, ne_eqb (n % 24) 0 broken) refl;
    }

pub returns : goal.returns
unfolding plan_all_under
returns c =
    let n = length c.args.requests.now in
    let whole : n % 24 ≡ 0 = omega (arith, c.if-requests-ne0.false) in
    let same = c.in-Some.ensures.cases.same in
    let e = sym (rw same at c.planner_right.ensures) ∙ c.if-not-planner_right.false in
    record {
      value = rw (e, eq-eqb (n % 24) 0 whole) (rw same at c.plan_each.ensures.value);
      planner_after = rw (e, eq-eqb (n % 24) 0 whole) (rw same at c.plan_each.ensures.planner_after);
      room_after = rw (e, eq-eqb (n % 24) 0 whole) (rw same at c.plan_each.ensures.room_after);
    }

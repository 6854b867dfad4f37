-- `calls_plan::plan_under` meets its contract: refusal 1, or what the request says.
use mathlib.Core.Path.{sym, ◌∙◌}
use Rattle.state_bytes.proofs.RightLaws.{planner-length-wrong}
use Rattle.plan_bytes.proofs.calm.CalmLaws.{calm-below}
use Rattle.calls_plan.proofs.CallLaws.{turned-back}
use Rattle.calls_plan.proofs.plan_under.Goals as goal

pub returns-in_default : goal.returns-in_default
returns-in_default c =
    let a = c.args in
    let all = turned-back a.s a.planner.now a.request.now a.room.now (planner-length-wrong a.s a.planner.now c.in_default.ensures.cases) _ c.answer.ensures in
    record {
      value = all.0;
      planner_after = all.1.0;
      room_after = all.1.1;
    }

pub returns-then-not-right : goal.returns-then-not-right
returns-then-not-right c =
    let a = c.args in
    let all = turned-back a.s a.planner.now a.request.now a.room.now (sym (rw c.in-Some.ensures.cases.same at c.right.ensures) ∙ c.if-not-right.true) _ c.answer-then-not-right.ensures in
    record {
      value = all.0;
      planner_after = rw c.in-Some.ensures.cases.same all.1.0;
      room_after = all.1.1;
    }

pub asked-requires : goal.asked-requires
asked-requires c =
    record {
      s_value = c.requires;
      planner_value = sym c.right.ensures ∙ c.if-not-right.false;
      below = λ e. calm-below _ (sym c.calm-quick.ensures ∙ e);
    }

-- `plan_by_value::Planner::plan` meets its contract: refusal 1, or the answer to what the bytes say.
use mathlib.Core.Path.{refl, sym, ◌∙◌}
use Rattle.settings.specs.Settings.{valid}
use Rattle.spec_rules.proofs.Bools.{and_left, and_right}
use Rattle.spec_plan.specs.Call.{plan_outcome, plan_next, plan_records, plan_room}
use Rattle.spec_rules.specs.Neighbour.{context_of}
use Rattle.plan_by_value.specs.Call.{planning}
use Rattle.plan_by_value.proofs.Planner.plan.Goals as goal

pub answered-requires : goal.answered-requires
answered-requires c =
    let h = sym c.allowed.ensures ∙ c.if-allowed.true in
    (and_left (valid c.args.s) _ h, and_right (valid c.args.s) _ h)

pub returns-then-allowed : goal.returns-then-allowed
unfolding planning plan_outcome plan_next plan_records plan_room context_of
returns-then-allowed c =
    let yes = sym c.allowed.ensures ∙ c.if-allowed.true in
    record {
      outcome_value = rw yes (rw c.read_request.ensures at c.answered.ensures.outcome_value);
      state_value = rw yes (rw c.read_request.ensures at c.answered.ensures.state_value);
      room_after = rw yes (rw c.read_request.ensures at c.answered.ensures.room_after);
    }

pub returns : goal.returns
unfolding planning
returns c =
    record {
      outcome_value = rw (sym c.allowed.ensures ∙ c.if-allowed.false) c.refused.ensures.0;
      state_value = rw (sym c.allowed.ensures ∙ c.if-allowed.false) c.refused.ensures.1;
      room_after = rw (sym c.allowed.ensures ∙ c.if-allowed.false) refl;
    }

-- `plan_by_value::answers::answered` meets its contract: by what the bytes say.
use mathlib.Core.Path.{sym, ◌∙◌, ap}
use lib.ListN.{length}
use Rattle.spec_rules.specs.Neighbour.{context_of}
use Rattle.spec_plan.specs.Call.{outcome_by}
use Rattle.plan_by_value.proofs.AnswerLaws.{refused-keeps}
use Rattle.plan_by_value.proofs.answers.answered.Goals as goal

pub returns-in-Err : goal.returns-in-Err
unfolding outcome_by
returns-in-Err c =
    let a = ap (λ x. outcome_by (context_of c.args.s) c.args.p x (length c.args.room.now)) c.in-Err.is in
    let h = refused-keeps c.args.s c.args.p c.args.x _ c.args.room.now a in
    record {
      outcome_value = c.refused.ensures.0 ∙ sym a;
      state_value = c.refused.ensures.1 ∙ h.0;
      room_after = h.1;
    }

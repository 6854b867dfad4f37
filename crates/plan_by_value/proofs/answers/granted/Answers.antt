-- `plan_by_value::answers::granted` meets its contract: refused 15, or served.
use mathlib.Core.Path.{sym, ◌∙◌}
use lib.ListN.{length}
use Rattle.plan_by_value.proofs.AnswerLaws.{refused-keeps, unretired-is}
use Rattle.plan_by_value.proofs.answers.granted.Goals as goal

pub returns-then-unretired : goal.returns-then-unretired
returns-then-unretired c =
    let a = unretired-is c.args.s c.args.p c.args.q (length c.args.room.now) (sym c.unretired.ensures ∙ c.if-unretired.true) in
    let h = refused-keeps c.args.s c.args.p _ _ c.args.room.now a in
    record {
      outcome_value = c.refused.ensures.0 ∙ sym a;
      state_value = c.refused.ensures.1 ∙ h.0;
      room_after = h.1;
    }

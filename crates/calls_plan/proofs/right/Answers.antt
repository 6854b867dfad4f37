-- `calls_plan::right` meets its contract: of a calm state the range of the instants is known.
use mathlib.Core.Path.{sym, ◌∙◌}
use Rattle.calls_plan.proofs.CallLaws.{calm-stored}
use Rattle.calls_plan.proofs.right.Goals as goal

pub planner_rest_right-requires : goal.planner_rest_right-requires
planner_rest_right-requires c =
    record {
      b_value = calm-stored c.args.b.now (sym c.requires.quick_value ∙ c.if-quick.true);
    }

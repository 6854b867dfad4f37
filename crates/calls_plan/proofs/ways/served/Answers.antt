-- `calls_plan::ways::served` meets its contract: one of the two ways.
use borrow.Author.Tests.{leb-true}
use Rattle.spec_rules.proofs.Bools.{and_left, and_right}
use Rattle.calls_plan.proofs.ways.served.Goals as goal

pub on_lent-requires : goal.on_lent-requires
on_lent-requires c =
    let test = c.if-quick-room.true in
    record {
      s_value = c.requires.s_value;
      planner_value = c.requires.planner_value;
      below = c.requires.below (and_left c.args.quick _ test);
      granted = c.requires.granted;
      in_bounds = leb-true 1024 _ (and_right c.args.quick _ test);
    }

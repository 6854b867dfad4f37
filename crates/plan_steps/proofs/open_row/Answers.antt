-- `plan_steps::open_row` meets its contract.
use native.Mathlib.Omega.{arith}
use Rattle.packet.specs.declared.RowPacket.TheVariants.{Act}
use Rattle.spec_rules.specs.Neighbour.{context_of}
use Rattle.spec_plan.specs.Plan.{row_packet, sent}
use Rattle.spec_plan.specs.PlannerBytes.{planner_in}
use Rattle.plan_bytes.proofs.ReadyLaws.{ready}
use Rattle.plan_bytes.proofs.Again.{ready-more}
use Rattle.plan_bytes.proofs.Compose.{sent-blind}
use Rattle.plan_bytes.proofs.Compose.{one-sent}
use Rattle.plan_steps.proofs.Stepwise.{cleared-first, cleared-after, cleared-fits, cleared-drawn}
use Rattle.plan_steps.proofs.open_row.Goals as goal

pub close_near-to-requires : goal.close_near-to-requires
close_near-to-requires c =
    let r = row_packet (Act c.args.bank c.args.row) in
    record {
      rested = c.requires.rested;
      x_bound = c.requires.bank_bound;
      fits = cleared-first _ _ _ c.requires.rested (omega arith) c.args.bank (sent (context_of c.args.s) r) (sent-blind (context_of c.args.s) r) c.args.room.now c.requires.fits;
    }

pub act-requires : goal.act-requires
act-requires c =
    let cx = context_of c.args.s in
    let r = row_packet (Act c.args.bank c.args.row) in
    let w = c.close_near-to.ensures in
    let a = cleared-after _ _ _ c.requires.rested (omega arith) c.args.bank _ w.planner in
    let f = cleared-fits _ _ _ c.requires.rested (omega arith) c.args.bank (sent cx r) (sent-blind cx r) _ c.requires.fits _ _ _ w in
    record {
      ready = ready-more _ 1000011000 1000012000 _ (omega arith) (ready _ _ _ a.ready);
      bank_bound = c.requires.bank_bound;
      to_in_bounds = omega (arith, f, one-sent cx r (planner_in c.close_near-to.new.b));
    }

pub returns : goal.returns
returns c =
    let cx = context_of c.args.s in
    let r = row_packet (Act c.args.bank c.args.row) in
    cleared-drawn _ _ _ c.requires.rested (omega arith) c.args.bank (sent cx r) (sent-blind cx r) _ c.requires.fits _ _ _ c.close_near-to.ensures _ _ _ c.act.ensures

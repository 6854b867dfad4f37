-- `plan_in_place::requests::read` meets its contract.
use mathlib.Core.Bool.{true, false}
use Rattle.plan_in_place.proofs.Planned.{reached-after, flush-fits, read-after, read-open, read-room, read-drawn}
use Rattle.plan_in_place.proofs.requests.read.Goals as goal

pub flush_closing-next-requires : goal.flush_closing-next-requires
flush_closing-next-requires c =
    let r = c.requires in
    let a = c.args in
    let w = c.reach-to.ensures in
    record {
      rested = (reached-after _ _ r.rested a.room.now r.in_bounds a.at r.in_place _ w.planner).ready;
      fits = flush-fits _ _ r.rested _ r.in_bounds a.at r.in_place true _ _ _ w;
    }

pub rda-requires : goal.rda-requires
rda-requires c =
    let r = c.requires in
    let i = r.in_place in
    let w = c.reach-to.ensures in
    let v = c.flush_closing-next.ensures in
    record {
      ready = read-after _ _ r.rested _ r.in_bounds c.args.at i true _ _ _ w _ _ _ v;
      bank_bound = i.0;
      open_at = read-open _ _ r.rested _ r.in_bounds c.args.at i true _ _ _ w _ _ _ v;
      to_in_bounds = read-room _ _ r.rested _ r.in_bounds c.args.at i true _ _ _ w _ _ _ v;
    }

pub returns-then-close : goal.returns-then-close
returns-then-close c =
    let r = c.requires in
    rw c.if-close.true (read-drawn _ _ r.rested _ r.in_bounds c.args.at r.in_place true _ _ _ c.reach-to.ensures _ _ _ c.flush_closing-next.ensures _ _ _ c.rda.ensures)

pub flush_delaying-next-requires : goal.flush_delaying-next-requires
flush_delaying-next-requires c =
    let r = c.requires in
    let a = c.args in
    let w = c.reach-to.ensures in
    record {
      rested = (reached-after _ _ r.rested a.room.now r.in_bounds a.at r.in_place _ w.planner).ready;
      fits = flush-fits _ _ r.rested _ r.in_bounds a.at r.in_place false _ _ _ w;
    }

pub rd-requires : goal.rd-requires
rd-requires c =
    let r = c.requires in
    let i = r.in_place in
    let w = c.reach-to.ensures in
    let v = c.flush_delaying-next.ensures in
    record {
      ready = read-after _ _ r.rested _ r.in_bounds c.args.at i false _ _ _ w _ _ _ v;
      bank_bound = i.0;
      to_in_bounds = read-room _ _ r.rested _ r.in_bounds c.args.at i false _ _ _ w _ _ _ v;
    }

pub returns : goal.returns
returns c =
    let r = c.requires in
    rw c.if-close.false (read-drawn _ _ r.rested _ r.in_bounds c.args.at r.in_place false _ _ _ c.reach-to.ensures _ _ _ c.flush_delaying-next.ensures _ _ _ c.rd.ensures)

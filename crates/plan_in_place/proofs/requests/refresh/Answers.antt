-- `plan_in_place::requests::refresh` meets its contract.
use native.Mathlib.Omega.{arith}
use Rattle.plan_bytes.proofs.ReadyLaws.{ready}
use Rattle.plan_steps.proofs.Stepwise.{cleared-after, cleared-shut}
use Rattle.plan_in_place.proofs.Planned.{bank-in, refresh-first, refresh-room, refresh-drawn}
use Rattle.plan_in_place.proofs.requests.refresh.Goals as goal

pub close_near-to-requires : goal.close_near-to-requires
close_near-to-requires c =
    let e = c.u16_at-bank.ensures.0 in
    record {
      rested = c.requires.rested;
      x_bound = rw e (bank-in _ _ c.requires.rested c.args.room.now c.requires.in_bounds);
      fits = rw e (refresh-first _ _ c.requires.rested c.args.room.now c.requires.in_bounds);
    }

pub refresh_bank-next-requires : goal.refresh_bank-next-requires
refresh_bank-next-requires c =
    let e = c.u16_at-bank.ensures.0 in
    let w = rw e at c.close_near-to.ensures in
    let a = cleared-after _ _ _ c.requires.rested (omega arith) _ _ w.planner in
    record {
      ready = ready _ _ _ a.ready;
      bank_bound = rw e (bank-in _ _ c.requires.rested c.args.room.now c.requires.in_bounds);
      near_shut = rw e (cleared-shut _ _ _ c.requires.rested (omega arith) _ _ a.back);
      to_in_bounds = refresh-room _ _ c.requires.rested _ c.requires.in_bounds _ _ _ w;
    }

pub returns : goal.returns
returns c =
    let e = c.u16_at-bank.ensures.0 in
    refresh-drawn _ _ c.requires.rested _ c.requires.in_bounds _ _ _ (rw e at c.close_near-to.ensures) _ _ _ (rw e at c.refresh_bank-next.ensures) _ (rw (c.from.ensures, e) at c.put_u16.ensures)

-- `plan_packets::rows::refresh_bank` meets its contract.
use mathlib.Core.Path.{refl}
use native.Mathlib.Omega.{arith}
use Rattle.plan_bytes.proofs.Again.{ready-more}
use Rattle.plan_packets.proofs.rows.Refreshed.{mid-fits, refreshed-fits, refreshed-room, refreshed-drawn}
use Rattle.plan_packets.proofs.rows.refresh_bank.Goals as goal

pub refa-next-requires : goal.refa-next-requires
refa-next-requires c =
    record {
      ready = ready-more _ 1000011000 1000012000 _ (omega arith) c.requires.ready;
      bank_bound = c.requires.bank_bound;
      to_in_bounds = omega (arith, c.requires.to_in_bounds);
    }

pub close-requires : goal.close-requires
close-requires c =
    let l = c.requires.bank_bound in
    let w = c.refa-next.ensures in
    record {
      x_bound = l;
      at_bound = mid-fits _ _ _ c.requires.ready (omega arith) _ l c.requires.near_shut _ w.planner;
      to_in_bounds = (refreshed-room _ _ _ c.requires.ready (omega arith) _ l c.requires.near_shut _ _ _ _ _ w c.requires.to_in_bounds).1;
    }

pub overflow_add-result : goal.overflow_add-result
overflow_add-result c = omega (arith, (refreshed-room _ _ _ c.requires.ready (omega arith) _ c.requires.bank_bound c.requires.near_shut _ _ _ _ _ c.refa-next.ensures c.requires.to_in_bounds).0, c.requires.to_in_bounds, c.well_formed.1.1.1.0.0)

pub returns : goal.returns
returns c =
    let l = c.requires.bank_bound in
    let f = refreshed-fits _ _ _ c.requires.ready (omega arith) _ l c.requires.near_shut c.args.room.now c.args.to c.requires.to_in_bounds in
    refreshed-drawn _ _ _ c.requires.ready (omega arith) _ l c.requires.near_shut _ _ _ _ _ c.refa-next.ensures f _ _ _ refl c.close.ensures.b_after (rw c.row_word.ensures at c.close.ensures.room_after)

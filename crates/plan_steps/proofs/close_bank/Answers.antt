-- `plan_steps::close_bank` meets its contract.
use native.Mathlib.Omega.{arith}
use Rattle.plan_bytes.proofs.ReadyLaws.{ready}
use Rattle.plan_steps.proofs.Stepwise.{close-first, saved_after, saved-open, close-room, close-drawn}
use Rattle.plan_steps.proofs.close_bank.Goals as goal

pub flush_losing-next-requires : goal.flush_losing-next-requires
flush_losing-next-requires c =
    record {
      rested = c.requires.rested;
      bank_bound = c.requires.x_bound;
      open_at = c.requires.open_at;
      fits = close-first _ _ _ c.requires.rested (omega arith) c.args.x c.requires.x_bound c.args.room.now c.args.to c.requires.fits;
    }

pub prer-requires : goal.prer-requires
prer-requires c =
    let l = c.requires.x_bound in
    let w = c.flush_losing-next.ensures in
    let a = saved_after _ _ _ c.requires.rested (omega arith) c.args.x l _ w.planner in
    record {
      ready = ready _ _ _ a.ready;
      x_bound = l;
      open_at = saved-open _ _ _ c.requires.rested (omega arith) c.args.x l _ a.back c.requires.open_at;
      to_in_bounds = close-room _ _ _ c.requires.rested (omega arith) c.args.x l _ _ c.requires.fits _ _ _ w;
    }

pub returns : goal.returns
returns c = close-drawn _ _ _ c.requires.rested (omega arith) c.args.x c.requires.x_bound _ _ c.requires.fits _ _ _ c.flush_losing-next.ensures _ _ _ c.prer.ensures

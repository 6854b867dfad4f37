-- `plan_steps::close_near` meets its contract.
use native.Mathlib.Omega.{arith}
use Rattle.plan_bytes.specs.Form.Drawn.{drafted}
use Rattle.plan_bytes.proofs.Again.{rested-more}
use Rattle.plan_steps.proofs.Ranges.{first-last, near-range}
use Rattle.plan_steps.proofs.close_near.Goals as goal

pub close_from-requires : goal.close_from-requires
close_from-requires c =
    let first = c.first_near-first.ensures in
    let last = c.last_near-end.ensures in
    let e = near-range c.args.s c.args.x c.requires.x_bound (drafted c.args.b.now) _ _ first.0 last.0 in
    record {
      rested = rested-more _ 999999997 1000001000 _ (omega arith) c.requires.rested;
      first_le_end = omega (arith, first-last c.args.s c.args.x, first.0, last.0);
      end_bound = omega (arith, last.1);
      fits = rw e c.requires.fits;
    }

pub returns : goal.returns
returns c =
    let first = c.first_near-first.ensures in
    let last = c.last_near-end.ensures in
    rw (near-range c.args.s c.args.x c.requires.x_bound (drafted c.args.b.now) _ _ first.0 last.0) at c.close_from.ensures

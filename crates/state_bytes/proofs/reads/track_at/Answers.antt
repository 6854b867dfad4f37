-- `state_bytes::reads::track_at` meets its contract: each number is the one read.
use native.Mathlib.Omega.{arith}
use Rattle.spec_state.specs.ChannelBytes.{track_in}
use Rattle.state_bytes.proofs.RangeLaws.{bank-in-range}
use Rattle.state_bytes.proofs.reads.track_at.Goals as goal

pub instant_at-requires : goal.instant_at-requires
instant_at-requires c =
    record {
      at_in_bounds = omega (arith, bank-in-range c.args.b.now c.requires.in_range c.args.x c.requires.x_bound);
      at_bound = omega (arith, bank-in-range c.args.b.now c.requires.in_range c.args.x c.requires.x_bound);
    }

pub instant_at-requires-2 : goal.instant_at-requires-2
instant_at-requires-2 c =
    record {
      at_in_bounds = omega (arith, bank-in-range c.args.b.now c.requires.in_range c.args.x c.requires.x_bound);
      at_bound = omega (arith, bank-in-range c.args.b.now c.requires.in_range c.args.x c.requires.x_bound);
    }

pub instant_at-requires-3 : goal.instant_at-requires-3
instant_at-requires-3 c =
    record {
      at_in_bounds = omega (arith, bank-in-range c.args.b.now c.requires.in_range c.args.x c.requires.x_bound);
      at_bound = omega (arith, bank-in-range c.args.b.now c.requires.in_range c.args.x c.requires.x_bound);
    }

pub instant_at-requires-4 : goal.instant_at-requires-4
instant_at-requires-4 c =
    record {
      at_in_bounds = omega (arith, bank-in-range c.args.b.now c.requires.in_range c.args.x c.requires.x_bound);
      at_bound = omega (arith, bank-in-range c.args.b.now c.requires.in_range c.args.x c.requires.x_bound);
    }

pub instant_at-requires-5 : goal.instant_at-requires-5
instant_at-requires-5 c =
    record {
      at_in_bounds = omega (arith, bank-in-range c.args.b.now c.requires.in_range c.args.x c.requires.x_bound);
      at_bound = omega (arith, bank-in-range c.args.b.now c.requires.in_range c.args.x c.requires.x_bound);
    }

pub returns : goal.returns
unfolding track_in
returns c =
    rw (
      c.instant_at-5.ensures,
      c.instant_at-4.ensures,
      c.instant_at-3.ensures,
      c.instant_at-2.ensures,
      c.instant_at.ensures,
      c.bank_of.ensures,
      c.u16_at.ensures.0,
    )

-- `state_bytes::reads::lasts_at` meets its contract: each instant is the one read.
use native.Mathlib.Omega.{arith}
use Rattle.spec_state.specs.ChannelBytes.{lasts_in}
use Rattle.state_bytes.proofs.RangeLaws.{lasts-in-range}
use Rattle.state_bytes.proofs.reads.lasts_at.Goals as goal

pub instant_at-requires : goal.instant_at-requires
instant_at-requires c =
    record {
      at_in_bounds = omega (arith, lasts-in-range c.args.b.now c.requires.in_range);
      at_bound = omega (arith, lasts-in-range c.args.b.now c.requires.in_range);
    }

pub instant_at-requires-2 : goal.instant_at-requires-2
instant_at-requires-2 c =
    record {
      at_in_bounds = omega (arith, lasts-in-range c.args.b.now c.requires.in_range);
      at_bound = omega (arith, lasts-in-range c.args.b.now c.requires.in_range);
    }

pub instant_at-requires-3 : goal.instant_at-requires-3
instant_at-requires-3 c =
    record {
      at_in_bounds = omega (arith, lasts-in-range c.args.b.now c.requires.in_range);
      at_bound = omega (arith, lasts-in-range c.args.b.now c.requires.in_range);
    }

pub instant_at-requires-4 : goal.instant_at-requires-4
instant_at-requires-4 c =
    record {
      at_in_bounds = omega (arith, lasts-in-range c.args.b.now c.requires.in_range);
      at_bound = omega (arith, lasts-in-range c.args.b.now c.requires.in_range);
    }

pub instant_at-requires-5 : goal.instant_at-requires-5
instant_at-requires-5 c =
    record {
      at_in_bounds = omega (arith, lasts-in-range c.args.b.now c.requires.in_range);
      at_bound = omega (arith, lasts-in-range c.args.b.now c.requires.in_range);
    }

pub instant_at-requires-6 : goal.instant_at-requires-6
instant_at-requires-6 c =
    record {
      at_in_bounds = omega (arith, lasts-in-range c.args.b.now c.requires.in_range);
      at_bound = omega (arith, lasts-in-range c.args.b.now c.requires.in_range);
    }

pub returns : goal.returns
unfolding lasts_in
returns c =
    rw (
      c.instant_at-6.ensures,
      c.instant_at-5.ensures,
      c.instant_at-4.ensures,
      c.instant_at-3.ensures,
      c.instant_at-2.ensures,
      c.instant_at.ensures,
    )

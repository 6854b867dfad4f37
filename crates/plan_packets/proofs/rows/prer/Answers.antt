-- `plan_packets::rows::prer` meets its contract.
use mathlib.Core.Path.{refl}
use native.Mathlib.Omega.{arith}
use Rattle.plan_packets.proofs.rows.Rows.{prer-says, prer-drawn}
use borrow.Author.Rules.{rules}
use Rattle.plan_packets.proofs.rows.prer.Goals as goal

pub close-requires : goal.close-requires
close-requires c =
    record {
      x_bound = search rules;
      at_bound = omega (arith, (prer-says _ _ _ c.requires.ready (omega arith) c.args.x c.requires.x_bound).fits);
      to_in_bounds = search rules;
    }

pub returns : goal.returns
returns c = prer-drawn _ _ _ c.requires.ready (omega arith) _ _ _ _ _ refl c.args.x c.requires.x_bound c.requires.open_at c.close.ensures.b_after (rw c.row_word.ensures at c.close.ensures.room_after)

-- `plan_packets::cols::nocop` meets its contract.
use mathlib.Core.Path.{refl}
use native.Mathlib.Omega.{arith}
use Rattle.plan_packets.specs.Form.ColSlots.{nocop_at}
use Rattle.plan_bytes.proofs.ReadyLaws.{device-in, held-bank}
use Rattle.plan_packets.proofs.cols.Cols.{nocop-says, nocop-drawn}
use borrow.Author.Rules.{rules}
use Rattle.plan_packets.proofs.cols.nocop.Goals as goal

pub retire_at-requires : goal.retire_at-requires
retire_at-requires c =
    record {
      b_bound = held-bank _ _ _ c.requires.ready c.requires.b_value;
    }

pub nocop_word-requires : goal.nocop_word-requires
nocop_word-requires c =
    record {
      device_bound = device-in _ _ _ c.requires.ready;
    }

pub put_packet-requires : goal.put_packet-requires
unfolding nocop_at
put_packet-requires c =
    record {
      at_in_bounds = search rules;
      stored_bound = rw (c.max-t.ensures, c.col_base.ensures, c.retire_at.ensures) (omega (arith, (nocop-says _ _ _ c.requires.ready (omega arith) c.requires.b_value c.requires.closes).fits));
      kind_bound = search rules;
    }

pub put_nocop-requires : goal.put_nocop-requires
put_nocop-requires c =
    record {
      b_bound = held-bank _ _ _ c.requires.ready c.requires.b_value;
    }

pub returns : goal.returns
unfolding nocop_at
returns c = nocop-drawn _ _ _ c.requires.ready (omega arith) _ _ _ _ _ refl c.requires.b_value c.requires.closes (rw (c.max-t.ensures, c.col_base.ensures, c.retire_at.ensures) at c.put_nocop.ensures) (rw (c.max-t.ensures, c.col_base.ensures, c.retire_at.ensures, c.nocop_word.ensures) at c.put_packet.ensures)

-- `plan_packets::cols::nocop_closing` meets its contract.
use mathlib.Core.Path.{refl}
use native.Mathlib.Omega.{arith}
use Rattle.settings.proofs.SettingsLaws.{bounds}
use Rattle.plan_bytes.proofs.ReadyLaws.{readies, device-in, held-bank}
use Rattle.plan_packets.proofs.cols.Cols.{closing-says, closing-drawn}
use borrow.Author.Rules.{rules}
use Rattle.plan_packets.proofs.cols.nocop_closing.Goals as goal

pub closing_at-t-requires : goal.closing_at-t-requires
closing_at-t-requires c =
    record {
      b_bound = held-bank _ _ _ c.requires.ready c.requires.b_value;
    }

pub nocop_word-requires : goal.nocop_word-requires
nocop_word-requires c =
    record {
      device_bound = device-in _ _ _ c.requires.ready;
    }

pub put_packet-requires : goal.put_packet-requires
put_packet-requires c =
    record {
      at_in_bounds = search rules;
      stored_bound = omega (arith, c.closing_at-t.ensures, (closing-says _ _ _ c.requires.ready (omega arith) c.requires.b_value c.requires.closes).fits);
      kind_bound = search rules;
    }

pub overflow_add-t : goal.overflow_add-t
overflow_add-t c =
    let t = bounds _ (readies _ _ _ c.requires.ready).figures in
    omega (arith, c.from.ensures, c.closing_at-t.ensures, (closing-says _ _ _ c.requires.ready (omega arith) c.requires.b_value c.requires.closes).fits, t.offp-most)

pub put_closing-requires : goal.put_closing-requires
put_closing-requires c =
    record {
      b_bound = held-bank _ _ _ c.requires.ready c.requires.b_value;
    }

pub returns : goal.returns
returns c =
    let e = c.closing_at-t.ensures in
    closing-drawn _ _ _ c.requires.ready (omega arith) _ _ _ _ _ refl c.requires.b_value c.requires.closes (rw (c.from.ensures, e) at c.put_closing.ensures) (rw (e, c.nocop_word.ensures) at c.put_packet.ensures)

-- `plan_packets::cols::rd` meets its contract.
use mathlib.Core.Path.{refl}
use native.Mathlib.Omega.{arith}
use Rattle.plan_bytes.proofs.ReadyLaws.{device-in}
use Rattle.plan_packets.proofs.cols.Cols.{rd-says, rd-drawn}
use borrow.Author.Rules.{rules}
use Rattle.plan_packets.proofs.cols.rd.Goals as goal

pub col_word-word-requires : goal.col_word-word-requires
col_word-word-requires c = device-in _ _ _ c.requires.ready

pub put_packet-requires : goal.put_packet-requires
put_packet-requires c =
    record {
      at_in_bounds = search rules;
      stored_bound = omega (arith, c.rd_at-t.ensures, (rd-says _ _ _ c.requires.ready (omega arith) c.args.bank c.args.column c.requires.bank_bound).fits);
      kind_bound = search rules;
    }

pub returns : goal.returns
returns c =
    let e = c.rd_at-t.ensures in
    rd-drawn _ _ _ c.requires.ready (omega arith) _ _ _ _ _ refl c.args.bank c.args.column c.requires.bank_bound (rw (c.store_rd.ensures, e) at c.put_now.ensures) (rw (e, c.col_word-word.ensures) at c.put_packet.ensures)

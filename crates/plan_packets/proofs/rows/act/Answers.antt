-- `plan_packets::rows::act` meets its contract.
use mathlib.Core.Path.{refl}
use native.Mathlib.Omega.{arith}
use Rattle.plan_packets.proofs.rows.Rows.{act-says, act-drawn}
use borrow.Author.Rules.{rules}
use Rattle.plan_packets.proofs.rows.act.Goals as goal

pub put_packet-requires : goal.put_packet-requires
put_packet-requires c =
    record {
      at_in_bounds = search rules;
      stored_bound = omega (arith, c.open_at-t.ensures, (act-says _ _ _ c.requires.ready (omega arith) c.args.bank c.args.row c.requires.bank_bound).fits);
      kind_bound = search rules;
    }

pub returns : goal.returns
returns c =
    let e = c.open_at-t.ensures in
    act-drawn _ _ _ c.requires.ready (omega arith) _ _ _ _ _ refl c.args.bank c.args.row c.requires.bank_bound (rw (c.store_act.ensures, e) at c.put_now.ensures) (rw (e, c.row_word-word.ensures) at c.put_packet.ensures)

-- `plan_packets::cols::rda` meets its contract.
use mathlib.Core.Path.{refl}
use native.Mathlib.Omega.{arith}
use Rattle.settings.proofs.SettingsLaws.{bounds}
use Rattle.plan_bytes.proofs.ReadyLaws.{readies, device-in}
use Rattle.plan_packets.proofs.cols.Cols.{rda-says, rda-drawn}
use borrow.Author.Rules.{rules}
use Rattle.plan_packets.proofs.cols.rda.Goals as goal

pub col_word-word-requires : goal.col_word-word-requires
col_word-word-requires c = device-in _ _ _ c.requires.ready

pub put_packet-requires : goal.put_packet-requires
put_packet-requires c =
    let a = c.args in
    record {
      at_in_bounds = search rules;
      stored_bound = omega (arith, c.rda_at-t.ensures, (rda-says _ _ _ c.requires.ready (omega arith) a.bank a.column c.requires.bank_bound).fits);
      kind_bound = search rules;
    }

pub overflow_add-t : goal.overflow_add-t
overflow_add-t c =
    let a = c.args in
    let t = bounds _ (readies _ _ _ c.requires.ready).figures in
    omega (arith, c.from.ensures, c.rda_at-t.ensures, (rda-says _ _ _ c.requires.ready (omega arith) a.bank a.column c.requires.bank_bound).fits, t.offp-most)

pub returns : goal.returns
returns c =
    let a = c.args in
    let e = c.rda_at-t.ensures in
    rda-drawn _ _ _ c.requires.ready (omega arith) _ _ _ _ _ refl a.bank a.column c.requires.bank_bound c.requires.open_at (rw (c.from.ensures, e) at c.put_rda.ensures) (rw (e, c.col_word-word.ensures) at c.put_packet.ensures)

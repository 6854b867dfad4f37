-- `plan_packets::cols::wr` meets its contract.
use mathlib.Core.Path.{refl}
use native.Mathlib.Omega.{arith}
use Rattle.settings.specs.Settings.{highs}
use Rattle.settings.proofs.SettingsLaws.{bounds, timing-range}
use Rattle.plan_bytes.proofs.ReadyLaws.{readies, device-in, ready}
use Rattle.plan_packets.proofs.cols.Cols.{placed-at, leaves-bank, wr-says, wr-drawn}
use borrow.Author.Rules.{rules}
use Rattle.plan_packets.proofs.cols.wr.Goals as goal

pub wr_base-v-requires : goal.wr_base-v-requires
unfolding highs
wr_base-v-requires c =
    let v = (readies _ _ _ (ready _ _ _ c.requires.rested)).figures in
    let t = bounds _ v in
    record {
      x_bound = c.requires.in_place.0;
      cwd_le_cac = omega arith;
      cac_bound = omega (arith, (timing-range _ v 9 (omega arith)).1);
    }

pub wr_from-t-requires : goal.wr_from-t-requires
wr_from-t-requires c =
    record {
      b_bound = leaves-bank _ _ _ c.requires.rested (omega arith) _ _ c.retires-leaves.ensures;
    }

pub col_word-word-requires : goal.col_word-word-requires
col_word-word-requires c = device-in _ _ _ (ready _ _ _ c.requires.rested)

pub put_packet-requires : goal.put_packet-requires
put_packet-requires c =
    let a = placed-at _ _ _ _ _ _ c.wr_base-v.ensures c.retires-leaves.ensures c.wr_from-t.ensures in
    record {
      at_in_bounds = search rules;
      stored_bound = omega (arith, a.0, (wr-says _ _ _ c.requires.rested (omega arith) c.args.at.bank c.args.at.column c.args.close c.requires.in_place.0).fits);
      kind_bound = search rules;
    }

pub overflow_add-to : goal.overflow_add-to
overflow_add-to c = omega (arith, c.requires.to_in_bounds, c.well_formed.1.1.1.1.1.1.0.0)

pub data_at-requires : goal.data_at-requires
data_at-requires c =
    let a = placed-at _ _ _ _ _ _ c.wr_base-v.ensures c.retires-leaves.ensures c.wr_from-t.ensures in
    let t = bounds _ (readies _ _ _ (ready _ _ _ c.requires.rested)).figures in
    omega (arith, a.0, (wr-says _ _ _ c.requires.rested (omega arith) c.args.at.bank c.args.at.column c.args.close c.requires.in_place.0).fits)

pub put_wr-requires : goal.put_wr-requires
put_wr-requires c =
    let a = placed-at _ _ _ _ _ _ c.wr_base-v.ensures c.retires-leaves.ensures c.wr_from-t.ensures in
    let t = bounds _ (readies _ _ _ (ready _ _ _ c.requires.rested)).figures in
    record {
      b_bound = leaves-bank _ _ _ c.requires.rested (omega arith) _ _ c.retires-leaves.ensures;
      bank_bound = omega (arith, c.requires.in_place.0);
      column_bound = omega (arith, c.requires.in_place.2);
      t_bound = omega (arith, a.0, (wr-says _ _ _ c.requires.rested (omega arith) c.args.at.bank c.args.at.column c.args.close c.requires.in_place.0).fits);
    }

pub overflow_add-result : goal.overflow_add-result
overflow_add-result c = omega (arith, c.requires.to_in_bounds, c.well_formed.1.1.1.1.1.1.0.0)

pub returns : goal.returns
returns c =
    let a = placed-at _ _ _ _ _ _ c.wr_base-v.ensures c.retires-leaves.ensures c.wr_from-t.ensures in
    wr-drawn _ _ _ c.requires.rested (omega arith) c.args.close c.args.at c.args.mask c.args.d c.requires.in_place.0 c.requires.in_place.2 _ _ _ _ _ _ _ refl (omega (arith, c.requires.to_in_bounds))
    (rw (a.1, a.0) at c.put_wr.ensures)
    (rw (a.0, c.col_word-word.ensures) at c.put_packet.ensures)
    (rw a.1 at c.carried-left.ensures.0)
    (rw (c.data_at.ensures, a.0) at c.put_data.ensures)

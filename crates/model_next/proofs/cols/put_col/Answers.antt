-- `model_next::cols::put_col` meets its contract: by the packet.
use native.Mathlib.Omega.{arith}
use Rattle.model_next.specs.Form.Next.{col_next}
use Rattle.model_next.proofs.FitLaws.{wr-in, rd-in}
use Rattle.model_next.proofs.cols.put_col.Goals as goal

pub put_wr-requires : goal.put_wr-requires
put_wr-requires c =
    let f = wr-in _ _ _ _ _ (rw c.in-Wr.is at c.requires.p_value) in
    record {
      held_in = c.requires.held_in;
      bank_bound = omega (arith, f.0);
      column_bound = f.1;
      t_bound = c.requires.t_bound;
    }

pub put_rd-requires : goal.put_rd-requires
put_rd-requires c =
    record {
      bank_bound = rd-in _ _ _ _ _ (rw c.in-Rd.is at c.requires.p_value);
      t_bound = c.requires.t_bound;
    }

pub returns-in-Nocop : goal.returns-in-Nocop
unfolding col_next
returns-in-Nocop c = rw c.in-Nocop.is c.put_nocop.ensures

pub returns-in-Wr : goal.returns-in-Wr
unfolding col_next
returns-in-Wr c = rw c.in-Wr.is c.put_wr.ensures

pub returns-in-Rd : goal.returns-in-Rd
unfolding col_next
returns-in-Rd c = rw c.in-Rd.is c.put_rd.ensures

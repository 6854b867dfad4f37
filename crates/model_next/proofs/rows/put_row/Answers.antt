-- `model_next::rows::put_row` meets its contract: by the packet.
use borrow.Author.Tests.{ltb-true}
use Rattle.packet.specs.Row.{row_fits}
use Rattle.model_next.specs.Form.Next.{row_next}
use Rattle.model_next.proofs.FitLaws.{act-in}
use borrow.Author.Rules.{rules}
use Rattle.model_next.proofs.rows.put_row.Goals as goal

pub store_act-requires : goal.store_act-requires
store_act-requires c =
    record {
      in_bounds = search rules;
      x_bound = act-in _ _ _ (rw c.in-Act.is at c.requires.p_value);
    }

pub store_prer-requires : goal.store_prer-requires
unfolding row_fits
store_prer-requires c =
    record {
      in_bounds = search rules;
      x_bound = ltb-true _ 32 (rw c.in-Prer.is at c.requires.p_value);
    }

pub put_refa-requires : goal.put_refa-requires
unfolding row_fits
put_refa-requires c =
    record {
      bank_bound = ltb-true _ 32 (rw c.in-Refa.is at c.requires.p_value);
      b_bound = c.requires.b_bound;
    }

pub store_prer-requires-in-Refp : goal.store_prer-requires-in-Refp
unfolding row_fits
store_prer-requires-in-Refp c =
    record {
      in_bounds = search rules;
      x_bound = ltb-true _ 32 (rw c.in-Refp.is at c.requires.p_value);
    }

pub returns-in-Act : goal.returns-in-Act
unfolding row_next
returns-in-Act c = rw c.in-Act.is c.store_act.ensures

pub returns-in-Prer : goal.returns-in-Prer
unfolding row_next
returns-in-Prer c = rw c.in-Prer.is c.store_prer.ensures

pub returns-in-Refa : goal.returns-in-Refa
unfolding row_next
returns-in-Refa c = rw c.in-Refa.is c.put_refa.ensures

pub returns-in-Refp : goal.returns-in-Refp
unfolding row_next
returns-in-Refp c = rw c.in-Refp.is c.store_prer-in-Refp.ensures

-- `model_next::put_next` meets its contract: by the kind of record.
use mathlib.Core.Path.{◌∙◌}
use native.Mathlib.Omega.{arith}
use Rattle.settings.proofs.SettingsLaws.{bounds}
use Rattle.record.specs.Record.{record_fits}
use Rattle.model_next.proofs.FitLaws.{fits_more}
use Rattle.model_next.proofs.TakenLaws.{row-late, col-late}
use Rattle.model_next.proofs.RightLaws.{refr-in, bank-in}
use Rattle.model_next.proofs.ModelLaws.{row_next_lem, col-next, data-next}
use Rattle.model_next.proofs.put_next.Goals as goal

pub overflow_sub-from : goal.overflow_sub-from
overflow_sub-from c = omega (arith, row-late _ _ _ _ (rw c.in-RowAt.is at c.requires.breaks_none))

pub put_row-requires : goal.put_row-requires
unfolding record_fits
put_row-requires c =
    record {
      p_value = rw c.in-RowAt.is at c.requires.r_value;
      b_bound = refr-in _ _ c.requires.b_value;
    }

pub overflow_sub-from-in-ColAt : goal.overflow_sub-from-in-ColAt
overflow_sub-from-in-ColAt c = omega (arith, col-late _ _ _ _ (rw c.in-ColAt.is at c.requires.breaks_none))

pub put_col-requires : goal.put_col-requires
unfolding record_fits
put_col-requires c =
    let f = rw c.in-ColAt.is at c.requires.r_value in
    record {
      held_in = bank-in _ _ c.requires.b_value;
      p_value = fits_more c.args.s.columns 256 _ (omega (arith, (bounds _ c.requires.s_value).columns-most)) f;
      t_bound = omega arith;
    }

pub returns-in-RowAt : goal.returns-in-RowAt
unfolding record_fits
returns-in-RowAt c =
    let e = c.in-RowAt.is in
    rw e (c.put_row.ensures
    ∙ rw c.from.ensures
    (row_next_lem _ _ c.requires.b_value c.requires.s_value (λ i l. omega arith) _ _ (rw e at c.requires.r_value) (rw e at c.requires.breaks_none)))

pub returns-in-ColAt : goal.returns-in-ColAt
unfolding record_fits
returns-in-ColAt c =
    let e = c.in-ColAt.is in
    rw e (c.put_col.ensures
    ∙ rw c.from-in-ColAt.ensures
    (col-next _ _ c.requires.b_value c.requires.s_value (λ i l. omega arith) _ _ (rw e at c.requires.r_value) (rw e at c.requires.breaks_none)))

pub returns-in-DataOf : goal.returns-in-DataOf
returns-in-DataOf c =
    let e = c.in-DataOf.is in
    rw e (c.put_data.ensures ∙ data-next _ _ c.requires.b_value c.requires.s_value (λ i l. omega arith) _ _ (rw e at c.requires.breaks_none))

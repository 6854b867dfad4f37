-- `chan_least::quick::passes` meets its contract: by the kind of the record.
use Rattle.chan_least.specs.Form.Quick.{record_well}
use Rattle.chan_least.proofs.quick.passes.Goals as goal

pub returns-in-RowAt : goal.returns-in-RowAt
unfolding record_well
returns-in-RowAt c = rw (c.row_well.ensures, c.comes_well.ensures, c.in-RowAt.is)

pub returns-in-ColAt : goal.returns-in-ColAt
unfolding record_well
returns-in-ColAt c = rw (c.col_well.ensures, c.retires.ensures, c.comes_well-in-ColAt.ensures, c.in-ColAt.is)

pub returns-in-DataOf : goal.returns-in-DataOf
unfolding record_well
returns-in-DataOf c = rw (c.data_rule.ensures, c.in-DataOf.is)

-- `model_store::touching::row_of` meets its contract: by the state of the bank.
use Rattle.spec_model.specs.Model.{open_row}
use Rattle.model_store.proofs.touching.row_of.Goals as goal

pub returns-in-Closed : goal.returns-in-Closed
unfolding open_row
returns-in-Closed c = rw c.in-Closed.is

pub returns-in-Open : goal.returns-in-Open
unfolding open_row
returns-in-Open c = rw c.in-Open.is

pub returns-in-Refresh : goal.returns-in-Refresh
unfolding open_row
returns-in-Refresh c = rw c.in-Refresh.is

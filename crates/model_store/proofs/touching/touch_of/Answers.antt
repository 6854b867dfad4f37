-- `model_store::touching::touch_of` meets its contract: by the kind of the record.
use Rattle.model_store.specs.Form.Touch.{touch_of}
use Rattle.model_store.proofs.touching.touch_of.Goals as goal

pub returns-in-RowAt : goal.returns-in-RowAt
unfolding touch_of
returns-in-RowAt c = rw c.in-RowAt.is

pub returns-in-ColAt : goal.returns-in-ColAt
unfolding touch_of
returns-in-ColAt c = rw c.in-ColAt.is c.col_touch.ensures

pub returns-in-DataOf : goal.returns-in-DataOf
unfolding touch_of
returns-in-DataOf c = rw c.in-DataOf.is

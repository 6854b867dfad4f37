-- `model_store::touching::place_of` meets its contract.
use Rattle.model_store.proofs.touching.place_of.Goals as goal

pub returns : goal.returns
returns c = rw c.row_of.ensures

-- `chan_view::banks::unused` meets its contract: each field is that of an idle bank.
use mathlib.Core.Path.{refl}
use Rattle.chan_view.proofs.banks.unused.Goals as goal

pub returns : goal.returns
returns c = refl

-- `chan_least::may_stay` meets its contract: the two rules.
use Rattle.chan_least.proofs.may_stay.Goals as goal

pub returns : goal.returns
returns c = rw c.stays.ensures

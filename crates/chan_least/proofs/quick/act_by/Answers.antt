-- `chan_least::quick::act_by_lem` meets its contract: the two bounds.
use Rattle.chan_least.proofs.quick.act_by.Goals as goal

pub returns : goal.returns
returns c = rw (c.max.ensures, c.after_gap-2.ensures, c.after_gap.ensures, c.latest_of-near.ensures)

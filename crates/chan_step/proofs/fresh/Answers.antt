-- `chan_step::fresh` meets its contract: every bank is idle.
use Rattle.spec_rules.specs.Neighbour.{bank_count}
use Rattle.spec_rules.specs.Channel.{fresh}
use Rattle.chan_step.proofs.fresh.Goals as goal

pub returns : goal.returns
unfolding fresh bank_count
returns c = rw (c.unused-banks.ensures, c.no_lasts.ensures)

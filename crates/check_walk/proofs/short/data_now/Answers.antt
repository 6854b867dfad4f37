-- `check_walk::short::data_now` meets its contract: the two callees.
use Rattle.check_walk.proofs.short.data_now.Goals as goal

pub returns : goal.returns
returns c = rw (c.data_rule.ensures, c.held_of.ensures)

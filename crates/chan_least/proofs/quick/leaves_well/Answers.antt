-- `chan_least::quick::leaves_well` meets its contract: each way out decides the test.
use Rattle.chan_least.specs.Form.Quick.{leaves_well}
use Rattle.chan_least.proofs.quick.leaves_well.Goals as goal

pub returns-then-out : goal.returns-then-out
unfolding leaves_well
returns-then-out c = rw (c.from.ensures, c.after_gap.ensures, c.is_open.ensures, c.if-out.true)

pub returns : goal.returns
unfolding leaves_well
returns c = rw c.if-out.false

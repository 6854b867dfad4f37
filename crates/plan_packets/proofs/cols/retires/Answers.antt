-- `plan_packets::cols::retires` meets its contract.
use Rattle.plan_packets.specs.Form.ColSlots.{retires_in}
use Rattle.plan_packets.proofs.cols.retires.Goals as goal

pub returns : goal.returns
unfolding retires_in
returns c = rw (c.two.ensures, c.waits.ensures, c.after.ensures)

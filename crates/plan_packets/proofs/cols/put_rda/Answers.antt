-- `plan_packets::cols::put_rda` meets its contract.
use Rattle.plan_packets.specs.Form.ColSlots.{rda_stored}
use Rattle.plan_packets.proofs.cols.put_rda.Goals as goal

pub returns : goal.returns
unfolding rda_stored
returns c = rw (c.put_now.ensures, c.store_implied.ensures, c.store_rd.ensures)

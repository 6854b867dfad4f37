-- `col_fits` meets its contract: each arm is the tests of the definition.
use Rattle.packet.specs.Col.{col_fits}
use Rattle.packet.proofs.col.col_fits.Goals as goal

pub returns-in-Nocop : goal.returns-in-Nocop
unfolding col_fits
returns-in-Nocop c = rw c.in-Nocop.is

pub returns-in-Wr : goal.returns-in-Wr
unfolding col_fits
returns-in-Wr c = rw c.in-Wr.is c.access_fits.ensures

pub returns-in-Rd : goal.returns-in-Rd
unfolding col_fits
returns-in-Rd c = rw c.in-Rd.is c.access_fits-in-Rd.ensures

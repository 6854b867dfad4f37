-- `chan_step::col_banks` meets its contract: by the command.
use Rattle.chan_step.specs.Form.Banks.{changed, col_banks}
use Rattle.chan_step.proofs.col_banks.Goals as goal

pub returns-in-Nocop : goal.returns-in-Nocop
unfolding col_banks changed
returns-in-Nocop c = rw c.in-Nocop.is

pub returns-in-Wr : goal.returns-in-Wr
unfolding col_banks changed
returns-in-Wr c = rw c.in-Wr.is

pub returns-in-Rd : goal.returns-in-Rd
unfolding col_banks changed
returns-in-Rd c = rw (c.put_bank.ensures, c.read_track.ensures, c.bank_at.ensures, c.in-Rd.is)

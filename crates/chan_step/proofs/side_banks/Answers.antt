-- `chan_step::side_banks` meets its contract: one bank changed.
use Rattle.chan_step.specs.Form.Banks.{changed}
use Rattle.chan_step.proofs.side_banks.Goals as goal

pub returns : goal.returns
unfolding changed
returns c = rw (c.put_bank.ensures, c.side_track.ensures, c.bank_at.ensures)

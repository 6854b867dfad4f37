-- `chan_step::row_banks` meets its contract: by the command.
use Rattle.chan_step.specs.Form.Banks.{changed, row_banks}
use Rattle.chan_step.proofs.row_banks.Goals as goal

pub returns-in-Act : goal.returns-in-Act
unfolding row_banks changed
returns-in-Act c = rw (c.put_bank.ensures, c.act_track.ensures, c.bank_at.ensures, c.in-Act.is)

pub returns-in-Prer : goal.returns-in-Prer
unfolding row_banks changed
returns-in-Prer c = rw (c.closed_banks.ensures, c.in-Prer.is)

pub returns-in-Refa : goal.returns-in-Refa
unfolding row_banks changed
returns-in-Refa c = rw (c.put_bank-in-Refa.ensures, c.refresh_track.ensures, c.bank_at-in-Refa.ensures, c.in-Refa.is)

pub returns-in-Refp : goal.returns-in-Refp
unfolding row_banks changed
returns-in-Refp c = rw (c.closed_banks-in-Refp.ensures, c.in-Refp.is)

-- `chan_step::retired_banks` meets its contract: each way out decides the test.
use Rattle.chan_step.specs.Form.Banks.{changed}
use Rattle.chan_step.proofs.retired_banks.Goals as goal

pub returns-then-leaves : goal.returns-then-leaves
unfolding changed
returns-then-leaves c = rw (c.put_bank.ensures, c.retired_track.ensures, c.bank_at.ensures, c.if-leaves.true)

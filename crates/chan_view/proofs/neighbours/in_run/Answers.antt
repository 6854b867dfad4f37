-- `chan_view::neighbours::in_run` meets its contract: the run's number is the bank's without its low bits.
use Rattle.chan_view.proofs.neighbours.in_run.Goals as goal

pub returns : goal.returns
returns c = rw c.run_bits-bits.ensures.1

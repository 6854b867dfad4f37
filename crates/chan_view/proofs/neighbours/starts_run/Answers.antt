-- `chan_view::neighbours::starts_run` meets its contract: the bits of a place in the run are cleared.
use Rattle.chan_view.proofs.NearLaws.{cleared-bits}
use borrow.Author.Rules.{rules}
use Rattle.chan_view.proofs.neighbours.starts_run.Goals as goal

pub returns : goal.returns
returns c = rw c.run_bits-bits.ensures.1 (cleared-bits c.args.core c.args.b (search rules))

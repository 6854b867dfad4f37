-- `put_word` meets its contract.
use Rattle.log_index.proofs.make.put_word.Goals as goal

pub block_word-w-requires : goal.block_word-w-requires
block_word-w-requires c = c.requires.k_bound

pub returns : goal.returns
returns c = rw (c.from.ensures, c.block_word-w.ensures) at c.put_u32.ensures

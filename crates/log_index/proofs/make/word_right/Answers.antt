-- `word_right` meets its contract.
use borrow.Author.Tests.{le-ltb, lt-ltb}
use Rattle.spec_index.specs.Index.{word_right}
use Rattle.log_index.proofs.make.word_right.Goals as goal

pub returns-then-k-index : goal.returns-then-k-index
unfolding word_right
returns-then-k-index c = rw (le-ltb _ _ c.if-k-index.true)

pub returns-then-k-log : goal.returns-then-k-log
unfolding word_right
returns-then-k-log c = rw (lt-ltb _ _ c.if-k-index.false, le-ltb _ _ c.if-k-log.true)

pub block_word-requires : goal.block_word-requires
block_word-requires c = (c.if-k-log.false, c.requires c.args.k c.if-k-log.false)

pub returns : goal.returns
unfolding word_right
returns c = rw (c.block_word.ensures, c.u32_at.ensures, lt-ltb _ _ c.if-k-index.false, lt-ltb _ _ c.if-k-log.false)

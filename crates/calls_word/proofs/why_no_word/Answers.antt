-- `why_no_word` meets its contract: the tests are the definition's, in their order.
use borrow.Author.Tests.{le-leb, lt-leb}
use Rattle.calls_word.specs.Words.{why_no_word}
use Rattle.calls_word.proofs.why_no_word.Goals as goal

pub returns-then-bank-gt31 : goal.returns-then-bank-gt31
unfolding why_no_word
returns-then-bank-gt31 c = rw (lt-leb _ 31 c.if-bank-gt31.true)

pub returns-then-command-s : goal.returns-then-command-s
unfolding why_no_word
returns-then-command-s c = rw (le-leb _ 31 c.if-bank-gt31.false, c.if-command-s.true)

pub returns-then-column-s : goal.returns-then-column-s
unfolding why_no_word
returns-then-column-s c = rw (le-leb _ 31 c.if-bank-gt31.false, c.if-command-s.false, c.if-column-s.true)

pub returns : goal.returns
unfolding why_no_word
returns c = rw (le-leb _ 31 c.if-bank-gt31.false, c.if-command-s.false, c.if-column-s.false)

-- `packet_answer` meets its contract: the tests are the definition's, in their order.
use borrow.Author.Tests.{eq-eqb, ne_eqb}
use Rattle.calls_word.specs.Words.{packet_answer}
use Rattle.calls_word.proofs.packet_answer.Goals as goal

pub returns-then-kind-eq0 : goal.returns-then-kind-eq0
unfolding packet_answer
returns-then-kind-eq0 c = rw (eq-eqb _ 0 c.if-kind-eq0.true) (rw c.decode_row.ensures at c.row_answer.ensures)

pub returns-then-kind-eq1 : goal.returns-then-kind-eq1
unfolding packet_answer
returns-then-kind-eq1 c = rw (ne_eqb _ 0 c.if-kind-eq0.false, eq-eqb _ 1 c.if-kind-eq1.true) (rw c.decode_col.ensures at c.col_answer.ensures)

pub returns : goal.returns
unfolding packet_answer
returns c = rw (ne_eqb _ 0 c.if-kind-eq0.false, ne_eqb _ 1 c.if-kind-eq1.false) c.from.ensures

-- `command_coded` meets its contract: the tests are the definition's, in their order.
use mathlib.Core.Path.{◌∙◌, sym}
use borrow.Author.Tests.{le-leb, lt-leb}
use Rattle.calls_word.specs.Words.{command_coded}
use Rattle.calls_word.proofs.command_coded.Goals as goal

pub returns-then-command-le3 : goal.returns-then-command-le3
unfolding command_coded
returns-then-command-le3 c = rw (sym c.fields_right.ensures ∙ c.if-fields_right.true, le-leb _ 3 c.if-command-le3.true, ← c.row_command.ensures) c.encode_row.ensures

pub returns-then-fields_right : goal.returns-then-fields_right
unfolding command_coded
returns-then-fields_right c = rw (sym c.fields_right.ensures ∙ c.if-fields_right.true, lt-leb _ 3 c.if-command-le3.false, ← c.col_command.ensures) c.encode_col.ensures

pub returns : goal.returns
unfolding command_coded
returns c = rw (sym c.fields_right.ensures ∙ c.if-fields_right.false)

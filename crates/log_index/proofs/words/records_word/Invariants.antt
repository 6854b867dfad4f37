-- `records_word` meets its contract: after i turns w is the word of the first i records.
use mathlib.Core.Path.{◌≡◌}
use Rattle.log_index.specs.Form.Fields.{fields_up_to}
use Rattle.log_index.proofs.words.records_word.Given as goal

abbrev pub invariant-loop-i : goal.invariant-loop-i
invariant-loop-i l = l.w ≡ fields_up_to l.b l.i

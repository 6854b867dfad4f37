-- `write_index` meets its contract: after each turn the words of the first k blocks are there.
use mathlib.Core.Path.{◌≡◌}
use Rattle.num.specs.Bytes.{splice}
use Rattle.spec_index.specs.Index.{words_up_to}
use Rattle.log_index.specs.Form.Fields.{fields_word}
use Rattle.log_index.proofs.make.write_index.Given as goal

abbrev pub invariant-loop-k : goal.invariant-loop-k
invariant-loop-k l = l.index ≡ splice l.initial.index 0 (words_up_to fields_word l.log l.k)

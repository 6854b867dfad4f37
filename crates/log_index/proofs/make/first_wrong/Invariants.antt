-- `first_wrong` meets its contract: the words before word k are right in every turn.
use Prim.Native.Nat.{ℕ, ◌<◌}
use mathlib.Core.Path.{◌≡◌}
use mathlib.Core.Bool.{true}
use Rattle.spec_index.specs.Index.{word_right}
use Rattle.log_index.specs.Form.Fields.{fields_word}
use Rattle.log_index.proofs.make.first_wrong.Given as goal

abbrev pub invariant-loop-k : goal.invariant-loop-k
invariant-loop-k l = (i : ℕ) → i < l.k → word_right fields_word l.log l.index i ≡ true

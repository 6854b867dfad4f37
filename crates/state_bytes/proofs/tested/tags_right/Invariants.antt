-- `state_bytes::tested::tags_right` meets its contract: right says whether each tag passed so far is right.
use mathlib.Core.Path.{◌≡◌}
use Prim.Native.Nat.{◌+◌, ◌*◌}
use Rattle.num.specs.Bytes.{number, part}
use Rattle.num.specs.Search.{all_up_to}
use Rattle.state_bytes.specs.Form.Tested.{tag_right}
use Rattle.state_bytes.proofs.tested.tags_right.Given as goal

abbrev pub invariant-loop-x : goal.invariant-loop-x
invariant-loop-x l = l.right ≡ all_up_to (λ k. tag_right l.core l.most l.also k (number (part l.b (638 + 2 * k) 2)) (number (part l.b (640 + 2 * k) 2))) l.x

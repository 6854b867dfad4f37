-- `state_bytes::tested::all_stored` meets its contract: right says whether each instant passed so far is in range.
use mathlib.Core.Path.{◌≡◌}
use Rattle.state_bytes.specs.Form.Tested.{all_stored}
use Rattle.state_bytes.proofs.tested.all_stored.Given as goal

abbrev pub invariant-loop-i : goal.invariant-loop-i
invariant-loop-i l = l.right ≡ all_stored l.b l.at l.i

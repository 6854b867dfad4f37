-- `settings::ranges::numbers_right` meets its contract: right says whether each number passed so far is in its range; the last one is, as
-- every number of two bytes.
use mathlib.Core.Path.{◌≡◌}
use Rattle.settings.specs.Settings.{half}
use Rattle.settings.specs.Form.Numbers.{numbers_right}
use Rattle.settings.proofs.ranges.numbers_right.Given as goal

abbrev pub invariant-loop-i : goal.invariant-loop-i
invariant-loop-i l = l.right ≡ numbers_right (half l.b) l.i

-- `settings::ranges::figures_right` meets its contract: right says whether each number passed so far is in its range.
use mathlib.Core.Path.{◌≡◌}
use lib.ListN.{get_or}
use Rattle.settings.specs.Form.Numbers.{numbers_right}
use Rattle.settings.proofs.ranges.figures_right.Given as goal

abbrev pub invariant-loop-i : goal.invariant-loop-i
invariant-loop-i l = l.right ≡ numbers_right (λ k. get_or l.f k 0) l.i

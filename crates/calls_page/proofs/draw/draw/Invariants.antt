-- `draw` meets its contract: with i records left to be drawn the page is that of the records after them.
use mathlib.Core.Path.{◌≡◌}
use lib.ListN.{drop}
use Rattle.spec_check.specs.Check.{records_of}
use Rattle.spec_page.specs.Page.{page}
use Rattle.calls_page.proofs.draw.draw.Given as goal

abbrev pub invariant-loop-i : goal.invariant-loop-i
invariant-loop-i l = l.out ≡ page l.s (drop l.i (records_of l.s l.list)) l.start

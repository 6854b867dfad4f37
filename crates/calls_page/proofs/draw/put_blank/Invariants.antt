-- `put_blank` meets its contract: after i turns the first i bytes are those of a page without records.
use Prim.Native.Nat.{ℕ, ◌<◌}
use mathlib.Core.Path.{◌≡◌}
use lib.ListN.{length, get_or}
use Rattle.spec_page.specs.Page.{page_bytes}
use Rattle.spec_page.specs.Form.Bytes.{byte_by}
use Rattle.calls_page.specs.Form.Paint.{blank}
use Rattle.calls_page.proofs.draw.put_blank.Given as goal

abbrev pub invariant-loop-i : goal.invariant-loop-i
invariant-loop-i l = (length l.out ≡ page_bytes) × ((k : ℕ) → k < l.i → get_or l.out k 0 ≡ byte_by blank l.start k)

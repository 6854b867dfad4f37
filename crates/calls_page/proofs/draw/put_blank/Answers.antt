-- `put_blank` meets its contract: after i turns the first i bytes are those of a page without records.
use mathlib.Core.Path.{◌≡◌}
use native.Mathlib.Omega.{arith}
use Rattle.spec_page.specs.Page.{page_bytes}
use Rattle.calls_page.proofs.draw.BlankLaws.{blank-page}
use Rattle.calls_page.proofs.draw.put_blank.Goals as goal

pub returns : goal.returns
returns c =
    let k = c.loop-i in
    let e : k.i ≡ page_bytes = omega arith in
    λ s. blank-page s c.args.start k.out k.invariant.0 (rw e at k.invariant.1)

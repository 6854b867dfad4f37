-- `put_listing` meets its contract: the text of the requests or of the refusal, and the last line.
use mathlib.Core.Path.{sym, ◌∙◌}
use native.Mathlib.Omega.{arith}
use lib.ListN.{length}
use Rattle.listing.proofs.ListingLaws.{length-fits, length_whole, listed, turned-back}
use Rattle.listing.proofs.put_listing.Goals as goal

pub put_requests-total-requires : goal.put_requests-total-requires
put_requests-total-requires c =
    let n = length c.args.input.now in
    let right = sym c.length_right.ensures ∙ c.if-length_right.true in
    (length-fits n right, length_whole n right, omega arith)

pub returns-then-length_right : goal.returns-then-length_right
returns-then-length_right c =
    let a = c.args in
    listed a.out.now a.input.now c.put_requests-total.result.records (omega (arith, c.put_requests-total.ensures.put.1)) (sym c.length_right.ensures ∙ c.if-length_right.true)
    c.put_requests-total.ensures.records_value c.put_requests-total.ensures.put.0 c.put_records.ensures.0

pub returns-else-length_right : goal.returns-else-length_right
returns-else-length_right c =
    let a = c.args in
    turned-back a.out.now a.input.now (omega (arith, c.put_refused-end.ensures.1)) (sym c.length_right.ensures ∙ c.if-length_right.false)
    c.put_refused-end.ensures.0 c.put_records-else-length_right.ensures.0

-- `print_listing` meets its contract: the listing ends in the buffer.
use mathlib.Core.Path.{sym}
use native.Mathlib.Omega.{arith}
use lib.ListN.{take}
use lib.Seq.{length-take-le}
use Rattle.listing.specs.Listing.{listing}
use Rattle.listing_text.proofs.TextLaws.{put-fits}
use Rattle.listing.proofs.print_listing.Goals as goal

pub slice_bounds-put_listing-end : goal.slice_bounds-put_listing-end
slice_bounds-put_listing-end c = sym (length-take-le c.args.n c.args.input.now c.requires)

pub print-requires : goal.print-requires
print-requires c =
    let a = c.args in
    let e = put-fits a.out.now (listing (take a.n a.input.now)) c.put_listing-end.ensures c.put_listing-end.auto.out in
    omega (arith, e, c.put_listing-end.auto.out)

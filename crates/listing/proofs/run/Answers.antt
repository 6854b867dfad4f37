-- `run` meets its contract: what was read is listed, and what the buffer did not take alters no listing.
use native.Mathlib.Omega.{arith}
use lib.ListN.{length, take}
use Rattle.listing.proofs.ListingLaws.{listed-first}
use Rattle.listing.proofs.run.Goals as goal

pub returns : goal.returns
returns c =
    let a = c.args in
    let b = c.read_full-read.new.buf in
    record {
      read_in_bounds = c.read_full-read.ensures.0;
      by_index = λ given e. listed-first a.out.now (take c.read_full-read.result b) given (length b) (omega (arith, c.read_full-read.auto.buf)) e c.print_listing-printed.ensures;
    }

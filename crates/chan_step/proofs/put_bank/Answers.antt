-- `chan_step::put_bank` meets its contract: a number that is no bank changes nothing.
use mathlib.Core.Path.{◌≡◌, sym}
use native.Mathlib.Omega.{arith}
use borrow.Author.Tests.{lt-ltb}
use lib.ListN.{length}
use lib.Seq.{set_out}
use Rattle.chan_view.proofs.PlaceLaws.{length-of-map}
use Rattle.chan_step.proofs.put_bank.Goals as goal

pub returns-then-b-ge32 : goal.returns-then-b-ge32
returns-then-b-ge32 c =
    let long : length c.args.banks ≡ 32 = search (length-of-map, c.well_formed.0) in
    sym (set_out c.args.banks c.args.b c.args.k (omega (arith, long)))

pub returns : goal.returns
returns c = rw (c.slot_of-i.ensures.0, lt-ltb c.args.b 32 (omega arith))

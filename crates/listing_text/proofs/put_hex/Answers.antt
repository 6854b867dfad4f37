-- `put_hex` meets its contract: four digits side by side.
use mathlib.Core.Path.{◌≡◌}
use Prim.Native.Nat.{◌/◌, ◌%◌}
use native.Mathlib.Omega.{arith}
use lib.ListN.{length-set}
use Rattle.listing_text.specs.Text.{digit, hex_four}
use Rattle.listing_text.proofs.TextLaws.{four_bytes}
use Rattle.listing_text.proofs.put_hex.Goals as goal

pub bounds-out-at-2 : goal.bounds-out-at-2
bounds-out-at-2 c = simp length-set (omega arith)

pub bounds-out-at-3 : goal.bounds-out-at-3
bounds-out-at-3 c = simp length-set (omega arith)

pub bounds-out-at-4 : goal.bounds-out-at-4
bounds-out-at-4 c = simp length-set (omega arith)

pub returns : goal.returns
unfolding hex_four
returns c =
    let a = c.args in
    let m = a.mask in
    let w : c.digit.result ≡ digit (m / 4096 % 16) = c.digit.ensures in
    let x : c.digit-2.result ≡ digit (m / 256 % 16) = c.digit-2.ensures in
    let y : c.digit-3.result ≡ digit (m / 16 % 16) = c.digit-3.ensures in
    let z : c.digit-4.result ≡ digit (m % 16) = c.digit-4.ensures in
    rw (z, y, x, w) (four_bytes a.out.now a.at _ _ _ _ (omega arith))

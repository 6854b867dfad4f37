-- `put_decimal` meets its contract: the fewest digits of a number are its digits without leading zeros.
use mathlib.Core.Path.{◌≡◌, ◌∙◌, ap}
use Prim.Native.Nat.{ℕ, ◌+◌}
use native.Mathlib.Omega.{arith}
use lib.ListN.{length}
use Rattle.num.specs.Bytes.{splice}
use Rattle.listing_text.specs.Text.{decimal}
use Rattle.listing_text.proofs.TextLaws.{spelt}
use Rattle.listing_text.proofs.put_decimal.Goals as goal

pub put_bytes-requires : goal.put_bytes-requires
put_bytes-requires c =
    let e = spelt c.decimal-k.new.out c.args.n c.decimal-k.result (omega arith) c.decimal-k.ensures.len c.decimal-k.ensures.digits in
    rw e c.requires

pub overflow_add-result : goal.overflow_add-result
overflow_add-result c =
    let n = c.args.n in
    let e = spelt c.decimal-k.new.out n c.decimal-k.result (omega arith) c.decimal-k.ensures.len c.decimal-k.ensures.digits in
    let k : c.decimal-k.result ≡ length (decimal n) = c.decimal-k.ensures.in_bounds.1 ∙ ap length e in
    omega (arith, k)

pub returns : goal.returns
returns c =
    let a = c.args in
    let e = spelt c.decimal-k.new.out a.n c.decimal-k.result (omega arith) c.decimal-k.ensures.len c.decimal-k.ensures.digits in
    (ap (λ (k : ℕ). a.at + k) (c.decimal-k.ensures.in_bounds.1 ∙ ap length e), c.put_bytes.ensures ∙ ap (splice a.out.now a.at) e)

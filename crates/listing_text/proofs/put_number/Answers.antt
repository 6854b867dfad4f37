-- `put_number` meets its contract: the digits and one byte more.
use native.Mathlib.Omega.{arith}
use Rattle.listing_text.specs.Text.{decimal, space}
use Rattle.listing_text.proofs.TextLaws.{decimal-of-32, put-more}
use Rattle.listing_text.proofs.put_number.Goals as goal

pub put_decimal-end-requires : goal.put_decimal-end-requires
put_decimal-end-requires c =
    let h = decimal-of-32 c.from.result (omega arith) in omega (arith, h)

pub bounds-out-end : goal.bounds-out-end
bounds-out-end c =
    let w = c.from in
    let h = decimal-of-32 w.result (omega arith) in
    omega (arith, h, c.put_decimal-end.ensures.0, c.put_decimal-end.auto.out)

pub overflow_add-result : goal.overflow_add-result
overflow_add-result c =
    let w = c.from in
    let h = decimal-of-32 w.result (omega arith) in
    omega (arith, h, c.put_decimal-end.ensures.0)

pub returns : goal.returns
returns c =
    let w = c.from in
    let a = c.args in
    let h = decimal-of-32 w.result (omega arith) in
    (rw (← w.ensures) (put-more a.out.now a.at (decimal w.result) space (omega (arith, h)) c.put_decimal-end.ensures), omega (arith, h, c.put_decimal-end.ensures.0))

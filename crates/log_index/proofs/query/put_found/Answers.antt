-- `put_found` meets its contract.
use Prim.Native.Nat.{◌*◌}
use mathlib.Core.Path.{◌∙◌, sym}
use native.Mathlib.Omega.{arith}
use Rattle.num.proofs.SpliceLaws.{splice-none}
use Rattle.log_index.proofs.query.put_found.Goals as goal

pub put_u32-requires : goal.put_u32-requires
put_u32-requires c =
    let e = sym c.has_bit.ensures ∙ c.if-has_bit.true in
    omega (arith, rw e at c.requires.2)

pub overflow_add-result : goal.overflow_add-result
overflow_add-result c =
    let e = sym c.has_bit.ensures ∙ c.if-has_bit.true in
    record { fits = omega (arith, rw e at c.requires.2, (c.slice_known-then-has_bit-1.given 0).fits) }

pub returns-then-has_bit : goal.returns-then-has_bit
returns-then-has_bit c =
    let e = sym c.has_bit.ensures ∙ c.if-has_bit.true in
    (rw e, rw e c.put_u32.ensures)

pub returns : goal.returns
returns c =
    let e = sym c.has_bit.ensures ∙ c.if-has_bit.false in
    (rw e (omega arith), rw e (splice-none c.args.out.now (4 * c.args.n)))

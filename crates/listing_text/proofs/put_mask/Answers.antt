-- `put_mask` meets its contract: a dash or four digits, and the end of the line.
use mathlib.Core.Path.{refl}
use native.Mathlib.Omega.{arith}
use borrow.Author.Tests.{eq-eqb, ne_eqb}
use lib.ListN.{length-set}
use Rattle.num.proofs.SpliceLaws.{splice-two}
use Rattle.listing_text.specs.Text.{codes, dash, hex_four, mask_text, line_end}
use Rattle.listing_text.proofs.TextLaws.{put-more, length-hex}
use Rattle.listing_text.proofs.put_mask.Goals as goal

pub bounds-out-at-then-mask-eq-FULL : goal.bounds-out-at-then-mask-eq-FULL
bounds-out-at-then-mask-eq-FULL c = simp length-set (omega arith)

pub returns-then-mask-eq-FULL : goal.returns-then-mask-eq-FULL
unfolding codes mask_text dash
returns-then-mask-eq-FULL c =
    let a = c.args in
    rw (eq-eqb _ 0xFFFF c.if-mask-eq-FULL.true) ((refl, splice-two a.out.now a.at 45 10 (omega arith)), omega arith)

pub bounds-out-end : goal.bounds-out-end
bounds-out-end c =
    let n = length-hex c.args.mask in
    omega (arith, n, c.put_hex-end.ensures.0, c.put_hex-end.auto.out)

pub overflow_add-result-2 : goal.overflow_add-result-2
overflow_add-result-2 c =
    let n = length-hex c.args.mask in
    omega (arith, n, c.put_hex-end.ensures.0)

pub returns : goal.returns
unfolding mask_text
returns c =
    let a = c.args in
    let n = length-hex a.mask in
    rw (ne_eqb _ 0xFFFF c.if-mask-eq-FULL.false) (put-more a.out.now a.at (hex_four a.mask) line_end (omega arith) c.put_hex-end.ensures, omega (arith, n, c.put_hex-end.ensures.0))

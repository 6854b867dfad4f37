-- `num::bits::apart` meets its contract: right says whether the marks of the words passed so far stand alone, and low is the next word.
use mathlib.Core.Path.{◌≡◌, refl, sym}
use Prim.Native.Nat.{◌+◌}
use native.Mathlib.Omega.{arith}
use lib.ListN.{get_or, get_or-eq_default}
use Rattle.num.specs.Search.{all_up_to}
use Rattle.num.specs.Marks.{all_apart}
use Rattle.num.proofs.bits.AcrossLaws.{lone-next}
use Rattle.num.proofs.bits.apart.Goals as goal

pub loop-k-init : goal.loop-k-init
unfolding all_up_to
loop-k-init c = (refl, refl)

pub loop-k-preserved : goal.loop-k-preserved
loop-k-preserved c =
    let ws = c.args.ws.now in
    (refl, rw (c.lone-right.ensures, c.loop-k.invariant.0, c.loop-k.invariant.1) (sym (lone-next ws c.loop-k.k)))

pub returns : goal.returns
unfolding all_apart
returns c =
    let ws = c.args.ws.now in
    let e : c.loop-k.k ≡ 15 = omega arith in
    let z : get_or ws (15 + 1) 0 ≡ 0 = get_or-eq_default ws 0 {n = 16} (omega arith) in
    let l = rw z at (lone-next ws 15) in
    rw (c.lone.ensures, c.loop-k.invariant.0, c.loop-k.invariant.1, e) (sym l)

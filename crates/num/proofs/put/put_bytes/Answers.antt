-- `num::put_bytes` meets its contract: after j turns the first j bytes are copied.
use mathlib.Core.Path.{refl}
use mathlib.Core.Path.{◌≡◌, ◌∙◌}
use native.Mathlib.Omega.{arith}
use native.Mathlib.Numerals.{add-one}
use lib.ListN.{length}
use lib.Seq.{paste-zero, paste-suc}
use Rattle.num.proofs.SpliceLaws.{paste_all}
use Rattle.num.proofs.put.put_bytes.Goals as goal

pub loop-j-init : goal.loop-j-init
loop-j-init c = paste-zero c.args.out.now c.args.at c.args.src.now

pub loop-j-preserved : goal.loop-j-preserved
loop-j-preserved c =
    let a = c.args in
    let k = c.loop-j in
    rw (k.invariant, add-one) (paste-suc a.out.now a.at a.src.now k.j 0 (omega arith) (omega arith))

pub returns : goal.returns
returns c =
    let a = c.args in
    let e : c.loop-j.j ≡ length a.src.now = omega arith in
    rw e at c.loop-j.invariant ∙ paste_all a.out.now a.at a.src.now (length a.src.now) refl

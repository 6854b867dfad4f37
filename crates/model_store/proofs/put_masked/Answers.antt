-- `model_store::put_masked` meets its contract: after i turns the first i bytes are written where their bits are 1.
use Prim.Native.Nat.{◌*◌}
use mathlib.Core.Path.{◌≡◌, refl, sym, ◌∙◌}
use native.Mathlib.Nat.{div-one}
use native.Mathlib.Omega.{arith}
use Rattle.model_store.specs.Form.Touch.{masked_up_to}
use Rattle.model_store.proofs.MaskLaws.{bit-set, bit-clear, bits-next, up-to-masked}
use Rattle.model_store.proofs.put_masked.Goals as goal
use Rattle.model_store.proofs.put_masked.Goals.{then-bits-eq1, else-bits-eq1}

pub loop-i-init : goal.loop-i-init
unfolding masked_up_to
loop-i-init c = (sym (div-one c.args.mask), refl)

pub loop-i-preserved : goal.loop-i-preserved
loop-i-preserved c =
    let a = c.args in
    let k = c.loop-i in (
      bits-next a.mask k.i k.bits k.invariant.0,
      elim c.if-bits-eq1.branch [
        | then-bits-eq1 w ↦ w.store-is ∙ bit-set a.store.now (16 * a.k) a.mask a.new.now k.i k.bits k.invariant.0 w.if-bits-eq1.true k.invariant.1
        | else-bits-eq1 w ↦ w.store-is ∙ bit-clear a.store.now (16 * a.k) a.mask a.new.now k.i k.bits k.invariant.0 w.if-bits-eq1.false k.invariant.1
      ],
    )

pub returns : goal.returns
returns c =
    let a = c.args in
    let e : c.loop-i.i ≡ 16 = omega arith in
    rw e at c.loop-i.invariant.1 ∙ up-to-masked a.store.now a.k a.mask a.new.now c.requires

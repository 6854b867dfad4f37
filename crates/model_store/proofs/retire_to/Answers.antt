-- `model_store::retire_to` meets its contract: whole under a full mask, else the data as 16 bytes, put under the mask.
use mathlib.Core.Path.{sym, ap, ◌∙◌}
use Rattle.num.proofs.SpliceLaws.{splice-whole}
use Rattle.spec_model.specs.Store.{dualoct_bytes, masked}
use Rattle.spec_model.proofs.StoreLaws.{length-dualoct_bytes}
use Rattle.model_store.proofs.MaskLaws.{full-masked}
use Rattle.model_store.proofs.retire_to.Goals as goal

pub returns-then-mask-eq-FULL : goal.returns-then-mask-eq-FULL
returns-then-mask-eq-FULL c =
    let d = c.args.d in
    rw c.if-mask-eq-FULL.true
    (c.put_dualoct.ensures ∙ sym (full-masked c.args.store.now c.args.k (dualoct_bytes d) (length-dualoct_bytes d) c.requires))

pub returns : goal.returns
returns c =
    let a = c.args in
    c.put_masked.ensures
    ∙ ap (masked a.store.now a.k a.mask) (c.put_dualoct-2.ensures ∙ splice-whole _ (dualoct_bytes a.d) (length-dualoct_bytes a.d))

-- `state_bytes::models::model_right` meets its contract: the tests are those of a model's bytes.
use mathlib.Core.Path.{sym}
use native.Mathlib.Omega.{arith}
use Rattle.state_bytes.proofs.RightLaws.{model-tested, model-length-wrong}
use Rattle.state_bytes.proofs.models.model_right.Goals as goal

pub returns-then-b-ne-MODEL_BYTES : goal.returns-then-b-ne-MODEL_BYTES
returns-then-b-ne-MODEL_BYTES c =
    let a = c.args in sym (model-length-wrong a.s a.b.now c.if-b-ne-MODEL_BYTES.true)

pub returns : goal.returns
returns c =
    let a = c.args in
    rw (c.channel_right.ensures, c.from.ensures, c.u64_at-refr.ensures)
    (model-tested a.s a.b.now (λ i l. omega (arith, c.shared_slice_known-1.given i)) c.if-b-ne-MODEL_BYTES.false)

-- `model_store::dualocts::put_dualoct` meets its contract: two numbers side by side.
use mathlib.Core.Path.{◌∙◌}
use native.Mathlib.Omega.{arith}
use Rattle.num.specs.Bytes.{bytes}
use Rattle.num.proofs.ByteLaws.{length-bytes}
use Rattle.num.proofs.SpliceLaws.{splice-more}
use Rattle.spec_model.specs.Store.{dualoct_bytes}
use Rattle.model_store.proofs.dualocts.put_dualoct.Goals as goal

pub returns : goal.returns
unfolding dualoct_bytes
returns c =
    let a = c.args in
    c.put_u64-2.ensures
    ∙ rw c.put_u64.ensures
    (splice-more a.b.now a.at (bytes 8 a.d.dqa) (bytes 8 a.d.dqb) 8 (length-bytes 8 a.d.dqa) (omega arith))

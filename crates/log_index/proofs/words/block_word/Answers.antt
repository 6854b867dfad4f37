-- `block_word` meets its contract: the part that is lent is block k.
use Prim.Native.Nat.{◌+◌, ◌-◌, ◌*◌}
use mathlib.Core.Path.{◌≡◌}
use native.Mathlib.Omega.{arith}
use Rattle.log_index.specs.Form.Fields.{fields_word}
use Rattle.log_index.proofs.words.block_word.Goals as goal

pub returns : goal.returns
unfolding fields_word
returns c =
    let k = c.args.k in
    let e : 512 * k + 512 - 512 * k ≡ 512 = omega arith in
    rw (c.used_at-n.ensures, e) at c.records_word.ensures

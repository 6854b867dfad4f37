-- `state_bytes::tested::tops` meets its contract: top is no less than each instant passed so far.
use Prim.Native.Nat.{◌+◌, ◌*◌}
use Rattle.num.specs.Bytes.{number, part}
use Rattle.state_bytes.proofs.OrLaws.{or-next}
use Rattle.state_bytes.proofs.tested.tops.Goals as goal

pub loop-i-preserved : goal.loop-i-preserved
loop-i-preserved c =
    let k = c.loop-i in
    let a = c.args in
    or-next (λ n. number (part a.b.now (a.at + 4 * n) 4)) k.i k.top c.u32_at-top.result k.invariant c.u32_at-top.ensures

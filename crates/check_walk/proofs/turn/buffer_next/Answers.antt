-- `turn::buffer_next` meets its contract: the older write leaves or does not.
use mathlib.Core.Path.{◌≡◌}
use Rattle.chan_step.specs.Form.Lasts.{buffer_next}
use Rattle.check_walk.proofs.turn.buffer_next.Goals as goal

pub returns : goal.returns
returns c =
    let a = c.args in
    let next : c.buffer_after.result ≡ buffer_next a.r c.leaving-leaves.result a.b = c.buffer_after.ensures in
    rw (next, c.leaving-leaves.ensures)

-- `chan_least::quick::closes_well` meets its contract: the waiting writes and the bound.
use Rattle.chan_least.specs.Form.Quick.{closes_well}
use Rattle.chan_least.proofs.quick.closes_well.Goals as goal

pub returns : goal.returns
unfolding closes_well
returns c =
    rw (
      c.from.ensures,
      c.close_bound.ensures,
      c.loses-2.ensures,
      c.loses.ensures,
      c.latest_of-retire.ensures,
      c.latest_of-rd.ensures,
      c.latest_of-opened.ensures,
    )

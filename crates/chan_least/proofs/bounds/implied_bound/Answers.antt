-- `chan_least::bounds::implied_bound` meets its contract: the bound where it applies.
use Rattle.chan_least.specs.Form.Least.{implied_bound}
use Rattle.chan_least.proofs.bounds.implied_bound.Goals as goal

pub returns-then-closes : goal.returns-then-closes
unfolding implied_bound
returns-then-closes c =
    rw (
      c.saturating_sub.ensures,
      c.from.ensures,
      c.prer_bound-bound.ensures,
      c.latest_of-retire.ensures,
      c.latest_of-rd.ensures,
      c.latest_of-opened.ensures,
      c.if-closes.true,
    )

pub returns : goal.returns
returns c = rw c.if-closes.false

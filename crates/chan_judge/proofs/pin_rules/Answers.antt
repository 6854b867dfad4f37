-- `chan_judge::pin_rules` meets its contract: each rule's test, from the last to the first.
use Rattle.chan_judge.specs.Form.Tests.{lowest_or, pin_tests}
use Rattle.chan_judge.proofs.pin_rules.Goals as goal

pub returns : goal.returns
unfolding lowest_or pin_tests
returns c =
    rw (
      c.unless.ensures,
      c.in_order.ensures,
      c.unless-n2.ensures,
      c.apart-2.ensures,
      c.unless-n3.ensures,
      c.apart.ensures,
    )

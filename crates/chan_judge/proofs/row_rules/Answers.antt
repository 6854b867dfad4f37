-- `chan_judge::row_rules` meets its contract: each rule's test, from the last to the first.
use Rattle.chan_judge.specs.Form.Tests.{lowest_or, row_tests}
use Rattle.chan_judge.proofs.row_rules.Goals as goal

pub returns : goal.returns
unfolding lowest_or row_tests
returns c =
    rw (
      c.unless.ensures,
      c.finds_closed.ensures,
      c.unless-n5.ensures,
      c.keeps.ensures,
      c.unless-n6.ensures,
      c.open_long.ensures,
      c.unless-n7.ensures,
      c.closed_long.ensures,
      c.unless-n8.ensures,
      c.prer_keeps.ensures,
      c.after_gap.ensures,
    )

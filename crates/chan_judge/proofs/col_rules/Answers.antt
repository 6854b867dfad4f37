-- `chan_judge::col_rules` meets its contract: each rule's test, from the last to the first.
use Rattle.chan_judge.specs.Form.Tests.{lowest_or, col_tests}
use Rattle.chan_judge.proofs.col_rules.Goals as goal

pub returns : goal.returns
unfolding lowest_or col_tests
returns c =
    rw (
      c.unless.ensures,
      c.finds_open.ensures,
      c.unless-n10.ensures,
      c.row_ready.ensures,
      c.unless-n11.ensures,
      c.turned.ensures,
      c.unless-n12.ensures,
      c.stays.ensures,
      c.unless-n13.ensures,
      c.columns_done.ensures,
    )

-- `chan_judge::buffer_rules` meets its contract: each rule's test, from the last to the first.
use Rattle.chan_judge.specs.Form.Tests.{lowest_or, buffer_tests}
use Rattle.chan_judge.proofs.buffer_rules.Goals as goal

pub returns : goal.returns
unfolding lowest_or buffer_tests
returns c =
    rw (
      c.unless.ensures,
      c.write_safe.ensures,
      c.unless-n15.ensures,
      c.unless-n16.ensures,
      c.unless-n17.ensures,
      c.row_free.ensures,
    )

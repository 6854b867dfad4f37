-- `chan_judge::packet_rule` meets its contract: the four runs, from the last to the first.
use Rattle.spec_rules.specs.Broken.{lowest}
use Rattle.chan_judge.specs.Form.Tests.{lowest_or, pin_tests, row_tests, col_tests, buffer_tests, packet_rule}
use Rattle.chan_judge.proofs.packet_rule.Goals as goal

pub returns : goal.returns
unfolding packet_rule pin_tests row_tests col_tests buffer_tests lowest_or lowest
returns c =
    rw (
      c.pin_rules.ensures,
      c.row_rules-n4.ensures,
      c.col_rules-n9.ensures,
      c.buffer_rules-n14.ensures,
      c.prer_of-p.ensures,
      c.leaving-out.ensures,
    )

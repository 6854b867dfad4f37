-- `chan_judge::data_rule` meets its contract: late data come at no instant in range.
use Rattle.chan_judge.proofs.ArrivalLaws.{data-rule-is}
use Rattle.chan_judge.proofs.data_rule.Goals as goal

pub returns : goal.returns
returns c =
    rw (
      c.unless-2.ensures,
      c.unless.ensures,
      c.in_range.ensures,
      c.comes_at.ensures,
      c.write_arrival.ensures.value,
    ) (data-rule-is _ _ _)

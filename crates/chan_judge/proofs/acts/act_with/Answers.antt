-- `chan_judge::acts::act_with` meets its contract: the distance is that of the two banks.
use Rattle.chan_judge.proofs.acts.act_with.Goals as goal

pub returns : goal.returns
returns c =
    rw (
      c.max.ensures,
      c.after_gap.ensures,
      c.act_gap.ensures,
    )

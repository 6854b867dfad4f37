-- `chan_judge::acts::act_gap` meets its contract: by whether the banks are near.
use Rattle.chan_judge.proofs.acts.act_gap.Goals as goal

pub returns-then-is_near : goal.returns-then-is_near
returns-then-is_near c = rw (← c.is_near.ensures, c.if-is_near.true)

pub returns-else-is_near : goal.returns-else-is_near
returns-else-is_near c = rw (← c.is_near.ensures, c.if-is_near.false)

-- `to_try` meets its contract: by the flag.
use Rattle.check_list.proofs.shortest.starts.to_try.Goals as goal

pub returns-then-early : goal.returns-then-early
returns-then-early c = rw c.if-early.true c.opens_at.ensures

pub returns : goal.returns
returns c = rw c.if-early.false

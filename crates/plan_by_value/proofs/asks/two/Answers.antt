-- `plan_by_value::asks::two` meets its contract: by the state of the buffer.
use Rattle.spec_rules.specs.Channel.{waiting_of}
use Rattle.plan_by_value.proofs.asks.two.Goals as goal

pub returns-in-Empty : goal.returns-in-Empty
unfolding waiting_of
returns-in-Empty c = rw c.in-Empty.is

pub returns-in-One : goal.returns-in-One
unfolding waiting_of
returns-in-One c = rw c.in-One.is

pub returns-in-Two : goal.returns-in-Two
unfolding waiting_of
returns-in-Two c = rw c.in-Two.is

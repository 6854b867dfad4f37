-- `chan_step::joined` meets its contract: by the writes that wait.
use Rattle.spec_rules.specs.Channel.{waiting_of, buffer_of}
use Rattle.chan_step.specs.Form.Lasts.{joined_buffer}
use Rattle.chan_step.proofs.joined.Goals as goal

pub returns-in-Empty : goal.returns-in-Empty
unfolding joined_buffer waiting_of buffer_of
returns-in-Empty c = rw c.in-Empty.is

pub returns-in-One : goal.returns-in-One
unfolding joined_buffer waiting_of buffer_of
returns-in-One c = rw (c.same_write.ensures, c.in-One.is)

pub returns-in-Two : goal.returns-in-Two
unfolding joined_buffer waiting_of buffer_of
returns-in-Two c = rw c.in-Two.is

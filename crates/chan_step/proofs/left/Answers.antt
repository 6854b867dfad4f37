-- `chan_step::left` meets its contract: by the writes that wait.
use mathlib.Core.Path.{sym}
use Rattle.spec_rules.specs.Channel.{waiting_of, buffer_of}
use Rattle.chan_step.specs.Form.Lasts.{left_buffer}
use Rattle.chan_step.proofs.AfterLaws.{buffer-same}
use Rattle.chan_step.proofs.left.Goals as goal

pub returns-in-Empty : goal.returns-in-Empty
unfolding left_buffer waiting_of buffer_of
returns-in-Empty c = rw (c.if-leaves.true, c.in-Empty.is)

pub returns-in-One : goal.returns-in-One
unfolding left_buffer waiting_of buffer_of
returns-in-One c = rw (c.if-leaves.true, c.in-One.is)

pub returns-in-Two : goal.returns-in-Two
unfolding left_buffer waiting_of buffer_of
returns-in-Two c = rw (c.same_write.ensures, c.if-leaves.true, c.in-Two.is)

pub returns-else-leaves : goal.returns-else-leaves
unfolding left_buffer
returns-else-leaves c = rw c.if-leaves.false (sym (buffer-same c.args.b))

-- `chan_view::views::held_of` meets its contract: by the state of the buffer.
use Rattle.chan_view.specs.Form.View.{held_of}
use Rattle.chan_view.proofs.views.held_of.Goals as goal

pub returns-in-Empty : goal.returns-in-Empty
unfolding held_of
returns-in-Empty c = rw c.in-Empty.is

pub returns-in-One : goal.returns-in-One
unfolding held_of
returns-in-One c = rw c.in-One.is

pub returns-in-Two : goal.returns-in-Two
unfolding held_of
returns-in-Two c = rw c.in-Two.is

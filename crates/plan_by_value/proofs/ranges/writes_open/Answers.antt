-- `plan_by_value::ranges::writes_open` meets its contract: by the writes that wait.
use mathlib.Core.Path.{sym, ◌∙◌}
use mathlib.Core.Bool.{and-true}
use Rattle.spec_rules.specs.Channel.{waiting_of}
use Rattle.plan_by_value.proofs.ranges.writes_open.Goals as goal

pub returns-in-Empty : goal.returns-in-Empty
unfolding waiting_of
returns-in-Empty c = rw c.in-Empty.is

pub returns-in-One : goal.returns-in-One
unfolding waiting_of
returns-in-One c = rw c.in-One.is (c.write_open.ensures ∙ sym (and-true _))

pub returns-in-Two : goal.returns-in-Two
unfolding waiting_of
returns-in-Two c = rw (c.write_open-in-Two-2.ensures, c.write_open-in-Two.ensures, c.in-Two.is, and-true _)

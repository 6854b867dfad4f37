-- `plan_by_value::asks::any_write` meets its contract: by how many wait.
use mathlib.Core.Bool.{or-false}
use Rattle.spec_rules.specs.Channel.{waiting_of}
use Rattle.plan_by_value.proofs.asks.any_write.Goals as goal

pub returns-in-Empty : goal.returns-in-Empty
unfolding waiting_of
returns-in-Empty g c asks t = rw c.in-Empty.is

pub returns-in-One : goal.returns-in-One
unfolding waiting_of
returns-in-One g c asks t = rw (c.in-One.is, or-false) (t.told _ _ c.test.ensures)

pub returns : goal.returns
unfolding waiting_of
returns g c asks t = rw (c.in-Two.is, or-false, t.told _ _ c.test-in-Two.ensures, t.told _ _ c.test-in-Two-2.ensures)

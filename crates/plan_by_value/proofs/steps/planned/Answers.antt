-- `plan_by_value::steps::planned` meets its contract: by the request.
use Rattle.spec_plan.specs.Plan.{steps_of, planned}
use Rattle.plan_by_value.proofs.steps.planned.Goals as goal

pub returns-in-Read : goal.returns-in-Read
unfolding planned steps_of
returns-in-Read c = rw c.in-Read.is (c.planned_read.ensures _ _ (c.start-d.ensures c.args.s c.requires.horizon_value))

pub returns-in-Write : goal.returns-in-Write
unfolding planned steps_of
returns-in-Write c = rw c.in-Write.is (c.planned_write.ensures _ _ (c.start-d.ensures c.args.s c.requires.horizon_value))

pub returns-in-Refresh : goal.returns-in-Refresh
unfolding planned steps_of
returns-in-Refresh c = rw c.in-Refresh.is (c.planned_refresh.ensures _ _ (c.start-d.ensures c.args.s c.requires.horizon_value))

pub returns-in-Wait : goal.returns-in-Wait
unfolding planned steps_of
returns-in-Wait c = rw c.in-Wait.is (c.waited.ensures _ _ _ (c.start-d.ensures c.args.s c.requires.horizon_value))

pub returns-in-Flush : goal.returns-in-Flush
unfolding planned steps_of
returns-in-Flush c = rw c.in-Flush.is (c.planned_flush.ensures _ _ (c.start-d.ensures c.args.s c.requires.horizon_value))

pub returns-in-Close : goal.returns-in-Close
unfolding planned steps_of
returns-in-Close c = rw c.in-Close.is (c.planned_close.ensures _ _ (c.start-d.ensures c.args.s c.requires.horizon_value))

-- `plan_by_value::asks::unretired` meets its contract: by the request.
use Rattle.spec_plan.specs.Call.{unretired}
use Rattle.plan_by_value.proofs.asks.unretired.Goals as goal

pub returns-in-Read : goal.returns-in-Read
unfolding unretired
returns-in-Read c = rw c.in-Read.is

pub returns-in-Write : goal.returns-in-Write
unfolding unretired
returns-in-Write c = rw c.in-Write.is

pub returns-in-Refresh : goal.returns-in-Refresh
unfolding unretired
returns-in-Refresh c = rw c.in-Refresh.is

pub returns-in-Wait : goal.returns-in-Wait
unfolding unretired
returns-in-Wait c = rw c.in-Wait.is

pub returns-in-Flush : goal.returns-in-Flush
unfolding unretired
returns-in-Flush c = rw c.in-Flush.is

pub returns-in-Close : goal.returns-in-Close
unfolding unretired
returns-in-Close c = rw c.in-Close.is c.waits.ensures

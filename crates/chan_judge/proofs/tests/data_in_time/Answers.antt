-- `chan_judge::tests::data_in_time` meets its contract: by whether it is an RD or a WR.
use Rattle.chan_judge.proofs.ArrivalLaws.{arrives-in-time}
use Rattle.chan_judge.proofs.tests.data_in_time.Goals as goal

pub returns-then-v : goal.returns-then-v
returns-then-v c = rw (c.in_time.ensures, c.read_arrival.ensures.value, c.if-v.true) (arrives-in-time _ _)

pub returns-then-v-2 : goal.returns-then-v-2
returns-then-v-2 c = rw (c.in_time-then-v-2.ensures, c.write_arrival.ensures.value, c.if-v-2.true, c.if-v.false) (arrives-in-time _ _)

pub returns : goal.returns
returns c = rw (c.if-v-2.false, c.if-v.false)

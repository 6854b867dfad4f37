-- `chan_least::packet_bound` meets its contract: each way out decides the command.
use Rattle.chan_least.specs.Form.Least.{packet_bound}
use Rattle.chan_least.proofs.packet_bound.Goals as goal

pub returns-then-v : goal.returns-then-v
unfolding packet_bound
returns-then-v c = rw (c.open_bound.ensures, c.latest_of.ensures, c.if-v.true)

pub returns-then-v-2 : goal.returns-then-v-2
unfolding packet_bound
returns-then-v-2 c =
    rw (
      c.close_bound.ensures,
      c.latest_of-retire.ensures,
      c.latest_of-rd.ensures,
      c.latest_of-opened.ensures,
      c.if-v-2.true,
      c.if-v.false,
    )

pub returns-then-v-3 : goal.returns-then-v-3
unfolding packet_bound
returns-then-v-3 c =
    rw (
      c.max.ensures,
      c.implied_bound.ensures,
      c.read_bound-read.ensures,
      c.if-v-3.true,
      c.if-v-2.false,
      c.if-v.false,
    )

pub returns-then-v-4 : goal.returns-then-v-4
unfolding packet_bound
returns-then-v-4 c =
    rw (
      c.write_bound.ensures,
      c.if-v-4.true,
      c.if-v-3.false,
      c.if-v-2.false,
      c.if-v.false,
    )

pub returns : goal.returns
unfolding packet_bound
returns c =
    rw (
      c.nocop_bound.ensures,
      c.if-v-4.false,
      c.if-v-3.false,
      c.if-v-2.false,
      c.if-v.false,
    )

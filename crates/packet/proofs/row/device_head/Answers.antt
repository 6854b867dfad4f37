-- `device_head` meets its contract: the test on the device picks the two high bits, and the remainder is below 16.
use native.Mathlib.Omega.{arith}
use borrow.Author.Tests.{lt-ltb, le-ltb}
use Rattle.packet.specs.Row.{device_head}
use Rattle.packet.proofs.row.device_head.Goals as goal

pub returns-then-device-lt16 : goal.returns-then-device-lt16
unfolding device_head
returns-then-device-lt16 c = rw (lt-ltb _ 16 c.if-device-lt16.true) (omega arith, omega arith)

pub returns-else-device-lt16 : goal.returns-else-device-lt16
unfolding device_head
returns-else-device-lt16 c = rw (le-ltb _ 16 c.if-device-lt16.false) (omega arith, omega arith)

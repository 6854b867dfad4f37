-- `row_fits` meets its contract: each arm is the tests of the definition, in their order.
use borrow.Author.Tests.{lt-ltb, le-ltb}
use Rattle.packet.specs.Row.{row_fits}
use Rattle.packet.proofs.row.row_fits.Goals as goal

pub returns-then-bank-lt32 : goal.returns-then-bank-lt32
unfolding row_fits
returns-then-bank-lt32 c = rw (c.in-Act.is, lt-ltb _ _ c.if-bank-lt32.true)

pub returns-else-bank-lt32 : goal.returns-else-bank-lt32
unfolding row_fits
returns-else-bank-lt32 c = rw (c.in-Act.is, le-ltb _ _ c.if-bank-lt32.false)

pub returns-in-Prer : goal.returns-in-Prer
unfolding row_fits
returns-in-Prer c = rw c.in-Prer.is

pub returns-in-Refa : goal.returns-in-Refa
unfolding row_fits
returns-in-Refa c = rw c.in-Refa.is

pub returns-in-Refp : goal.returns-in-Refp
unfolding row_fits
returns-in-Refp c = rw c.in-Refp.is

-- `num::bits::under` meets its contract.
use mathlib.Core.Path.{sym}
use Rattle.num.proofs.bits.AcrossLaws.{shift-is-under, all_under}
use Rattle.num.proofs.bits.under.Goals as goal

pub returns-then-n-lt64 : goal.returns-then-n-lt64
returns-then-n-lt64 c = shift-is-under c.args.w c.args.n c.ranges.w.fits

pub returns-else-n-lt64 : goal.returns-else-n-lt64
returns-else-n-lt64 c = sym (all_under c.args.w c.args.n c.if-n-lt64.false)

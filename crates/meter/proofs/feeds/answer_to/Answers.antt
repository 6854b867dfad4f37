-- `meter::feeds::answer_to` meets its contract: the refusals in their order. A meter that is not refused has a newest instant in
-- range, so that the sum does not wrap.
use Prim.Native.Nat.{◌+◌}
use mathlib.Core.Path.{sym, ◌∙◌}
use native.Mathlib.Omega.{arith}
use borrow.Author.Tests.{le-leb, lt-leb, lt-ltb, le-ltb}
use Rattle.settings.specs.Instants.{horizon}
use Rattle.meter.specs.Meter.{meter_of, feed_answer}
use Rattle.meter.proofs.ValidLaws.{valid-in}
use Rattle.meter.proofs.feeds.answer_to.Goals as goal

pub returns-then-not-right : goal.returns-then-not-right
unfolding feed_answer
returns-then-not-right c = rw (sym c.right.ensures, c.if-not-right.true)

pub returns-then-at-lt4 : goal.returns-then-at-lt4
unfolding feed_answer
returns-then-at-lt4 c =
    let at = c.args.at in
    rw (sym c.right.ensures, c.if-not-right.false, lt-leb 4 at c.if-at-lt4.true)

pub returns-then-at-gt-HORIZON_WIDE : goal.returns-then-at-gt-HORIZON_WIDE
unfolding feed_answer
returns-then-at-gt-HORIZON_WIDE c =
    let at = c.args.at in
    rw (sym c.right.ensures, c.if-not-right.false, le-leb 4 at c.if-at-lt4.false, lt-leb at horizon c.if-at-gt-HORIZON_WIDE.true)

pub overflow_add-newest : goal.overflow_add-newest
overflow_add-newest c =
    let v = valid-in (meter_of c.args.marks.now c.args.newest) (omega arith) (sym c.right.ensures ∙ c.if-not-right.false) in
    record { fits = omega (arith, v.in-range) }

pub returns-then-at-newest : goal.returns-then-at-newest
unfolding feed_answer
returns-then-at-newest c =
    let at = c.args.at in
    rw (sym c.right.ensures, c.if-not-right.false, le-leb 4 at c.if-at-lt4.false, le-leb at horizon c.if-at-gt-HORIZON_WIDE.false, lt-ltb at (c.args.newest + 4) c.if-at-newest.true)

pub returns : goal.returns
unfolding feed_answer
returns c =
    let at = c.args.at in
    rw (sym c.right.ensures, c.if-not-right.false, le-leb 4 at c.if-at-lt4.false, le-leb at horizon c.if-at-gt-HORIZON_WIDE.false, le-ltb at (c.args.newest + 4) c.if-at-newest.false)

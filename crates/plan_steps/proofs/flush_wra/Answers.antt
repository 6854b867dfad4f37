-- `plan_steps::flush_wra` meets its contract.
use mathlib.Core.Path.{sym, ◌∙◌}
use native.Mathlib.Omega.{arith}
use Rattle.plan_steps.proofs.Closing.{closing-ready, once-fits, once-drawn, older-fits, older-after, newer-waits, newer-closes, newer-fits, twice-drawn}
use Rattle.plan_steps.proofs.flush_wra.Goals as goal

pub nocop-next-requires : goal.nocop-next-requires
nocop-next-requires c =
    let a = c.args in
    let e = sym c.two.ensures ∙ c.if-two.true in
    record {
      ready = closing-ready _ _ _ c.requires.ready (omega arith) c.requires.newest_closes;
      b_value = c.requires.newest_closes.waits;
      closes = c.requires.newest_closes.older e;
      to_in_bounds = older-fits _ _ _ c.requires.ready (omega arith) c.requires.newest_closes e a.room.now a.to c.requires.fits;
    }

pub nocop_closing-requires : goal.nocop_closing-requires
nocop_closing-requires c =
    let e = sym c.two.ensures ∙ c.if-two.true in
    let w = c.nocop-next.ensures in
    let r = older-after _ _ _ c.requires.ready (omega arith) c.requires.newest_closes e _ _ c.requires.fits _ _ _ w in
    record {
      ready = r.ready;
      b_value = newer-waits _ _ _ c.requires.ready (omega arith) c.requires.newest_closes e _ _ c.requires.fits _ _ _ w;
      closes = newer-closes _ _ _ c.requires.ready (omega arith) c.requires.newest_closes e _ _ c.requires.fits _ _ _ w;
      to_in_bounds = newer-fits _ _ _ c.requires.ready (omega arith) c.requires.newest_closes e _ _ c.requires.fits _ _ _ w;
    }

pub returns-then-two : goal.returns-then-two
returns-then-two c =
    let e = sym c.two.ensures ∙ c.if-two.true in
    twice-drawn _ _ _ c.requires.ready (omega arith) c.requires.newest_closes e _ _ c.requires.fits _ _ _ c.nocop-next.ensures _ _ _ c.nocop_closing.ensures

pub nocop_closing-requires-2 : goal.nocop_closing-requires-2
nocop_closing-requires-2 c =
    let a = c.args in
    let e = sym c.two.ensures ∙ c.if-two.false in
    record {
      ready = closing-ready _ _ _ c.requires.ready (omega arith) c.requires.newest_closes;
      b_value = c.requires.newest_closes.waits;
      closes = c.requires.newest_closes.alone e;
      to_in_bounds = once-fits _ _ _ c.requires.ready (omega arith) c.requires.newest_closes e a.room.now a.to c.requires.fits;
    }

pub returns : goal.returns
returns c =
    let e = sym c.two.ensures ∙ c.if-two.false in
    once-drawn _ _ _ c.requires.ready (omega arith) c.requires.newest_closes e _ _ _ _ _ c.nocop_closing-2.ensures

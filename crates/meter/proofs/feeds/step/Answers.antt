-- `meter::feeds::step` meets its contract: an accepted instant comes after the newest.
use Prim.Native.Nat.{ℕ}
use mathlib.Core.Path.{◌≡◌, sym, ◌∙◌}
use mathlib.Core.Bool.{true}
use native.Mathlib.Omega.{arith}
use Rattle.meter.specs.declared.Meter.{Meter}
use Rattle.std.specs.Prelude.{Ok, Err}
use Rattle.std.proofs.lemmas.Result.{err_from_is_err_and}
use Rattle.meter.specs.Answer.{feed_number, feed_accepted}
use Rattle.meter.specs.Meter.{feed_answer, advanced, feed_meter, where_accepted, fed_by}
use Rattle.meter.proofs.RunLaws.{accepted-follows}
use Rattle.meter.proofs.feeds.step.Goals as goal

is-accepted : (m : Meter) (t : ℕ) → feed_answer m t ≡ Ok tt → feed_accepted (feed_answer m t) ≡ true
unfolding feed_accepted feed_number
is-accepted m t z = rw z

pub overflow_sub-t : goal.overflow_sub-t
overflow_sub-t c =
    let m = c.args.m in
    let t = c.from-t.result in
    let f = accepted-follows m t (is-accepted m t (sym c.answer_to.ensures ∙ c.in_ok-answer_to.was)) in
    omega (arith, f.after)

pub returns : goal.returns
unfolding fed_by where_accepted feed_meter advanced feed_accepted feed_number
returns c =
    let a : feed_answer c.args.m c.from-t.result ≡ Ok tt = sym c.answer_to.ensures ∙ c.in_ok-answer_to.was in
    let e : c.from-t.result ≡ c.args.at.0 = c.from-t.ensures in
    rw (c.pushed-pushed.ensures, ← e, a)

pub returns-in_err-answer_to : goal.returns-in_err-answer_to
unfolding fed_by where_accepted
returns-in_err-answer_to c =
    let p = err_from_is_err_and c.from_residual.result c.from_residual.ensures.1 in
    let a : feed_answer c.args.m c.from-t.result ≡ Err c.in_err-answer_to.field-0.0 = sym c.answer_to.ensures ∙ c.in_err-answer_to.was in
    let e : c.from-t.result ≡ c.args.at.0 = c.from-t.ensures in
    rw (p.1, p.2, ← e, a)

-- `meter::feeds::step_at` meets its contract: a feed's result says both parts of its answer.
use mathlib.Core.Path.{◌≡◌, refl, sym, ◌∙◌}
use mathlib.Core.Bool.{cond}
use Rattle.std.specs.Prelude.{Err, Ok, Result, MatchResult}
use Rattle.std.proofs.lemmas.Result.{MatchResult-at_ok, MatchResult-at_err}
use Rattle.meter.specs.declared.Meter.{Meter}
use Rattle.meter.specs.declared.FedNumber.{FedNumber}
use Rattle.meter.specs.declared.FeedRefusal.{FeedRefusal}
use Rattle.meter.specs.declared.FeedRefusal.TheVariants.{Settings, Horizon, Overlap}
use Rattle.meter.specs.Answer.{feed_number, feed_accepted}
use Rattle.meter.specs.Meter.{feed_answer, advanced, feed_meter, where_accepted, fed_by}
use Rattle.meter.specs.Calls.{fed_answered}
use Rattle.meter.proofs.feeds.step_at.Goals as goal

-- the two parts, for an answer, the next meter and the one before
abbrev both : Result (Unit {0}) FeedRefusal → Meter → Meter → FedNumber
both a next m = record { meter = cond (feed_accepted a) next m; number = feed_number a }

abbrev AtOk : FedNumber → Meter → Type 0
AtOk f next = f ≡ record { meter = next; number = 0 }

abbrev AtErr : FedNumber → Meter → FeedRefusal → Type 0
AtErr f m why = f ≡ record { meter = m; number = feed_number (Err why) }

told : (a : Result (Unit {0}) FeedRefusal) (next m : Meter) → MatchResult (where_accepted a (cond (feed_accepted a) next m)) (AtOk (both a next m)) (AtErr (both a next m) m)
unfolding where_accepted feed_accepted feed_number
told (Ok tt) next m = refl
told (Err Settings) next m = refl
told (Err Horizon) next m = refl
told (Err Overlap) next m = refl

pub returns-in-Ok : goal.returns-in-Ok
unfolding fed_answered fed_by feed_meter
returns-in-Ok c =
    let m = c.args.m in
    let at = c.args.at in
    let f = fed_answered m at in
    sym (MatchResult-at_ok (AtOk f) (AtErr f m) c.in-Ok.meter (sym c.step.ensures ∙ c.in-Ok.is) (told (feed_answer m at) (advanced m at) m))

pub returns-in-Err : goal.returns-in-Err
unfolding fed_answered fed_by feed_meter
returns-in-Err c =
    let m = c.args.m in
    let at = c.args.at in
    let f = fed_answered m at in
    rw c.from.ensures (sym (MatchResult-at_err (AtOk f) (AtErr f m) c.in-Err.why (sym c.step.ensures ∙ c.in-Err.is) (told (feed_answer m at) (advanced m at) m)))

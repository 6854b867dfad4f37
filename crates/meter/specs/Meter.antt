-- The meter's state and what a feed makes of it (document 02, request g). Mark i is 1 where an instant was accepted i cycles
-- before the newest.
-- Assumes nothing.
use Rattle.std.specs.Prelude.{ℕ, ◌+◌, ◌-◌, Bool, cond, ◌&&◌, ◌||◌, List, eqb, leb, ltb, Err, Ok, Result}
use Rattle.num.specs.Bytes.{zeros}
use Rattle.settings.specs.Instants.{horizon, is_instant}
use Rattle.num.specs.Marks.{mark, count_up_to, later, all_apart, below, pushed}
use Rattle.meter.specs.declared.Meter.{Meter}
use Rattle.meter.specs.declared.FeedRefusal.{FeedRefusal}
use Rattle.meter.specs.declared.FeedRefusal.TheVariants.{Settings, Horizon, Overlap}
use Rattle.meter.specs.Answer.{feed_accepted}

-- a meter of its parts
abbrev pub meter_of : List ℕ → ℕ → Meter
meter_of marks newest = record { marks = marks; newest = newest }

-- before any feed
unfoldable pub fresh_meter : Meter
fresh_meter = meter_of (zeros 16) 0

-- "A meter state that no such run gives falls under 1": the newest is marked, unless there is none; instants are at least 4
-- apart, and each is 4 or later
unfoldable pub meter_valid : Meter → Bool
meter_valid m =
    leb m.newest horizon && ((eqb m.newest 0 || mark m.marks 0) && (all_apart m.marks && below m.marks (m.newest - 3)))

-- 1, then 7, then 16
unfoldable pub feed_answer : Meter → ℕ → Result (Unit {0}) FeedRefusal
feed_answer m at =
    cond (meter_valid m) (cond (is_instant at) (cond (ltb at (m.newest + 4)) (Err Overlap) (Ok tt)) (Err Horizon)) (Err Settings)

-- the meter after an instant that is accepted: older marks are as much older as it is later
unfoldable pub advanced : Meter → ℕ → Meter
advanced m at = meter_of (pushed m.marks (at - m.newest)) at

-- a refused feed changes nothing
unfoldable pub feed_meter : Meter → ℕ → Meter
feed_meter m at = cond (feed_accepted (feed_answer m at)) (advanced m at) m

-- a meter where an answer is no refusal
unfoldable pub where_accepted : Result (Unit {0}) FeedRefusal → Meter → Result Meter FeedRefusal
where_accepted (Ok tt) m = Ok m
where_accepted (Err why) m = Err why

-- one feed: the meter after it, or its refusal
unfoldable pub fed_by : Meter → ℕ → Result Meter FeedRefusal
fed_by m at = where_accepted (feed_answer m at) (feed_meter m at)

-- whether the cycle i before the newest dualoct's fourth carried data: that of an instant i, i - 1, i - 2 or i - 3 cycles
-- before the newest
unfoldable pub busy : Meter → ℕ → Bool
busy m i = mark m.marks i || (later (mark m.marks) 1 i || (later (mark m.marks) 2 i || later (mark m.marks) 3 i))

unfoldable pub busy_count : Meter → ℕ
busy_count m = count_up_to (busy m) 1024

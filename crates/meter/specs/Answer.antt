-- What a feed answers, by the tables of documents 01 and 02.
-- Assumes nothing.
use Rattle.std.specs.Prelude.{ℕ, Bool, eqb, Err, Ok, Result}
use Rattle.meter.specs.declared.FeedRefusal.{FeedRefusal}
use Rattle.meter.specs.declared.FeedRefusal.TheVariants.{Settings, Horizon, Overlap}

-- 1 settings, 7 horizon, 16 overlap
unfoldable pub feed_number : Result (Unit {0}) FeedRefusal → ℕ
feed_number (Ok tt) = 0
feed_number (Err Settings) = 1
feed_number (Err Horizon) = 7
feed_number (Err Overlap) = 16

-- "accepted means not refused"
unfoldable pub feed_accepted : Result (Unit {0}) FeedRefusal → Bool
feed_accepted a = eqb (feed_number a) 0

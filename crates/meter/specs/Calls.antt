-- What the meter's calls answer: rdram_meter_feed, rdram_meter_count and rdram_meter_share.
-- Assumes nothing.
use Rattle.std.specs.Prelude.{ℕ, cond, Err}
use Rattle.meter.specs.declared.Meter.{Meter}
use Rattle.meter.specs.declared.FeedRefusal.TheVariants.{Settings}
use Rattle.meter.specs.declared.FedNumber.{FedNumber}
use Rattle.meter.specs.declared.CountAnswer.{CountAnswer}
use Rattle.meter.specs.declared.ShareAnswer.{ShareAnswer}
use Rattle.meter.specs.Answer.{feed_number}
use Rattle.meter.specs.Meter.{meter_valid, feed_answer, feed_meter, busy_count}
use Rattle.meter.specs.Share.{share}

-- a feed in numbers: the meter after it, and 0 or the refusal's number
unfoldable pub fed_answered : Meter → ℕ → FedNumber
fed_answered m at = record { meter = feed_meter m at; number = feed_number (feed_answer m at) }

-- "how many of the 1,024 cycles ..", or 1
unfoldable pub count_answered : Meter → CountAnswer
count_answered m = cond (meter_valid m) (record { number = 0; count = busy_count m }) (record { number = feed_number (Err Settings); count = 0 })

-- "The share is that count over 1,024 as a 32-bit float, and must be exact"
unfoldable pub share_answered : Meter → ShareAnswer
share_answered m = record { number = (count_answered m).number; share = share (count_answered m).count }

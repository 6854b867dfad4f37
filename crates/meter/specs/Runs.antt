-- Whole runs of feeds from a fresh meter that nobody else writes (document 02, request g), newest first.
-- Assumes nothing.
use Rattle.std.specs.Prelude.{ℕ, ◌≤◌, ◌≡◌, false, cond, List, [], ◌∷◌}
use Rattle.std.specs.Float.Ieee.Exact.{HasValue}
use Rattle.meter.specs.declared.Meter.{Meter}
use Rattle.meter.specs.Answer.{feed_number, feed_accepted}
use Rattle.meter.specs.Window.{metered, answer_to}
use Rattle.meter.specs.Meter.{fresh_meter, feed_answer, feed_meter}
use Rattle.meter.specs.Share.{share}
use Rattle.meter.specs.Calls.{count_answered, share_answered}
use Rattle.meter.specs.MeterBytes.{meter_bytes, meter_in}

-- the meter after feeds of any numbers
unfoldable pub meter_after : List ℕ → Meter
meter_after [] = fresh_meter
meter_after (at ∷ fed) = feed_meter (meter_after fed) at

-- "all instants ever accepted": those whose feed answered 0
unfoldable pub heard : List ℕ → List ℕ
heard [] = []
heard (at ∷ fed) = cond (feed_accepted (feed_answer (meter_after fed) at)) (at ∷ heard fed) (heard fed)

-- the same on the bytes that the caller holds
unfoldable pub bytes_after : List ℕ → List ℕ
bytes_after [] = meter_bytes fresh_meter
bytes_after (at ∷ fed) = meter_bytes (feed_meter (meter_in (bytes_after fed)) at)

-- "From a fresh meter that nobody else writes, after any run of feeds the count equals one taken over all instants ever accepted, and
-- never passes 1,024", and "The share is that count over 1,024 as a 32-bit float, and must be exact"; the next feed answers by that
-- history, and the bytes that the caller holds are that meter's
pub record MeterRun (fed : List ℕ) : Type 0 where
  pub count : count_answered (meter_after fed) ≡ record { number = 0; count = metered (heard fed) }
  pub most : metered (heard fed) ≤ 1024
  pub shared : share_answered (meter_after fed) ≡ record { number = 0; share = share (metered (heard fed)) }
  pub exact : HasValue (share (metered (heard fed))) false (metered (heard fed)) 1024
  pub answers : (at : ℕ) → feed_number (feed_answer (meter_after fed) at) ≡ feed_number (answer_to (heard fed) at)
  pub held : meter_in (bytes_after fed) ≡ meter_after fed

-- whether a run of feeds gives a meter
abbrev pub Given : Meter → Type 0
Given m = (fed : List ℕ) × (meter_after fed ≡ m)

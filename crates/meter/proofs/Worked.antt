-- Worked runs: what the definitions compute for runs of feeds, newest first.
-- Assumes nothing.
use Prim.Native.Nat.{ℕ}
use mathlib.Core.Path.{◌≡◌, refl}
use mathlib.Core.List.{List, [], ◌∷◌, map}
use Rattle.num.specs.Search.{all_up_to}
use Rattle.num.specs.Marks.{bit, mark, word, words, count_up_to, alone, all_apart, aged, below, pushed}
use Rattle.meter.specs.Answer.{feed_number, feed_accepted}
use Rattle.meter.specs.Window.{one_of, has_data, data_cycles, metered}
use Rattle.meter.specs.Meter.{fresh_meter, meter_valid, feed_answer, advanced, feed_meter}
use Rattle.meter.specs.Runs.{meter_after, heard}

-- before any feed; one dualoct; two in a row; an overlap between them; out of range below and above; the first one whole, by three
-- cycles, two, one and none inside the window; the last instant
abbrev runs : List (List ℕ)
runs =
    []
    ∷ (4 ∷ [])
    ∷ (8 ∷ 4 ∷ [])
    ∷ (8 ∷ 7 ∷ 4 ∷ [])
    ∷ (1000000001 ∷ 4 ∷ 3 ∷ [])
    ∷ (1024 ∷ 4 ∷ [])
    ∷ (1025 ∷ 4 ∷ [])
    ∷ (1026 ∷ 4 ∷ [])
    ∷ (1027 ∷ 4 ∷ [])
    ∷ (1028 ∷ 4 ∷ [])
    ∷ (1000000000 ∷ 4 ∷ [])
    ∷ []

abbrev counts : List ℕ
counts = 0 ∷ 4 ∷ 8 ∷ 8 ∷ 4 ∷ 8 ∷ 7 ∷ 6 ∷ 5 ∷ 4 ∷ 4 ∷ []

-- over the instants that were accepted; `meter-run` says that the meter's counts are the same
pub worked : map (λ fed. metered (heard fed)) runs ≡ counts
unfolding heard meter_after feed_meter feed_answer fresh_meter meter_valid advanced feed_accepted feed_number mark bit word words alone all_apart aged below pushed all_up_to metered data_cycles has_data one_of count_up_to
worked = refl

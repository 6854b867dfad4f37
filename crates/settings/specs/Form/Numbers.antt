-- The ranges of the sixteen numbers of a settings record in two tables, as the code has them. The last number has two figures, so its
-- range is that of two bytes.
-- Assumes nothing.
use Rattle.std.specs.Prelude.{ℕ, Bool, ◌&&◌, List, [], ◌∷◌, ◌++◌, leb, ltb, get_or}
use Rattle.num.specs.Search.{all_up_to}
use Rattle.settings.specs.declared.Settings.{Settings}
use Rattle.settings.specs.Settings.{timings, lows, highs, between}

unfoldable pub leasts : List ℕ
leasts = lows ++ (1 ∷ 1 ∷ 0 ∷ [])

unfoldable pub mosts : List ℕ
mosts = highs ++ (512 ∷ 128 ∷ 0xFFFF ∷ [])

abbrev pub number_right : ℕ → ℕ → Bool
number_right i x = between (get_or leasts i 0) x (get_or mosts i 0)

-- the first n of the numbers that f gives
abbrev pub numbers_right : (ℕ → ℕ) → ℕ → Bool
numbers_right f n = all_up_to (λ i. number_right i (f i)) n

-- the numbers before the last
abbrev pub figures : Settings → List ℕ
figures s = timings s ++ (s.rows ∷ s.columns ∷ [])

-- what is asked beside the ranges of these
abbrev pub rest_right : ℕ → ℕ → ℕ → ℕ → Bool
rest_right cac cwd device core = (ltb cwd cac && leb device 31) && leb core 2

-- The 136 bytes of a meter as it lies in a caller's memory: sixteen words of marks, then the newest instant, each of 8 bytes, low
-- byte first.
-- Assumes nothing.
use Rattle.std.specs.Prelude.{ℕ, zero, suc, ◌*◌, ◌^◌, ◌<◌, ◌≡◌, List, [], ◌∷◌, ◌++◌, length, get_or}
use Rattle.num.specs.Bytes.{bytes, number, part}
use Rattle.meter.specs.declared.Meter.{Meter}

-- the first n words, each of 8 bytes
unfoldable pub word_bytes : List ℕ → ℕ → List ℕ
word_bytes ws zero = []
word_bytes ws (suc n) = word_bytes ws n ++ bytes 8 (get_or ws n 0)

unfoldable pub meter_bytes : Meter → List ℕ
meter_bytes m = word_bytes m.marks 16 ++ bytes 8 m.newest

-- and back
unfoldable pub words_in : List ℕ → ℕ → List ℕ
words_in b zero = []
words_in b (suc n) = words_in b n ++ (number (part b (8 * n) 8) ∷ [])

unfoldable pub meter_in : List ℕ → Meter
meter_in b = record { marks = words_in b 16; newest = number (part b 128 8) }

-- what any meter in memory has: sixteen words, each of 64 bits
pub record Held (m : Meter) : Type 0 where
  pub words : length m.marks ≡ 16
  pub word : (k : ℕ) → get_or m.marks k 0 < 2 ^ 64
  pub newest : m.newest < 2 ^ 64

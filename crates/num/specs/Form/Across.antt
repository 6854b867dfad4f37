-- Marks across two words: what the functions of this crate take of a word and the next one.
-- Assumes nothing.
use Rattle.std.specs.Prelude.{ℕ, ◌+◌, ◌-◌, Bool, not, cond, ◌&&◌, ◌||◌, List, ltb, get_or}
use Rattle.num.specs.Search.{all_up_to}
use Rattle.num.specs.Marks.{bit, word}

-- bit i of a word and the next one
unfoldable pub ahead : ℕ → ℕ → ℕ → Bool
ahead low high i = cond (ltb i 64) (bit low i) (bit high (i - 64))

-- their 64 bits of which the first r are the last of the low word
unfoldable pub across : ℕ → ℕ → ℕ → ℕ
across low high r = word (λ j. ahead low high (64 - r + j)) 64

-- whether no bit stands less than four after bit j of the low word
unfoldable pub lone_at : ℕ → ℕ → ℕ → Bool
lone_at low high j = not (bit low j && (ahead low high (j + 1) || (ahead low high (j + 2) || ahead low high (j + 3))))

-- nor after any of them
unfoldable pub lone : ℕ → ℕ → Bool
lone low high = all_up_to (lone_at low high) 64

-- whether bit j of a word is not there or j is below n
unfoldable pub under_at : ℕ → ℕ → ℕ → Bool
under_at w n j = not (bit w j) || ltb j n

-- whether every bit of a word is below n
unfoldable pub under : ℕ → ℕ → Bool
under w n = all_up_to (under_at w n) 64

-- word k of those that stand q words later, 0 before the first
unfoldable pub back : List ℕ → ℕ → ℕ → ℕ
back ws q k = cond (ltb k q) 0 (get_or ws (k - q) 0)

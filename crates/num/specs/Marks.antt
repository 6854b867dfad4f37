-- 1,024 marks in sixteen words of 64 bits, low word and low bit first.
-- Assumes nothing.
use Rattle.std.specs.Prelude.{ℕ, zero, suc, ◌+◌, ◌-◌, ◌*◌, ◌/◌, ◌%◌, ◌^◌, Bool, not, cond, ◌&&◌, ◌||◌, List, [], ◌∷◌, ◌++◌, eqb, leb, ltb, get_or}
use Rattle.num.specs.Search.{all_up_to}

-- bit j of a word
unfoldable pub bit : ℕ → ℕ → Bool
bit w j = eqb (w / 2 ^ j % 2) 1

-- mark i; there is none past the last word
unfoldable pub mark : List ℕ → ℕ → Bool
mark ws i = bit (get_or ws (i / 64) 0) (i % 64)

-- the number whose bit j is f j, for each j below n
unfoldable pub word : (ℕ → Bool) → ℕ → ℕ
word f zero = 0
word f (suc n) = word f n + cond (f n) (2 ^ n) 0

-- the n words whose mark i is f i
unfoldable pub words : (ℕ → Bool) → ℕ → List ℕ
words f zero = []
words f (suc n) = words f n ++ (word (λ j. f (64 * n + j)) 64 ∷ [])

-- the number of indices below n at which f holds
unfoldable pub count_up_to : (ℕ → Bool) → ℕ → ℕ
count_up_to f zero = 0
count_up_to f (suc n) = count_up_to f n + cond (f n) 1 0

-- f moved up by d: what it has at i stands at i + d
abbrev pub later : (ℕ → Bool) → ℕ → ℕ → Bool
later f d i = leb d i && f (i - d)

-- whether no mark stands less than four after mark i
unfoldable pub alone : List ℕ → ℕ → Bool
alone ws i = not (mark ws i && (mark ws (i + 1) || (mark ws (i + 2) || mark ws (i + 3))))

-- whether no mark stands less than four after another
unfoldable pub all_apart : List ℕ → Bool
all_apart ws = all_up_to (alone ws) 1024

-- whether mark i is not there or i is below n
unfoldable pub aged : List ℕ → ℕ → ℕ → Bool
aged ws n i = not (mark ws i) || ltb i n

-- whether every mark is below n
unfoldable pub below : List ℕ → ℕ → Bool
below ws n = all_up_to (aged ws n) 1024

-- every mark d later, but for those that pass the last word, and a new one at 0
unfoldable pub pushed : List ℕ → ℕ → List ℕ
pushed ws d = words (λ i. eqb i 0 || later (mark ws) d i) 16

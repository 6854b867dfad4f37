-- The numbers in the bytes of a planner. An instant is stored less 3.
-- Assumes nothing.
use Rattle.std.specs.Prelude.{ℕ, ◌*◌, ◌<◌, ◌≤◌, ◌≡◌, Bool, true, not, List, eqb, ltb, get_or}
use Rattle.num.specs.Bytes.{number, part}
use Rattle.spec_state.specs.Form.Stores.{put}

-- the stored instant at a place, and the number of two bytes
abbrev pub word : List ℕ → ℕ → ℕ
word b at = number (part b at 4)

abbrev pub half : List ℕ → ℕ → ℕ
half b at = number (part b at 2)

-- whether a write waits, and the bank of the older
abbrev pub waits_in : List ℕ → Bool
waits_in b = not (eqb (get_or b 728 0) 0)

abbrev pub held_bank : List ℕ → ℕ
held_bank b = get_or b 736 0

-- whether the older one closes its bank
abbrev pub held_closes : List ℕ → Bool
held_closes b = eqb (half b 738) 1

-- whether two wait, and the bank of the newer
abbrev pub two_in : List ℕ → Bool
two_in b = ltb 1 (get_or b 728 0)

abbrev pub next_bank : List ℕ → ℕ
next_bank b = get_or b 744 0

-- no stored instant is above a top: those of the banks, the last ones of the channel, WR's of the waiting writes, and now
pub record Tops (top : ℕ) (b : List ℕ) : Type 0 where
  pub banks : (k : ℕ) → k < 160 → word b (4 * k) ≤ top
  pub packet : word b 704 ≤ top
  pub row : word b 708 ≤ top
  pub col : word b 712 ≤ top
  pub pre : word b 716 ≤ top
  pub rd : word b 720 ≤ top
  pub implied : word b 724 ≤ top
  pub wrote : waits_in b ≡ true → word b 740 ≤ top
  pub second : two_in b ≡ true → word b 748 ≤ top
  pub now : word b 752 ≤ top

-- the same, shut: a search for a function's needs would read all its fields at each need
unfoldable pub Below : ℕ → List ℕ → Type 0
Below top b = Tops top b

-- now after a packet at t
abbrev pub now_stored : List ℕ → ℕ → List ℕ
now_stored b t = put b 752 t

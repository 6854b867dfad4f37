-- Stored instants in range: what refusal 1 leaves of the bytes of a state, so that 3 more is a number of 32 bits.
-- Assumes nothing.
use Rattle.std.specs.Prelude.{ℕ, ◌+◌, ◌*◌, ◌<◌, ◌≤◌, List}
use Rattle.num.specs.Bytes.{number, part}

-- the last instant, as it is stored
abbrev pub latest : ℕ
latest = 999999997

-- of the planes, of the last instants of the channel, of the two places of a waiting write
pub record InRange (b : List ℕ) : Type 0 where
  pub planes : (k : ℕ) → k < 160 → number (part b (4 * k) 4) ≤ latest
  pub lasts : (k : ℕ) → k < 6 → number (part b (704 + 4 * k) 4) ≤ latest
  pub write : number (part b 740 4) ≤ latest
  pub second : number (part b 748 4) ≤ latest

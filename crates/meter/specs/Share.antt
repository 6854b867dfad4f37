-- The share of busy cycles (document 02, request g): "that count over 1,024 as a 32-bit float".
-- Assumes nothing.
use Rattle.std.specs.Prelude.{ℕ, false, Float}
use Rattle.std.specs.Float.{binary32}
use Rattle.std.specs.Float.Ieee.{round}

-- the float nearest to n / 1024
unfoldable pub share : ℕ → Float
share n = round binary32 false n 1024

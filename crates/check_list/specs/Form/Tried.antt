-- What the search finds of a start.
-- Assumes nothing.
use Rattle.std.specs.Prelude.{ℕ, ◌-◌, List, ltb}
use Rattle.record.specs.declared.Record.{Record}
use Rattle.spec_rules.specs.Neighbour.{Context}
use Rattle.spec_rules.specs.Broken.{first_broken}
use Rattle.spec_check.specs.Shortest.{run, still_breaks}
use Rattle.check_list.specs.declared.shortest.Tried.{Tried}

-- of the run from record i to record j: whether it still breaks rule n there, and whether it is refused before
unfoldable pub tried_at : Context → List Record → ℕ → ℕ → ℕ → Tried
tried_at cx rs n j i = record { found = still_breaks cx rs n j i; early = ltb (first_broken cx (run rs i j)) (j - i) }

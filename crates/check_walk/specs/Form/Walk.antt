-- Where the records of a list or of a log stand, so that one walk serves both.
-- Assumes nothing.
use Rattle.std.specs.Prelude.{ℕ, zero, suc, ◌+◌, ◌*◌, ◌/◌, ◌%◌, Bool, ◌&&◌, cond, List, [], ◌∷◌, ◌++◌, eqb, ltb}
use Rattle.num.specs.Bytes.{part}
use Rattle.num.specs.Search.{first_false}
use Rattle.settings.specs.declared.Settings.{Settings}
use Rattle.record.specs.declared.Record.{Record}
use Rattle.record.specs.Record.{record_read, well_formed}
use Rattle.spec_rules.specs.Neighbour.{Context}
use Rattle.spec_rules.specs.Checks.{found_at}
use Rattle.spec_check.specs.Check.{known}
use Rattle.check_walk.specs.declared.Stop.{Stop}

-- the place of record i: in a log of blocks of 512 bytes with so many records, or in a list, which has no block, where that is 0
unfoldable pub place_in : ℕ → ℕ → ℕ
place_in per i = cond (eqb per 0) (32 * i) (512 * (i / per) + 32 * (i % per))

-- record i of the bytes of a list or of a log
abbrev pub record_via : Settings → ℕ → List ℕ → ℕ → Record
record_via s per b i = known (record_read s (part b (place_in per i) 32))

-- the first n records
unfoldable pub records_via : Settings → ℕ → List ℕ → ℕ → List Record
records_via s per b zero = []
records_via s per b (suc n) = records_via s per b n ++ (record_via s per b n ∷ [])

-- whether the bytes of record i are a record
abbrev pub formed_via : Settings → ℕ → List ℕ → ℕ → Bool
formed_via s per b i = well_formed s (part b (place_in per i) 32)

-- the rule that record i of n breaks, in the state before it
abbrev pub found_via : Context → ℕ → List ℕ → ℕ → ℕ → ℕ
found_via cx per b n i = found_at cx (records_via cx.settings per b n) i

-- the first of n records that is none or breaks a rule, and that rule
abbrev pub stop_at : Context → ℕ → List ℕ → ℕ → ℕ
stop_at cx per b n = first_false (λ i. formed_via cx.settings per b i && eqb (found_via cx per b n i) 0) n

unfoldable pub stop_of : Context → ℕ → List ℕ → ℕ → Stop
stop_of cx per b n =
    let i : ℕ = stop_at cx per b n in
    record { at = i; rule = cond (ltb i n && formed_via cx.settings per b i) (found_via cx per b n i) 0 }

-- The word of a block: the banks that its packets name (document 02, request b).
-- Assumes nothing.
use Rattle.std.specs.Prelude.{ℕ, zero, suc, Bool, false, ◌||◌, List, eqb, None, Option, Some}
use Rattle.settings.specs.declared.Settings.{Settings}
use Rattle.packet.specs.declared.RowPacket.{RowPacket}
use Rattle.packet.specs.declared.RowPacket.TheVariants.{Act, Prer, Refa, Refp}
use Rattle.packet.specs.declared.ColPacket.{ColPacket}
use Rattle.packet.specs.declared.ColPacket.TheVariants.{Nocop, Wr, Rd}
use Rattle.record.specs.declared.Record.{Record}
use Rattle.record.specs.declared.Record.TheVariants.{RowAt, ColAt, DataOf}
use Rattle.record.specs.Record.{record_read, record_at}
use Rattle.log_block.specs.Block.{used}
use Rattle.num.specs.Marks.{word}

-- whether f holds at an index below n
unfoldable pub some_up_to : (ℕ → Bool) → ℕ → Bool
some_up_to f zero = false
some_up_to f (suc n) = some_up_to f n || f n

-- whether a packet names bank b: "a ROW packet, RD or WR"; "NOCOP and D set nothing"; "An RDA counts as RD", "A WRA counts as WR"
-- (document 02 f)
unfoldable pub row_names : RowPacket → ℕ → Bool
row_names (Act bank row) b = eqb bank b
row_names (Prer bank) b = eqb bank b
row_names (Refa bank) b = eqb bank b
row_names (Refp bank) b = eqb bank b

unfoldable pub col_names : ColPacket → ℕ → Bool
col_names (Nocop mask) b = false
col_names (Wr bank column mask close) b = eqb bank b
col_names (Rd bank column mask close) b = eqb bank b

unfoldable pub names : Record → ℕ → Bool
names (RowAt t p) b = row_names p b
names (ColAt t p) b = col_names p b
names (DataOf t d) b = false

-- the same of what 32 bytes say
unfoldable pub said_names : Option Record → ℕ → Bool
said_names None b = false
said_names (Some r) b = names r b

-- whether a record that a block uses names bank b
unfoldable pub touches : Settings → List ℕ → ℕ → Bool
touches s block b = some_up_to (λ i. said_names (record_read s (record_at block i)) b) (used block)

-- "one 32-bit word per block [..] with bit b set for each bank b that a ROW packet, RD or WR of the block names"
unfoldable pub touched_word : Settings → List ℕ → ℕ
touched_word s block = word (touches s block) 32

-- The text of the listing program (document 01, "Bench runs"), in ASCII.
-- Assumes nothing.
use Rattle.std.specs.Prelude.{ℕ, zero, suc, ◌+◌, ◌*◌, ◌/◌, ◌%◌, cond, List, [], ◌∷◌, ◌++◌, ◌≡◌, eqb, ltb, length}
use Prim.Native.Char.{code}
use Prim.Native.String.{String, [] as []ˢ, ◌∷◌ as ◌∷ˢ◌}
use Rattle.num.specs.Bytes.{splice}
use Rattle.packet.specs.declared.RowPacket.{RowPacket}
use Rattle.packet.specs.declared.RowPacket.TheVariants.{Act, Prer, Refa, Refp}
use Rattle.packet.specs.declared.ColPacket.{ColPacket}
use Rattle.packet.specs.declared.ColPacket.TheVariants.{Nocop, Wr, Rd}
use Rattle.record.specs.declared.Record.{Record}
use Rattle.record.specs.declared.Record.TheVariants.{RowAt, ColAt, DataOf}

-- what a call leaves that puts text into lent bytes from a place on: every other byte as it was, and the place after the text
abbrev pub Put : List ℕ → ℕ → List ℕ → List ℕ → ℕ → Type 0
Put before at text after end = (end ≡ at + length text) × (after ≡ splice before at text)

-- room for any line
abbrev pub line_room : ℕ
line_room = 64

-- the bytes of a text
unfoldable pub codes : String → List ℕ
codes []ˢ = []
codes (c ∷ˢ s) = code c ∷ codes s

-- ---- numbers

-- a digit, in lower case
unfoldable pub digit : ℕ → ℕ
digit d = cond (ltb d 10) (48 + d) (87 + d)

-- a number below 10 ^ n in decimal digits, without leading zeros
unfoldable pub decimal_in : ℕ → ℕ → List ℕ
decimal_in zero x = []
decimal_in (suc n) x = cond (ltb x 10) (digit x ∷ []) (decimal_in n (x / 10) ++ (digit (x % 10) ∷ []))

-- a number of 64 bits
abbrev pub decimal : ℕ → List ℕ
decimal x = decimal_in 20 x

-- "mask in four hexadecimal digits"
unfoldable pub hex_four : ℕ → List ℕ
hex_four x = digit (x / 4096 % 16) ∷ digit (x / 256 % 16) ∷ digit (x / 16 % 16) ∷ digit (x % 16) ∷ []

-- ---- lines

abbrev pub space : ℕ
space = 32

abbrev pub line_end : ℕ
line_end = 10

-- "`-` when M = 0 and on every ROW and D line"
unfoldable pub dash : List ℕ
dash = codes "-"

unfoldable pub mask_text : ℕ → List ℕ
mask_text mask = cond (eqb mask 0xFFFF) dash (hex_four mask)

-- "A line: instant, name, bank, row or column (0 if none), mask"
unfoldable pub line : ℕ → List ℕ → ℕ → ℕ → List ℕ → List ℕ
line at name bank place mask =
    decimal at ++ (space ∷ (name ++ (space ∷ (decimal bank ++ (space ∷ (decimal place ++ (space ∷ (mask ++ (line_end ∷ [])))))))))

unfoldable pub row_line : ℕ → RowPacket → List ℕ
row_line t (Act b r) = line t (codes "ACT") b r dash
row_line t (Prer b) = line t (codes "PRER") b 0 dash
row_line t (Refa b) = line t (codes "REFA") b 0 dash
row_line t (Refp b) = line t (codes "REFP") b 0 dash

-- "The two names join the listing": RDA and WRA, where the packet closes its bank (document 02 f)
unfoldable pub col_line : ℕ → ColPacket → List ℕ
col_line t (Nocop m) = line t (codes "NOCOP") 0 0 (mask_text m)
col_line t (Wr b c m close) = line t (cond close (codes "WRA") (codes "WR")) b c (mask_text m)
col_line t (Rd b c m close) = line t (cond close (codes "RDA") (codes "RD")) b c (mask_text m)

-- the line of a record; "D shows its WR's bank and column", which are given
unfoldable pub record_line : ℕ → ℕ → Record → List ℕ
record_line bank column (RowAt t p) = row_line t.0 p
record_line bank column (ColAt t p) = col_line t.0 p
record_line bank column (DataOf t d) = line t.0 (codes "D") bank column dash

-- ---- the lines of a request, of a refusal and of the count

-- "No request now makes more than 16 records", under set H, whose core is split
abbrev pub most_records : ℕ
most_records = 16

-- room for the lines of a request
abbrev pub request_room : ℕ
request_room = most_records * line_room

-- bank and column of the latest WR or WRA, for the line of its D: after a record, and after a list of them
abbrev pub write_bank : Record → ℕ → ℕ
write_bank (ColAt t (Wr b c m close)) before = b
write_bank (ColAt t (Nocop m)) before = before
write_bank (ColAt t (Rd b c m close)) before = before
write_bank (RowAt t p) before = before
write_bank (DataOf t d) before = before

abbrev pub write_column : Record → ℕ → ℕ
write_column (ColAt t (Wr b c m close)) before = c
write_column (ColAt t (Nocop m)) before = before
write_column (ColAt t (Rd b c m close)) before = before
write_column (RowAt t p) before = before
write_column (DataOf t d) before = before

unfoldable pub write_bank_after : ℕ → List Record → ℕ
write_bank_after bank [] = bank
write_bank_after bank (r ∷ l) = write_bank_after (write_bank r bank) l

unfoldable pub write_column_after : ℕ → List Record → ℕ
write_column_after column [] = column
write_column_after column (r ∷ l) = write_column_after (write_column r column) l

-- a line for each record, after others
unfoldable pub record_lines : ℕ → ℕ → List Record → List ℕ
record_lines bank column [] = []
record_lines bank column (r ∷ l) = record_line bank column r ++ record_lines (write_bank r bank) (write_column r column) l

-- "A refusal prints `refused` and its number"
unfoldable pub refused_line : ℕ → List ℕ
refused_line number = codes "refused " ++ (decimal number ++ (line_end ∷ []))

-- "the last line counts records"
unfoldable pub records_line : ℕ → List ℕ
records_line count = codes "records " ++ (decimal count ++ (line_end ∷ []))

-- Worked records (document 01, "Blocks") under set H: their 32 bytes, as the paper's fields give them by hand.
-- Assumes nothing.
use Rattle.std.specs.Prelude.{Some}
use Prim.Native.Nat.{ℕ}
use mathlib.Core.Path.{◌≡◌, refl}
use mathlib.Core.Bool.{false}
use mathlib.Core.List.{List, [], ◌∷◌, map}
use Rattle.num.specs.Bytes.{bytes, number}
use Rattle.settings.specs.Bench.{set_of, set_h}
use Rattle.packet.specs.declared.RowPacket.TheVariants.{Act}
use Rattle.packet.specs.declared.ColPacket.TheVariants.{Rd}
use Rattle.packet.specs.Row.{device_head, row_fields, row_word, row_decoded}
use Rattle.packet.specs.Col.{mask_bit, mask_field, mask_said, mask_of, col_fields, close_bit, col_word, col_of, col_decoded}
use Rattle.record.specs.declared.Record.{Record}
use Rattle.record.specs.declared.Record.TheVariants.{RowAt, ColAt, DataOf}
use Rattle.record.specs.Record.{record_fields, record_bytes, row_record, col_record, record_of, record_read}

-- ACT 0/0 at 4, RD 0/1 at 13, and the data F0 to FF at the last instant
unfoldable pub records : List Record
records =
    RowAt (record { 0 = 4 }) (Act 0 0)
    ∷ ColAt (record { 0 = 13 }) (Rd 0 1 0xFFFF false)
    ∷ DataOf (record { 0 = 1000000000 }) (record { dqa = 0xF7F6F5F4F3F2F1F0; dqb = 0xFFFEFDFCFBFAF9F8 })
    ∷ []

-- instant 4, kind 1, zero 3; word 8, here 401000; data 16
unfoldable pub act_bytes : List ℕ
act_bytes =
    0x04 ∷ 0x00 ∷ 0x00 ∷ 0x00 ∷ 0x00 ∷ 0x00 ∷ 0x00 ∷ 0x00
    ∷ 0x00 ∷ 0x10 ∷ 0x40 ∷ 0x00 ∷ 0x00 ∷ 0x00 ∷ 0x00 ∷ 0x00
    ∷ 0x00 ∷ 0x00 ∷ 0x00 ∷ 0x00 ∷ 0x00 ∷ 0x00 ∷ 0x00 ∷ 0x00
    ∷ 0x00 ∷ 0x00 ∷ 0x00 ∷ 0x00 ∷ 0x00 ∷ 0x00 ∷ 0x00 ∷ 0x00 ∷ []

-- the word 8000260000
unfoldable pub rd_bytes : List ℕ
rd_bytes =
    0x0D ∷ 0x00 ∷ 0x00 ∷ 0x00 ∷ 0x01 ∷ 0x00 ∷ 0x00 ∷ 0x00
    ∷ 0x00 ∷ 0x00 ∷ 0x26 ∷ 0x00 ∷ 0x80 ∷ 0x00 ∷ 0x00 ∷ 0x00
    ∷ 0x00 ∷ 0x00 ∷ 0x00 ∷ 0x00 ∷ 0x00 ∷ 0x00 ∷ 0x00 ∷ 0x00
    ∷ 0x00 ∷ 0x00 ∷ 0x00 ∷ 0x00 ∷ 0x00 ∷ 0x00 ∷ 0x00 ∷ 0x00 ∷ []

-- the instant 3B9ACA00, word 0
unfoldable pub data_bytes : List ℕ
data_bytes =
    0x00 ∷ 0xCA ∷ 0x9A ∷ 0x3B ∷ 0x02 ∷ 0x00 ∷ 0x00 ∷ 0x00
    ∷ 0x00 ∷ 0x00 ∷ 0x00 ∷ 0x00 ∷ 0x00 ∷ 0x00 ∷ 0x00 ∷ 0x00
    ∷ 0xF0 ∷ 0xF1 ∷ 0xF2 ∷ 0xF3 ∷ 0xF4 ∷ 0xF5 ∷ 0xF6 ∷ 0xF7
    ∷ 0xF8 ∷ 0xF9 ∷ 0xFA ∷ 0xFB ∷ 0xFC ∷ 0xFD ∷ 0xFE ∷ 0xFF ∷ []

unfoldable pub paper : List (List ℕ)
paper = act_bytes ∷ rd_bytes ∷ data_bytes ∷ []

-- written and read
pub worked : (map (record_bytes set_h) records ≡ paper) × (map (record_read set_h) paper ≡ map Some records)
unfolding set_of set_h records act_bytes rd_bytes data_bytes paper bytes number device_head row_fields row_word row_decoded mask_bit mask_field mask_said mask_of col_fields close_bit col_word col_of col_decoded record_fields record_bytes row_record col_record record_of record_read
worked = (refl, refl)

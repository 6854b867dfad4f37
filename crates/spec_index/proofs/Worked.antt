-- A block worked by hand: ACT to bank 7, NOCOP, WR to bank 3 with its D, RD of bank 3, REFA to bank 31, RDA of bank 12 and WRA to
-- bank 20.
-- Assumes nothing.
use Prim.Native.Nat.{ℕ, ◌+◌, ◌^◌}
use mathlib.Core.Path.{◌≡◌, refl}
use mathlib.Core.Bool.{true, false}
use mathlib.Core.List.{List, [], ◌++◌}
use Rattle.num.specs.Bytes.{bytes, number}
use Rattle.packet.specs.declared.RowPacket.TheVariants.{Act, Refa}
use Rattle.packet.specs.declared.ColPacket.TheVariants.{Nocop, Wr, Rd}
use Rattle.packet.specs.Row.{device_head, row_fields, row_word, row_of, row_decoded}
use Rattle.packet.specs.Col.{mask_bit, mask_field, col_fields, close_bit, col_word, mask_said, mask_of, col_of, col_decoded}
use Rattle.record.specs.declared.Record.TheVariants.{RowAt, ColAt, DataOf}
use Rattle.record.specs.Record.{record_fields, record_bytes, row_record, col_record, record_of, record_read}
use Rattle.settings.specs.Bench.{set_of, set_h}
use Rattle.log_block.specs.Block.{block_body}
use Rattle.num.specs.Marks.{word}
use Rattle.spec_index.specs.Touched.{some_up_to, row_names, col_names, names, said_names, touches, touched_word}

pub records : List ℕ
records =
    record_bytes set_h (RowAt (record { 0 = 4 }) (Act 7 1)) ++ record_bytes set_h (ColAt (record { 0 = 8 }) (Nocop 0xFFFF))
    ++ record_bytes set_h (ColAt (record { 0 = 13 }) (Wr 3 2 3 false)) ++ record_bytes set_h (DataOf (record { 0 = 19 }) (record { dqa = 1; dqb = 2 }))
    ++ record_bytes set_h (ColAt (record { 0 = 24 }) (Rd 3 2 0xFFFF false)) ++ record_bytes set_h (RowAt (record { 0 = 28 }) (Refa 31))
    ++ record_bytes set_h (ColAt (record { 0 = 32 }) (Rd 12 0 0xFFFF true)) ++ record_bytes set_h (ColAt (record { 0 = 36 }) (Wr 20 1 0xFFFF true))

pub worked : touched_word set_h (block_body [] 0 records) ≡ 2 ^ 3 + 2 ^ 7 + 2 ^ 12 + 2 ^ 20 + 2 ^ 31
unfolding records bytes number device_head row_fields row_word row_of row_decoded mask_bit mask_field col_fields close_bit col_word mask_said mask_of col_of col_decoded record_fields record_bytes row_record col_record record_of record_read block_body word some_up_to row_names col_names names said_names touches touched_word set_of set_h
worked = refl

-- A worked stamped log (document 02, request i): RD 0/1 at 13 under set H, one block of one record.
-- Assumes nothing.
use Prim.Native.Nat.{ℕ}
use mathlib.Core.Path.{◌≡◌, refl}
use mathlib.Core.Bool.{true}
use mathlib.Core.List.{List, [], ◌∷◌, ◌++◌}
use Rattle.num.specs.Bytes.{bytes, number, zeros}
use Rattle.num.specs.Search.{all_up_to, first_false}
use Rattle.settings.specs.Bench.{set_of, set_h}
use Rattle.settings.specs.Settings.{lows, highs, valid, half_bytes, settings_bytes, settings_read}
use Rattle.record.proofs.Worked.{rd_bytes}
use Rattle.log_block.specs.Block.{word_sum, block_body, check_word, block, log_up_to, log_of, block_right, list_up_to, list_of}
use Rattle.log_stamp.specs.Stamp.{in_range, stamp_right, first_bad_stamp}

-- 28 20 8 8 8 9 8 4 4 4 8 6, tOFFP 4, 2 rows, 4 columns, device 0 and core form 0
unfoldable pub stamp_h : List ℕ
stamp_h =
    0x1C ∷ 0x00 ∷ 0x14 ∷ 0x00 ∷ 0x08 ∷ 0x00 ∷ 0x08 ∷ 0x00
    ∷ 0x08 ∷ 0x00 ∷ 0x09 ∷ 0x00 ∷ 0x08 ∷ 0x00 ∷ 0x04 ∷ 0x00
    ∷ 0x04 ∷ 0x00 ∷ 0x04 ∷ 0x00 ∷ 0x08 ∷ 0x00 ∷ 0x06 ∷ 0x00
    ∷ 0x04 ∷ 0x00 ∷ 0x02 ∷ 0x00 ∷ 0x04 ∷ 0x00 ∷ 0x00 ∷ 0x00 ∷ []

-- 13 records' places of zeros, the stamp, block number 0, 1 record used. The words of the record that are not 0 are D, 1, 260000, 80, those
-- of the stamp sum to 350048; with the count they sum to 5B00D7, so that the check word is FFA4FF29
unfoldable pub paper : List ℕ
paper =
    rd_bytes ++ (zeros 416 ++ (stamp_h ++ (0x00 ∷ 0x00 ∷ 0x00 ∷ 0x00 ∷ 0x01 ∷ 0x00 ∷ 0x00 ∷ 0x00 ∷ (zeros 20 ++ (0x29 ∷ 0xFF ∷ 0xA4 ∷ 0xFF ∷ [])))))

-- the stamp is the settings record; the log is written, is right, and gives the list back
pub worked : (settings_bytes set_h ≡ stamp_h) × (log_of 14 stamp_h rd_bytes ≡ paper) × (block_right 14 0 true paper ≡ true) × (first_bad_stamp paper ≡ 1) × (list_of paper ≡ rd_bytes)
unfolding set_of set_h lows highs valid half_bytes settings_bytes settings_read stamp_h paper rd_bytes bytes number all_up_to first_false word_sum block_body check_word block log_up_to log_of block_right list_up_to list_of in_range stamp_right first_bad_stamp
worked = (refl, refl, refl, refl, refl)

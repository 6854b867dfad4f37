-- A worked block of 512 bytes (document 01, "Blocks"): block 1 of a log, the last, with two records.
-- Assumes nothing.
use Rattle.std.proofs.Common.{◌≡◌, ℕ, ◌*◌, true, false, List, [], ◌∷◌, ◌++◌, refl}
use Rattle.num.specs.Bytes.{bytes, number, part, zeros}
use Rattle.num.specs.Search.{all_up_to}
use Rattle.record.proofs.Worked.{rd_bytes, data_bytes}
use Rattle.log_block.specs.Block.{word_sum, block_body, check_word, block, used, block_right}

-- RD 0/1 at 13, and data at 1,000,000,000
unfoldable pub used_records : List ℕ
used_records = rd_bytes ++ data_bytes

-- the words of the first record that are not 0: D, 1, 260000, 80; of the second 3B9ACA00, 2, F3F2F1F0, F7F6F5F4, FBFAF9F8, FFFEFDFC;
-- then block number 1 and 2 records used. They sum to 423A4AA6B, so that the check word is DC5B5595
unfoldable pub paper : List ℕ
paper =
    used_records ++ (zeros 416 ++ (0x01 ∷ 0x00 ∷ 0x00 ∷ 0x00 ∷ 0x02 ∷ 0x00 ∷ 0x00 ∷ 0x00 ∷ (zeros 20 ++ (0x95 ∷ 0x55 ∷ 0x5B ∷ 0xDC ∷ []))))

-- written; right as the last block, but not as one before the last; read
pub worked : (block [] 1 used_records ≡ paper) × (block_right 15 1 true paper ≡ true) × (block_right 15 1 false paper ≡ false) × (part paper 0 (32 * used paper) ≡ used_records)
unfolding used_records paper rd_bytes data_bytes bytes number all_up_to word_sum block_body check_word block block_right
worked = (refl, refl, refl, refl)

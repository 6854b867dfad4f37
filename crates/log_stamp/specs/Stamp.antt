-- The stamp of a block and the settings of a log (document 02, request i): "The new block has 14 records (used 1 to 14), then sixteen
-- 16-bit numbers, low byte first: the twelve timings in document 01's naming order with tOFFP after them, rows, columns, and device +
-- 256 × core form." It is the settings record.
-- Assumes nothing.
use Rattle.std.specs.Prelude.{ℕ, Bool, true, false, cond, ◌&&◌, List, eqb, get_or, None, Option, Some}
use Rattle.num.specs.Search.{all_up_to, first_false}
use Rattle.settings.specs.declared.Settings.{Settings}
use Rattle.settings.specs.Settings.{settings_in, settings_read}
use Rattle.record.specs.declared.Refusal.{Refusal}
use Rattle.record.specs.declared.Refusal.TheVariants.{Stamp}
use Rattle.log_block.specs.Block.{blocks_in, block_at, stamp_of, list_of}
use Rattle.log_block.specs.Right.{right_blocks, right_records}

-- the stamp of block k
abbrev pub stamp_at : List ℕ → ℕ → List ℕ
stamp_at log k = stamp_of 14 (block_at log k)

unfoldable pub in_range : Option Settings → Bool
in_range None = false
in_range (Some s) = true

-- whether two stamps are the same 32 bytes
abbrev pub same_stamp : List ℕ → List ℕ → Bool
same_stamp a b = all_up_to (λ i. eqb (get_or a i 0) (get_or b i 0)) 32

-- "settings are out of range or differ from block 0's"
unfoldable pub stamp_right : List ℕ → ℕ → Bool
stamp_right log k = in_range (settings_read (stamp_at log k)) && same_stamp (stamp_at log k) (stamp_at log 0)

-- "17 stamp, naming the first block whose settings are out of range or differ from block 0's", or the number of blocks
unfoldable pub first_bad_stamp : List ℕ → ℕ
first_bad_stamp log = first_false (stamp_right log) (blocks_in log)

-- the settings that a log carries, those of block 0. An empty log carries none; it has no record that they would judge.
abbrev pub settings_of : List ℕ → Settings
settings_of log = settings_in (stamp_at log 0)

module _ {R : Type 0} (refused : Refusal → R) where
  abbrev pub right_stamps : List ℕ → R → R
  right_stamps log next = cond (eqb (first_bad_stamp log) (blocks_in log)) next (refused (Stamp (first_bad_stamp log)))

  -- "after 12 and before 10": the blocks of a log, their stamps, the list that it keeps, and then what its settings say
  abbrev pub right_stamped : List ℕ → (Settings → R) → R
  right_stamped log next =
      right_blocks refused 14 log (right_stamps log (right_records refused (settings_of log) (list_of log) (next (settings_of log))))

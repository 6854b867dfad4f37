-- The store and its dualocts (document 01, "Settings", "Flat memory and whole runs").
-- Assumes nothing.
use Rattle.std.specs.Prelude.{ℕ, zero, suc, ◌+◌, ◌*◌, ◌/◌, ◌%◌, ◌^◌, Bool, cond, ◌&&◌, List, ◌++◌, eqb, get_or}
use Rattle.num.specs.Bytes.{bytes, part}
use Rattle.record.specs.declared.Dualoct.{Dualoct}
use Rattle.spec_rules.specs.Neighbour.{Context}
use Rattle.spec_rules.specs.Channel.{imap}

-- "The store has rows × columns × 512 bytes: bank, then row, then column, then byte."
unfoldable pub store_length : Context → ℕ
store_length cx = cx.settings.rows * cx.settings.columns * 512

-- the number of a dualoct: "A dualoct is the 16 bytes from 16 × ((bank × rows + row) × columns + column)."
unfoldable pub dualoct_at : Context → ℕ → ℕ → ℕ → ℕ
dualoct_at cx bank row column = (bank * cx.settings.rows + row) * cx.settings.columns + column

-- the 16 bytes of dualoct k
unfoldable pub dualoct : List ℕ → ℕ → List ℕ
dualoct store k = part store (16 * k) 16

-- "Bytes 0 to 7 of a dualoct travel on DQA, earliest first, 8 to 15 on DQB."
unfoldable pub dualoct_bytes : Dualoct → List ℕ
dualoct_bytes d = bytes 8 d.dqa ++ bytes 8 d.dqb

-- "Mask bit i governs byte i."
unfoldable pub governs : ℕ → ℕ → Bool
governs mask i = eqb (mask / 2 ^ i % 2) 1

-- byte i of dualoct k becomes data byte i where mask bit i is 1; every other byte stays
unfoldable pub masked : List ℕ → ℕ → ℕ → List ℕ → List ℕ
masked store k mask new = imap (λ i old. cond (eqb (i / 16) k && governs mask (i % 16)) (get_or new (i % 16) 0) old) 0 store

-- the ones among the n low bits of a mask
unfoldable pub ones_up_to : ℕ → ℕ → ℕ
ones_up_to mask zero = 0
ones_up_to mask (suc n) = ones_up_to mask n + cond (governs mask n) 1 0

-- the ones of a 16-bit mask
abbrev pub ones : ℕ → ℕ
ones mask = ones_up_to mask 16

-- What is promised of a page (document 02, request k).
-- Assumes nothing.
use Rattle.std.specs.Prelude.{ℕ, ◌+◌, ◌*◌, ◌<◌, ◌≤◌, ◌≡◌, true, List, ◌∷◌, ◌++◌, length, get_or, None, Some}
use Prim.Native.Char.{code}
use Rattle.settings.specs.declared.Settings.{Settings}
use Rattle.record.specs.declared.Record.{Record}
use Rattle.spec_rules.specs.History.{has}
use Rattle.spec_rules.specs.Broken.{record_in}
use Rattle.spec_page.specs.Page.{Line, ROW, COL, DQ, shows, cell, scale, page_cycles, page_bytes, page}

-- "Each character is fixed by list, settings and start": a page of 4 × 73 bytes, of which character k of the 64 of a line is that of
-- cycle start + k
pub record Characters (s : Settings) (rs : List Record) (start : ℕ) : Type 0 where
  pub size : length (page s rs start) ≡ page_bytes
  pub row : (k : ℕ) → k < page_cycles → get_or (page s rs start) (0 * 73 + 8 + k) 0 ≡ cell s rs ROW (start + k)
  pub col : (k : ℕ) → k < page_cycles → get_or (page s rs start) (1 * 73 + 8 + k) 0 ≡ cell s rs COL (start + k)
  pub dq : (k : ℕ) → k < page_cycles → get_or (page s rs start) (2 * 73 + 8 + k) 0 ≡ cell s rs DQ (start + k)
  pub of-scale : (k : ℕ) → k < page_cycles → get_or (page s rs start) (3 * 73 + 8 + k) 0 ≡ scale (start + k)

-- of a list on which every rule holds
pub record OneMark (s : Settings) (rs : List Record) : Type 0 where
  -- no two records mark one cycle of a line
  pub one : (y : Line) (c i j : ℕ) → i < length rs → j < length rs → has (shows s y (record_in rs i) c) ≡ true → has (shows s y (record_in rs j) c) ≡ true → i ≡ j
  -- a cycle that a record marks has the letter of this record
  pub marked : (y : Line) (c i x : ℕ) → i < length rs → shows s y (record_in rs i) c ≡ Some x → cell s rs y c ≡ x
  -- a cycle that no record marks is idle
  pub idle : (y : Line) (c : ℕ) → ((i : ℕ) → i < length rs → shows s y (record_in rs i) c ≡ None) → cell s rs y c ≡ code "."

-- a record marks no cycle of the page
abbrev pub Outside : Settings → Record → ℕ → Type 0
Outside s r start = (y : Line) (c : ℕ) → start ≤ c → c < start + page_cycles → shows s y r c ≡ None

-- a page is the same without such a record
abbrev pub OutsideCountsNot : Settings → ℕ → Type 0
OutsideCountsNot s start = (xs : List Record) (r : Record) (ys : List Record) → Outside s r start → page s (xs ++ r ∷ ys) start ≡ page s (xs ++ ys) start

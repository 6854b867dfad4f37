-- A page byte by byte, by the number of its line and the place in this line: the form in which code draws it.
-- Assumes nothing.
use Rattle.std.specs.Prelude.{ℕ, ◌+◌, ◌-◌, ◌*◌, ◌/◌, ◌%◌, cond, ◌&&◌, List, [], ◌++◌, eqb, leb, ltb, get_or}
use Rattle.settings.specs.declared.Settings.{Settings}
use Rattle.record.specs.declared.Record.{Record}
use Rattle.spec_page.specs.Page.{ROW, COL, DQ, cell, scale, filled, name_of}

-- the names of the four lines, one after the other
unfoldable pub names : List ℕ
names = filled (name_of ROW) ++ (filled (name_of COL) ++ (filled (name_of DQ) ++ filled []))

-- byte i of a page of which line n has the character f n c at cycle c
unfoldable pub byte_by : (ℕ → ℕ → ℕ) → ℕ → ℕ → ℕ
byte_by f start i =
    cond (leb 8 (i % 73) && ltb (i % 73) 72)
    (f (i / 73) (start + (i % 73 - 8)))
    (cond (ltb (i % 73) 8) (get_or names (8 * (i / 73) + i % 73) 0) 10)

-- the characters of the lines 0 to 3
unfoldable pub characters : Settings → List Record → ℕ → ℕ → ℕ
characters s rs n c = cond (eqb n 0) (cell s rs ROW c) (cond (eqb n 1) (cell s rs COL c) (cond (eqb n 2) (cell s rs DQ c) (scale c)))

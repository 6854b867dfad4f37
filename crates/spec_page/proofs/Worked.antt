-- Pages of lists under set H, worked by hand: document 01's run 1 from cycle 0, from cycle 2, where its first packet is cut, and its
-- end; refreshes; RDA, WRA; a WR whose D is not in the list.
-- Assumes nothing.
use Prim.Native.Nat.{ℕ}
use Prim.Native.Char.{code}
use Prim.Native.String.{String, [] as []ˢ, ◌∷◌ as ◌∷ˢ◌}
use mathlib.Core.Path.{◌≡◌, refl}
use mathlib.Core.Bool.{true, false}
use mathlib.Core.List.{List, [], ◌∷◌, ◌++◌}
use Rattle.packet.specs.declared.RowPacket.TheVariants.{Act, Prer, Refa, Refp}
use Rattle.packet.specs.declared.ColPacket.TheVariants.{Nocop, Wr, Rd}
use Rattle.record.specs.declared.Record.{Record}
use Rattle.settings.specs.Bench.{set_of, set_h}
use Rattle.spec_rules.proofs.Worked.{row, col, dat, full}
use Rattle.spec_page.specs.Page.{before, read_shows, shows, cell, scale, filled, name_of, up_to, page_line, page}

abbrev codes : String → List ℕ
codes []ˢ = []
codes (c ∷ˢ s) = code c ∷ codes s

abbrev run1 : List Record
run1 =
    row 4 (Act 0 0) ∷ col 13 (Rd 0 1 full false) ∷ col 19 (Wr 0 1 full false) ∷ dat 25 ∷ col 27 (Nocop 3) ∷ col 31 (Rd 0 1 full false)
    ∷ row 35 (Prer 0) ∷ row 43 (Act 1 0) ∷ col 52 (Rd 1 0 full false) ∷ row 63 (Prer 1) ∷ []

abbrev refreshes : List Record
refreshes = row 4 (Refa 0) ∷ row 24 (Refp 0) ∷ row 32 (Refa 1) ∷ row 52 (Refp 1) ∷ []

-- "ACT 4, RDA 20"; then a WRA to another bank, and the list ends before its D
abbrev closing : List Record
closing = row 4 (Act 0 0) ∷ col 20 (Rd 0 1 full true) ∷ row 24 (Act 4 0) ∷ col 26 (Wr 4 1 full true) ∷ []

pub pages : List (List ℕ)
pages = page set_h run1 0 ∷ page set_h run1 2 ∷ page set_h run1 61 ∷ page set_h refreshes 3 ∷ page set_h closing 0 ∷ page set_h [] 1000000000 ∷ []

abbrev four : String → String → String → String → List ℕ
four a b c d = codes a ++ (codes b ++ (codes c ++ codes d))

pub texts : List (List ℕ)
texts =
    four
    "ROW     AAAA...........................PPPP....AAAA................PPPP.\n"
    "COL     .........RRRR..WWWW....NNNNRRRR.................RRRR............\n"
    "DQ      .....................QQQQDDDD..........QQQQ.................QQQQ\n"
    "        |       |       |       |       |       |       |       |       \n"
    ∷ four
    "ROW     AA...........................PPPP....AAAA................PPPP...\n"
    "COL     .......RRRR..WWWW....NNNNRRRR.................RRRR..............\n"
    "DQ      ...................QQQQDDDD..........QQQQ.................QQQQ..\n"
    "              |       |       |       |       |       |       |       | \n"
    ∷ four
    "ROW     PP..............................................................\n"
    "COL     ................................................................\n"
    "DQ      QQQ.............................................................\n"
    "           |       |       |       |       |       |       |       |    \n"
    ∷ four
    "ROW     F................EEEE....FFFF................EEEE...............\n"
    "COL     ................................................................\n"
    "DQ      ................................................................\n"
    "             |       |       |       |       |       |       |       |  \n"
    ∷ four
    "ROW     AAAA................AAAA........................................\n"
    "COL     ................RRRR..WWWW......................................\n"
    "DQ      ............................QQQQ................................\n"
    "        |       |       |       |       |       |       |       |       \n"
    ∷ four
    "ROW     ................................................................\n"
    "COL     ................................................................\n"
    "DQ      ................................................................\n"
    "        |       |       |       |       |       |       |       |       \n"
    ∷ []

pub worked : pages ≡ texts
unfolding pages texts set_of set_h before read_shows shows cell scale filled name_of up_to page_line page
worked = refl

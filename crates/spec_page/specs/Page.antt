-- A page of the channel (document 02, request k): "A page shows 64 cycles from a given instant: four lines ROW, COL, DQ, and a
-- scale". Text is in ASCII.
-- Assumes nothing.
use Rattle.std.specs.Prelude.{ℕ, zero, suc, ◌+◌, ◌-◌, ◌*◌, ◌%◌, cond, ◌&&◌, List, [], ◌∷◌, ◌++◌, eqb, leb, ltb, length, replicate, Option, None, Some}
use Prim.Native.Char.{code}
use Rattle.settings.specs.declared.Settings.{Settings}
use Rattle.settings.specs.declared.PacketAt.{PacketAt}
use Rattle.packet.specs.declared.RowPacket.{RowPacket}
use Rattle.packet.specs.declared.RowPacket.TheVariants.{Act, Prer, Refa, Refp}
use Rattle.packet.specs.declared.ColPacket.{ColPacket}
use Rattle.packet.specs.declared.ColPacket.TheVariants.{Nocop, Wr, Rd}
use Rattle.record.specs.declared.Record.{Record}
use Rattle.record.specs.declared.Record.TheVariants.{RowAt, ColAt, DataOf}

-- the three lines that show records
pub data Line : Type 0 where
  ROW : Line
  COL : Line
  DQ : Line

-- ---- what one record shows

-- "A ACT, P PRER, F REFA, E REFP"
abbrev pub row_letter : RowPacket → ℕ
row_letter (Act b r) = code "A"
row_letter (Prer b) = code "P"
row_letter (Refa b) = code "F"
row_letter (Refp b) = code "E"

-- "R RD or RDA, W WR or WRA, N NOCOP"
abbrev pub col_letter : ColPacket → ℕ
col_letter (Nocop m) = code "N"
col_letter (Wr b c m close) = code "W"
col_letter (Rd b c m close) = code "R"

-- the letter at cycle c of what marks the four cycles before instant t: "A packet at instant t marks cycles t − 4 to t − 1"
unfoldable pub before : ℕ → ℕ → ℕ → Option ℕ
before t letter c = cond (leb t (c + 4) && ltb c t) (Some letter) None

-- "DQ marks four cycles from the data instant": those before the instant four cycles later
abbrev pub from : ℕ → ℕ → ℕ → Option ℕ
from t letter c = before (t + 4) letter c

-- "D for a D record or Q": Q for the data of RD or RDA, which come tCAC after it. WR shows no data; its D record does.
unfoldable pub read_shows : Settings → PacketAt → ColPacket → ℕ → Option ℕ
read_shows s t (Nocop m) c = None
read_shows s t (Wr b k m close) c = None
read_shows s t (Rd b k m close) c = from (t.0 + s.cac) (code "Q") c

-- what a record shows at cycle c of a line
unfoldable pub shows : Settings → Line → Record → ℕ → Option ℕ
shows s ROW (RowAt t p) c = before t.0 (row_letter p) c
shows s ROW (ColAt t p) c = None
shows s ROW (DataOf t d) c = None
shows s COL (RowAt t p) c = None
shows s COL (ColAt t p) c = before t.0 (col_letter p) c
shows s COL (DataOf t d) c = None
shows s DQ (RowAt t p) c = None
shows s DQ (ColAt t p) c = read_shows s t p c
shows s DQ (DataOf t d) c = from t.0 (code "D") c

-- ---- the characters

abbrev pub or_else : Option ℕ → ℕ → ℕ
or_else None other = other
or_else (Some x) other = x

-- the character at cycle c of a line: what a record shows there. "Idle is a dot". In a list that passes no other record shows
-- anything there, so that their order does not count.
unfoldable pub cell : Settings → List Record → Line → ℕ → ℕ
cell s [] y c = code "."
cell s (r ∷ rs) y c = or_else (shows s y r c) (cell s rs y c)

-- "the scale has `|` where the cycle is a multiple of 8, else a space"
unfoldable pub scale : ℕ → ℕ
scale c = cond (eqb (c % 8) 0) (code "|") (code " ")

-- ---- the lines

-- "its name filled to eight with spaces (the scale has none)"
unfoldable pub filled : List ℕ → List ℕ
filled name = name ++ replicate (8 - length name) (code " ")

unfoldable pub name_of : Line → List ℕ
name_of ROW = code "R" ∷ code "O" ∷ code "W" ∷ []
name_of COL = code "C" ∷ code "O" ∷ code "L" ∷ []
name_of DQ = code "D" ∷ code "Q" ∷ []

-- f at each number below n
unfoldable pub up_to : (ℕ → ℕ) → ℕ → List ℕ
up_to f zero = []
up_to f (suc n) = up_to f n ++ (f n ∷ [])

-- "A page shows 64 cycles"
abbrev pub page_cycles : ℕ
page_cycles = 64

-- "each exactly 72 characters and a line feed, its name filled to eight with spaces [..] and one character a cycle"
unfoldable pub page_line : List ℕ → (ℕ → ℕ) → ℕ → List ℕ
page_line name character_at start = filled name ++ (up_to (λ k. character_at (start + k)) page_cycles ++ (10 ∷ []))

-- how many bytes the four lines have
abbrev pub page_bytes : ℕ
page_bytes = 4 * 73

-- the page of these records from cycle `start` on
unfoldable pub page : Settings → List Record → ℕ → List ℕ
page s rs start =
    page_line (name_of ROW) (cell s rs ROW) start ++ (page_line (name_of COL) (cell s rs COL) start ++ (page_line (name_of DQ) (cell s rs DQ) start ++ page_line [] scale start))

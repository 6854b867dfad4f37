-- Bytes of a page that a mark takes, and those of a page without records: the forms in which code draws.
-- Assumes nothing.
use Rattle.std.specs.Prelude.{ℕ, ◌+◌, ◌*◌, ◌<◌, ◌≡◌, Bool, cond, ◌&&◌, List, leb, ltb, length, get_or}
use Prim.Native.Char.{code}
use Rattle.spec_page.specs.Page.{scale, page_bytes}

-- the characters of a page without records
unfoldable pub blank : ℕ → ℕ → ℕ
blank n c = cond (ltb n 3) (code ".") (scale c)

-- whether byte i of a page is among the first j of the four cycles before instant t, on line n
unfoldable pub in_mark : ℕ → ℕ → ℕ → ℕ → ℕ → Bool
in_mark n start t j i =
    (leb (73 * n + 8) i && ltb i (73 * n + 72)) && (leb (t + (73 * n + 8)) (start + 4 + i) && ltb (start + 4 + i) (t + j + (73 * n + 8)))

-- these bytes have a letter, and the others are as they were
pub record Painted (n start t j letter : ℕ) (old new : List ℕ) : Type 0 where
  pub size : length new ≡ length old
  pub bytes : (i : ℕ) → i < page_bytes → get_or new i 0 ≡ cond (in_mark n start t j i) letter (get_or old i 0)

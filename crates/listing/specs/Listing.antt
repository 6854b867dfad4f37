-- What the listing program prints (document 01, "Bench runs").
-- Assumes nothing.
use Rattle.std.specs.Prelude.{ℕ, ◌+◌, ◌/◌, ◌%◌, Bool, cond, ◌&&◌, List, ◌++◌, eqb, leb, length}
use Rattle.listing_text.specs.Text.{line_room, refused_line, records_line}
use Rattle.listing.specs.Entries.{records_listed, text_up_to, longest_input, requests_room}

-- the lengths that are listed: whole requests, and no more than the longest
unfoldable pub length_right : ℕ → Bool
length_right n = leb n longest_input && eqb (n % 24) 0

-- the listing of an input: the text of each request, and "the last line counts records". "Input of broken length, or above
-- 65,520 bytes (2,730 requests), prints only `refused 13` and `records 0`."
unfoldable pub listing : List ℕ → List ℕ
listing input =
    let n : ℕ = length input / 24 in
    cond (length_right (length input)) (text_up_to input n ++ records_line (length (records_listed input n))) (refused_line 13 ++ records_line 0)

-- room for the text of the most requests and for the last line
abbrev pub listing_room : ℕ
listing_room = requests_room + line_room

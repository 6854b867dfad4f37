-- What the code tests of the bytes of a state: stored instants, the tags of the banks, the buffer. The laws in proofs/ say that these
-- are the tests of the state that the bytes say.
-- Assumes nothing.
use Rattle.std.specs.Prelude.{ℕ, ◌+◌, ◌*◌, ◌%◌, Bool, not, ◌&&◌, ◌||◌, cond, List, eqb, leb, ltb, get_or}
use Rattle.num.specs.Bytes.{number, part}
use Rattle.num.specs.Search.{all_up_to}
use Rattle.settings.specs.declared.Settings.{Settings}
use Rattle.spec_state.specs.ChannelBytes.{zero_part}
use Rattle.chan_view.specs.Form.Beside.{is_first}
use Rattle.state_bytes.specs.Form.Stored.{latest}

-- ---- stored instants

-- n stored instants from a place on
abbrev pub all_stored : List ℕ → ℕ → ℕ → Bool
all_stored b at n = all_up_to (λ k. leb (number (part b (at + 4 * k) 4)) latest) n

-- ---- tags

-- the highest tag of an open bank: rows, and not the tag of a refresh
abbrev pub most_tag : ℕ → ℕ
most_tag rows = cond (ltb rows 0xFFFF) rows 0xFFFE

-- what is tested of the tag of bank x and of the one before it; a planner allows no other tag (also is 0), a model that of a refresh
abbrev pub tag_right : ℕ → ℕ → ℕ → ℕ → ℕ → ℕ → Bool
tag_right core most also x below tag = (leb tag most || eqb tag also) && ((is_first core x || eqb below 0) || eqb tag 0)

abbrev pub tags_right : ℕ → ℕ → ℕ → List ℕ → Bool
tags_right rows core also b = all_up_to (λ x. tag_right core (most_tag rows) also x (number (part b (638 + 2 * x) 2)) (number (part b (640 + 2 * x) 2))) 32

-- ---- the buffer

-- the waiting write whose bytes are at a place, and the tag of its bank; no write of a planner closes its bank (close is 0), one of a
-- model may (1)
unfoldable pub write_right : ℕ → ℕ → List ℕ → ℕ → Bool
write_right columns close b p =
    let tag : ℕ = number (part b (640 + 2 * (get_or b p 0 % 32)) 2) in
    let at : ℕ = number (part b (p + 4) 4) in
    (((((ltb (get_or b p 0) 32 && ltb (get_or b (p + 1) 0) columns) && leb (number (part b (p + 2) 2)) close) && not (eqb tag 0)) && not (eqb tag 0xFFFF)) && not (eqb at 0))
    && leb at latest

-- in eight bytes: no write waits, or one or two do, whose data are not due (1, 2) or may be due (as much more: 256 of a model, 0 of a
-- planner)
unfoldable pub buffer_right : ℕ → ℕ → ℕ → List ℕ → Bool
buffer_right columns due close b =
    let count : ℕ = number (part b 728 8) in
    cond (eqb count 0)
    (zero_part b 736 8 && zero_part b 744 8)
    (cond (eqb count 1 || eqb count (1 + due))
    (write_right columns close b 736 && zero_part b 744 8)
    ((write_right columns close b 736 && (eqb count 2 || eqb count (2 + due))) && write_right columns close b 744))

-- ---- the channel

unfoldable pub channel_tested : Settings → ℕ → ℕ → ℕ → List ℕ → Bool
channel_tested s also due close b = ((all_stored b 0 160 && all_stored b 704 6) && tags_right s.rows s.core also b) && buffer_right s.columns due close b

-- ---- the fields after the channel's

abbrev pub planner_fields : List ℕ → Bool
planner_fields b =
    ((not (eqb (number (part b 752 4)) 0) && leb (number (part b 752 4)) latest) && ltb (number (part b 756 4)) 32) && zero_part b 764 4

abbrev pub model_fields : Settings → List ℕ → Bool
model_fields s b = ltb (number (part b 752 8)) 0x10000 && ltb (number (part b 752 8)) s.rows

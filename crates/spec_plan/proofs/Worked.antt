-- The runs of document 01 ("Bench runs") and runs of document 02 under set H, by the definitions: from the requests' bytes to the packet list.
-- Assumes nothing.
use Prim.Native.Nat.{ℕ}
use mathlib.Core.Path.{◌≡◌, refl}
use mathlib.Core.Bool.{true, false}
use mathlib.Core.List.{List, [], ◌∷◌, map}
use Rattle.num.specs.Bytes.{bytes, number}
use Rattle.num.specs.Search.{all_up_to}
use Rattle.settings.specs.Bench.{set_of, set_h}
use Rattle.packet.specs.declared.RowPacket.{RowPacket}
use Rattle.packet.specs.declared.RowPacket.TheVariants.{Act, Prer, Refa, Refp}
use Rattle.packet.specs.declared.ColPacket.{ColPacket}
use Rattle.packet.specs.declared.ColPacket.TheVariants.{Nocop, Wr, Rd}
use Rattle.record.specs.declared.Dualoct.{Dualoct}
use Rattle.record.specs.declared.Record.{Record}
use Rattle.record.specs.declared.Record.TheVariants.{RowAt, ColAt, DataOf}
use Rattle.record.specs.declared.Request.{Request}
use Rattle.record.specs.declared.Request.TheVariants.{Read, Write, Refresh, Wait, Flush, Close}
use Rattle.record.specs.Request.{uses_byte, spare_right, placed, request_of, request_read, request_fields, request_bytes}
use Rattle.spec_rules.specs.Neighbour.{bank_count, run_of, in_runs, context_of}
use Rattle.spec_rules.specs.Packets.{row_traits, col_traits, traits, retire_traits, implied_traits, instant, is_packet}
use Rattle.spec_rules.specs.History.{bank_by, is_closed, is_open, leaving, loads}
use Rattle.spec_rules.specs.Rules.{longest_delay}
use Rattle.spec_rules.specs.Channel.{fresh, waiting_of, buffer_of, bank_next, track_next, after_packet, track_retired, after_retire, track_implied, after_implied, after_data, after}
use Rattle.spec_rules.specs.Distances.{distances}
use Rattle.spec_rules.specs.Checks.{max_up_to, bounds}
use Rattle.spec_rules.specs.Earliest.{placed_at, under, earliest, least_from}
use Rattle.spec_plan.specs.Planner.{fresh_planner}
use Rattle.spec_plan.specs.Plan.{slot, sent, flushed, flushed_while, closed, closed_up_to, reached, planned_read, loaded, written, planned_write, turned, planned_refresh, planned_wait, planned_flush, planned_close, steps_of, planned}
use Rattle.spec_plan.specs.Call.{in_time, timely, outcome_of, unretired, outcome_by, plan_outcome, is_made, draft_by, plan_next, plan_records}
use Rattle.spec_plan.specs.Looked.{looked_up_to, looked, looked_by}
use Rattle.spec_plan.specs.Runs.{Call, planner_after, listed}

-- ---- the runs in short

read : ℕ → ℕ → ℕ → Request
read bank row column = Read (record { bank = bank; row = row; column = column }) false

-- two dualocts, so that a run shows which data go where
ones : Dualoct
ones = record { dqa = 0x0101010101010101; dqb = 0x0101010101010101 }

twos : Dualoct
twos = record { dqa = 0x0202020202020202; dqb = 0x0202020202020202 }

write : ℕ → ℕ → ℕ → ℕ → Dualoct → Request
write bank row column mask d = Write (record { bank = bank; row = row; column = column }) mask d false

-- the same, and close
read_close : ℕ → ℕ → ℕ → Request
read_close bank row column = Read (record { bank = bank; row = row; column = column }) true

write_close : ℕ → ℕ → ℕ → ℕ → Dualoct → Request
write_close bank row column mask d = Write (record { bank = bank; row = row; column = column }) mask d true

-- each request with room for the most records that one makes
calls : List Request → List Call
calls [] = []
calls (q ∷ l) = record { request = request_bytes q; room = 1024 } ∷ calls l

row : ℕ → RowPacket → Record
row t p = RowAt (record { 0 = t }) p

col : ℕ → ColPacket → Record
col t p = ColAt (record { 0 = t }) p

dat : ℕ → Dualoct → Record
dat t d = DataOf (record { 0 = t }) d

full : ℕ
full = 0xFFFF

-- the starred runs of the planner, in document 01's order
pub runs : List (List Request)
runs =
    (read 0 0 1 ∷ write 0 0 1 0x0003 ones ∷ read 0 0 1 ∷ read 1 0 0 ∷ Flush ∷ Close ∷ [])
    ∷ (read 15 0 0 ∷ read 16 0 0 ∷ [])
    ∷ (read 14 0 0 ∷ read 15 0 0 ∷ [])
    ∷ (write 0 0 0 full ones ∷ read 0 1 0 ∷ [])
    ∷ (Refresh ∷ Refresh ∷ [])
    ∷ (write 0 0 0 0x0003 ones ∷ write 0 0 0 0x0006 twos ∷ [])
    -- read 0, two writes to 4, flush, close
    ∷ (read 0 0 0 ∷ write 4 0 0 0x0003 ones ∷ write 4 0 1 0x0006 twos ∷ Flush ∷ Close ∷ [])
    -- two writes, a read of another bank; of the older's column; of the newer's column; a third and a fourth write
    ∷ (write 0 0 0 0x0003 ones ∷ write 0 0 1 0x0006 twos ∷ read 5 0 0 ∷ [])
    ∷ (write 0 0 0 0x0003 ones ∷ write 0 0 1 0x0006 twos ∷ read 0 0 0 ∷ [])
    ∷ (write 0 0 0 0x0003 ones ∷ write 0 0 1 0x0006 twos ∷ read 0 0 1 ∷ [])
    ∷ (write 0 0 0 0x0003 ones ∷ write 0 0 1 0x0006 twos ∷ write 0 0 2 full ones ∷ write 0 0 3 full twos ∷ [])
    -- eight full writes to two open rows: a WR every tCC
    ∷ (write 0 0 0 full ones ∷ write 4 0 0 full ones ∷ write 0 0 1 full twos ∷ write 4 0 1 full twos ∷ write 0 0 2 full ones ∷ write 4 0 2 full ones ∷ write 0 0 3 full twos
    ∷ write 4 0 3 full twos ∷ write 0 0 0 full twos ∷ [])
    -- a write to another bank, which comes when the first is due; a read of another row there
    ∷ (write 0 0 0 0x0003 ones ∷ write 5 0 1 0x0006 twos ∷ read 5 1 0 ∷ [])
    ∷ []

pub lists : List (List Record)
lists =
    (row 4 (Act 0 0) ∷ col 13 (Rd 0 1 full false) ∷ col 19 (Wr 0 1 full false) ∷ dat 25 ones ∷ col 27 (Nocop 0x0003) ∷ col 31 (Rd 0 1 full false)
    ∷ row 35 (Prer 0) ∷ row 43 (Act 1 0) ∷ col 52 (Rd 1 0 full false) ∷ row 63 (Prer 1) ∷ [])
    ∷ (row 4 (Act 15 0) ∷ col 13 (Rd 15 0 full false) ∷ row 13 (Act 16 0) ∷ col 22 (Rd 16 0 full false) ∷ [])
    ∷ (row 4 (Act 14 0) ∷ col 13 (Rd 14 0 full false) ∷ row 24 (Prer 14) ∷ row 32 (Act 15 0) ∷ col 41 (Rd 15 0 full false) ∷ [])
    ∷ (row 4 (Act 0 0) ∷ col 5 (Wr 0 0 full false) ∷ dat 11 ones ∷ col 13 (Nocop full) ∷ row 24 (Prer 0) ∷ row 32 (Act 0 1) ∷ col 41 (Rd 0 0 full false) ∷ [])
    ∷ (row 4 (Refa 0) ∷ row 24 (Refp 0) ∷ row 32 (Refa 1) ∷ row 52 (Refp 1) ∷ [])
    -- "In the two-writes run the second WR moves to 9, with M = 0."
    ∷ (row 4 (Act 0 0) ∷ col 5 (Wr 0 0 full false) ∷ dat 11 ones ∷ col 9 (Wr 0 0 full false) ∷ dat 15 twos ∷ [])
    ∷ (row 4 (Act 0 0) ∷ col 13 (Rd 0 0 full false) ∷ row 13 (Act 4 0) ∷ col 19 (Wr 4 0 full false) ∷ dat 25 ones ∷ col 23 (Wr 4 1 full false) ∷ dat 29 twos ∷ col 27 (Nocop 0x0003)
    ∷ col 31 (Nocop 0x0006) ∷ row 31 (Prer 0) ∷ row 39 (Prer 4) ∷ [])
    ∷ (row 4 (Act 0 0) ∷ col 5 (Wr 0 0 full false) ∷ dat 11 ones ∷ col 9 (Wr 0 1 full false) ∷ dat 15 twos ∷ row 12 (Act 5 0) ∷ col 13 (Nocop 0x0003) ∷ col 21 (Rd 5 0 full false) ∷ [])
    ∷ (row 4 (Act 0 0) ∷ col 5 (Wr 0 0 full false) ∷ dat 11 ones ∷ col 9 (Wr 0 1 full false) ∷ dat 15 twos ∷ col 13 (Nocop 0x0003) ∷ col 17 (Rd 0 0 full false) ∷ [])
    ∷ (row 4 (Act 0 0) ∷ col 5 (Wr 0 0 full false) ∷ dat 11 ones ∷ col 9 (Wr 0 1 full false) ∷ dat 15 twos ∷ col 13 (Nocop 0x0003) ∷ col 17 (Nocop 0x0006) ∷ col 21 (Rd 0 1 full false) ∷ [])
    ∷ (row 4 (Act 0 0) ∷ col 5 (Wr 0 0 full false) ∷ dat 11 ones ∷ col 9 (Wr 0 1 full false) ∷ dat 15 twos ∷ col 13 (Wr 0 2 0x0003 false) ∷ dat 19 ones ∷ col 17 (Wr 0 3 0x0006 false) ∷ dat 23 twos ∷ [])
    ∷ (row 4 (Act 0 0) ∷ col 5 (Wr 0 0 full false) ∷ dat 11 ones ∷ row 12 (Act 4 0) ∷ col 13 (Wr 4 0 full false) ∷ dat 19 ones ∷ col 17 (Wr 0 1 full false) ∷ dat 23 twos ∷ col 21 (Wr 4 1 full false)
    ∷ dat 27 twos ∷ col 25 (Wr 0 2 full false) ∷ dat 31 ones ∷ col 29 (Wr 4 2 full false) ∷ dat 35 ones ∷ col 33 (Wr 0 3 full false) ∷ dat 39 twos ∷ col 37 (Wr 4 3 full false) ∷ dat 43 twos
    ∷ col 41 (Wr 0 0 full false) ∷ dat 47 twos ∷ [])
    ∷ (row 4 (Act 0 0) ∷ col 5 (Wr 0 0 full false) ∷ dat 11 ones ∷ row 12 (Act 5 0) ∷ col 13 (Wr 5 1 0x0003 false) ∷ dat 19 twos ∷ col 21 (Nocop 0x0006) ∷ row 32 (Prer 5) ∷ row 40 (Act 5 1)
    ∷ col 49 (Rd 5 0 full false) ∷ [])
    ∷ []

pub list_of : List Request → List Record
list_of l = listed (context_of set_h) fresh_planner (calls l)

-- ---- closing requests (document 02 f)

pub closing_runs : List (List Request)
closing_runs =
    -- an ACT elsewhere comes no earlier than the implied PRER; one to another row of the bank tRP after it, and without a PRER
    (read_close 0 0 0 ∷ read 5 0 0 ∷ [])
    ∷ (write_close 0 0 0 0x0003 ones ∷ read 5 0 0 ∷ [])
    ∷ (read_close 0 0 0 ∷ read_close 0 1 0 ∷ [])
    -- "an RDA with a write waiting in its bank"; of another bank it leaves the write
    ∷ (write 0 0 0 0x0003 ones ∷ read_close 0 0 1 ∷ [])
    ∷ (write 0 0 0 0x0003 ones ∷ read_close 5 0 0 ∷ [])
    -- a WRA beside a write that is not due yet, and beside one that is: it then retires that write
    ∷ (write 0 0 0 0x0003 ones ∷ write_close 0 0 1 0x0006 twos ∷ Close ∷ [])
    ∷ (write 0 0 0 0x0003 ones ∷ Wait 8 ∷ write_close 0 0 1 0x0006 twos ∷ [])
    ∷ []

pub closing_lists : List (List Record)
closing_lists =
    (row 4 (Act 0 0) ∷ col 20 (Rd 0 0 full true) ∷ row 24 (Act 5 0) ∷ col 33 (Rd 5 0 full false) ∷ [])
    ∷ (row 4 (Act 0 0) ∷ col 5 (Wr 0 0 full true) ∷ dat 11 ones ∷ col 20 (Nocop 0x0003) ∷ row 24 (Act 5 0) ∷ col 33 (Rd 5 0 full false) ∷ [])
    ∷ (row 4 (Act 0 0) ∷ col 20 (Rd 0 0 full true) ∷ row 32 (Act 0 1) ∷ col 48 (Rd 0 0 full true) ∷ [])
    ∷ (row 4 (Act 0 0) ∷ col 5 (Wr 0 0 full false) ∷ dat 11 ones ∷ col 13 (Nocop 0x0003) ∷ col 20 (Rd 0 1 full true) ∷ [])
    ∷ (row 4 (Act 0 0) ∷ col 5 (Wr 0 0 full false) ∷ dat 11 ones ∷ row 12 (Act 5 0) ∷ col 28 (Rd 5 0 full true) ∷ [])
    ∷ (row 4 (Act 0 0) ∷ col 5 (Wr 0 0 full false) ∷ dat 11 ones ∷ col 9 (Wr 0 1 full true) ∷ dat 15 twos ∷ col 13 (Nocop 0x0003) ∷ col 20 (Nocop 0x0006) ∷ [])
    ∷ (row 4 (Act 0 0) ∷ col 5 (Wr 0 0 full false) ∷ dat 11 ones ∷ col 13 (Wr 0 1 0x0003 true) ∷ dat 19 twos ∷ col 21 (Nocop 0x0006) ∷ [])
    ∷ []

-- ---- the three core forms

-- banks 15 and 16; an open bank beside the bank of a refresh
pub core_runs : List (List Request)
core_runs =
    (read 15 0 0 ∷ read 16 0 0 ∷ [])
    ∷ (read 1 0 0 ∷ Refresh ∷ [])
    ∷ []

-- split, one run, no dependency
pub core_lists : List (List (List Record))
core_lists =
    ((row 4 (Act 15 0) ∷ col 13 (Rd 15 0 full false) ∷ row 13 (Act 16 0) ∷ col 22 (Rd 16 0 full false) ∷ [])
    ∷ (row 4 (Act 1 0) ∷ col 13 (Rd 1 0 full false) ∷ row 24 (Prer 1) ∷ row 32 (Refa 0) ∷ row 52 (Refp 0) ∷ [])
    ∷ [])
    ∷ ((row 4 (Act 15 0) ∷ col 13 (Rd 15 0 full false) ∷ row 24 (Prer 15) ∷ row 32 (Act 16 0) ∷ col 41 (Rd 16 0 full false) ∷ [])
    ∷ (row 4 (Act 1 0) ∷ col 13 (Rd 1 0 full false) ∷ row 24 (Prer 1) ∷ row 32 (Refa 0) ∷ row 52 (Refp 0) ∷ [])
    ∷ [])
    ∷ ((row 4 (Act 15 0) ∷ col 13 (Rd 15 0 full false) ∷ row 13 (Act 16 0) ∷ col 22 (Rd 16 0 full false) ∷ [])
    ∷ (row 4 (Act 1 0) ∷ col 13 (Rd 1 0 full false) ∷ row 13 (Refa 0) ∷ row 33 (Refp 0) ∷ [])
    ∷ [])
    ∷ []

pub list_under : ℕ → List Request → List Record
list_under core l = listed (context_of (set_of 2 4 core)) fresh_planner (calls l)

-- ---- how many banks close looks at (document 02 e)

-- a request, and those before it
pub record Last : Type 0 where
  pub before : List Request
  pub request : Request

-- close with none open, with bank 0, bank 31, banks 2 and 9; with bank 1 alone, which closed bank 0; after close and after a closing
-- read; then every other kind with bank 0 open
pub lasts : List Last
lasts =
    record { before = []; request = Close }
    ∷ record { before = read 0 0 1 ∷ []; request = Close }
    ∷ record { before = read 31 0 0 ∷ []; request = Close }
    ∷ record { before = read 9 0 0 ∷ read 2 0 0 ∷ []; request = Close }
    ∷ record { before = read 0 0 1 ∷ read 1 0 0 ∷ []; request = Close }
    ∷ record { before = read 0 0 1 ∷ Close ∷ []; request = Close }
    ∷ record { before = read_close 0 0 1 ∷ []; request = Close }
    ∷ record { before = read 0 0 1 ∷ []; request = read 0 0 1 }
    ∷ record { before = read 0 0 1 ∷ []; request = read_close 0 0 1 }
    ∷ record { before = read 0 0 1 ∷ []; request = write 0 0 1 full ones }
    ∷ record { before = read 0 0 1 ∷ []; request = write_close 0 0 1 full ones }
    ∷ record { before = read 0 0 1 ∷ []; request = Refresh }
    ∷ record { before = read 0 0 1 ∷ []; request = Wait 1 }
    ∷ record { before = read 0 0 1 ∷ []; request = Flush }
    ∷ []

pub counts : List ℕ
counts = 0 ∷ 1 ∷ 32 ∷ 10 ∷ 2 ∷ 0 ∷ 0 ∷ 0 ∷ 0 ∷ 0 ∷ 0 ∷ 0 ∷ 0 ∷ 0 ∷ []

pub count_of : Last → ℕ
count_of l = looked_by (planner_after (context_of set_h) fresh_planner (calls l.before)) (request_read set_h (request_bytes l.request))

pub worked : map list_of runs ≡ lists
unfolding set_of set_h read ones twos write calls row col dat full runs lists list_of bytes number all_up_to uses_byte spare_right placed request_of request_read request_fields request_bytes run_of in_runs context_of row_traits col_traits traits instant is_packet bank_by is_closed is_open bank_count longest_delay leaving loads fresh waiting_of buffer_of bank_next track_next after_packet track_retired after_retire track_implied after_implied after_data after max_up_to bounds distances retire_traits implied_traits placed_at under earliest least_from fresh_planner slot sent flushed flushed_while closed closed_up_to reached planned_read loaded written planned_write turned planned_refresh planned_wait planned_flush planned_close steps_of planned in_time timely outcome_of unretired outcome_by plan_outcome is_made draft_by plan_next plan_records listed
worked = refl

pub closing-worked : map list_of closing_runs ≡ closing_lists
unfolding set_of set_h read ones twos write calls row col dat full read_close write_close closing_runs closing_lists list_of bytes number all_up_to uses_byte spare_right placed request_of request_read request_fields request_bytes run_of in_runs context_of row_traits col_traits traits instant is_packet bank_by is_closed is_open bank_count longest_delay leaving loads fresh waiting_of buffer_of bank_next track_next after_packet track_retired after_retire track_implied after_implied after_data after max_up_to bounds distances retire_traits implied_traits placed_at under earliest least_from fresh_planner slot sent flushed flushed_while closed closed_up_to reached planned_read loaded written planned_write turned planned_refresh planned_wait planned_flush planned_close steps_of planned in_time timely outcome_of unretired outcome_by plan_outcome is_made draft_by plan_next plan_records listed
closing-worked = refl

pub core-worked : map (λ (core : ℕ). map (list_under core) core_runs) (0 ∷ 1 ∷ 2 ∷ []) ≡ core_lists
unfolding set_of read calls row col full core_runs core_lists list_under bytes number all_up_to uses_byte spare_right placed request_of request_read request_fields request_bytes run_of in_runs context_of row_traits col_traits traits instant is_packet bank_by is_closed is_open bank_count longest_delay leaving loads fresh waiting_of buffer_of bank_next track_next after_packet track_retired after_retire track_implied after_implied after_data after max_up_to bounds distances retire_traits implied_traits placed_at under earliest least_from fresh_planner slot sent flushed flushed_while closed closed_up_to reached planned_read loaded written planned_write turned planned_refresh planned_wait planned_flush planned_close steps_of planned in_time timely outcome_of unretired outcome_by plan_outcome is_made draft_by plan_next plan_records listed
core-worked = refl

pub counts-worked : map count_of lasts ≡ counts
unfolding set_of set_h read ones twos write read_close write_close calls full lasts counts count_of bytes number all_up_to uses_byte spare_right placed request_of request_read request_fields request_bytes run_of in_runs context_of row_traits col_traits traits instant is_packet bank_by is_closed is_open bank_count longest_delay leaving loads fresh waiting_of buffer_of bank_next track_next after_packet track_retired after_retire track_implied after_implied after_data after max_up_to bounds distances retire_traits implied_traits placed_at under earliest least_from fresh_planner slot sent flushed flushed_while closed closed_up_to reached planned_read loaded written planned_write turned planned_refresh planned_wait planned_flush planned_close steps_of planned in_time timely outcome_of unretired outcome_by plan_outcome is_made draft_by plan_next plan_records planner_after looked_up_to looked looked_by
counts-worked = refl

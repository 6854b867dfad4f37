-- The starred runs of document 01 ("Bench runs"), as one list under one theorem: the listing of the bytes of their requests, which
-- `put_listing` is proved to put, those of closing requests (document 02 f), what the checker answers to an RD that comes too early,
-- and two words.
-- Assumes nothing.
use Rattle.std.specs.Prelude.{Err, Ok, Result}
use Prim.Native.Nat.{ℕ}
use Prim.Native.String.{String}
use mathlib.Core.Path.{◌≡◌, refl}
use mathlib.Core.Bool.{false}
use mathlib.Core.List.{List, [], ◌∷◌, ◌++◌}
use lib.ListN.{replicate}
use Rattle.num.specs.Bytes.{bytes, number}
use Rattle.num.specs.Search.{all_up_to, first_false}
use Rattle.packet.specs.declared.RowPacket.TheVariants.{Act}
use Rattle.packet.specs.declared.ColPacket.TheVariants.{Rd}
use Rattle.packet.specs.Row.{device_head, row_fields, row_word, row_of, row_decoded}
use Rattle.packet.specs.Col.{mask_bit, mask_field, col_fields, close_bit, col_word, mask_said, mask_of, col_of, col_decoded}
use Rattle.record.specs.Record.{row_record, col_record, record_of, record_read, is_known, well_formed, first_bad}
use Rattle.record.specs.Refusal.{answer_of}
use Rattle.record.specs.Request.{uses_byte, spare_right, placed, request_of, request_read}
use Rattle.spec_rules.specs.Neighbour.{bank_count, run_of, in_runs, context_of}
use Rattle.spec_rules.specs.Packets.{row_traits, col_traits, traits, retire_traits, implied_traits, instant, is_packet}
use Rattle.spec_rules.specs.History.{bank_by, bank_after, is_closed, is_open, leaving, loads, waiting_next, waiting_after, deeds, events, keeps}
use Rattle.spec_rules.specs.Distances.{distances}
use Rattle.spec_rules.specs.Rules.{longest_delay, due_after, rule_of, rules, rule1, rule4, rule9, rule12, rule14, rule15, rule16, rule17}
use Rattle.spec_rules.specs.Broken.{lowest, lowest_rule, first_broken}
use Rattle.spec_rules.specs.Channel.{fresh, waiting_of, buffer_of, bank_next, track_next, after_packet, track_retired, after_retire, track_implied, after_implied, after_data, after}
use Rattle.spec_rules.specs.Checks.{max_up_to, bounds}
use Rattle.spec_rules.specs.Earliest.{placed_at, under, earliest, least_from}
use Rattle.spec_plan.specs.Planner.{fresh_planner}
use Rattle.spec_plan.specs.Plan.{slot, sent, flushed, flushed_while, closed, closed_up_to, reached, planned_read, loaded, written, planned_write, turned, planned_refresh, planned_wait, planned_flush, planned_close, steps_of, planned}
use Rattle.spec_plan.specs.Call.{in_time, timely, outcome_of, unretired, outcome_by, plan_outcome, is_made, draft_by, plan_next, plan_records}
use Rattle.spec_plan.specs.Runs.{planner_after, listed}
use Rattle.spec_check.specs.Check.{known, records_up_to, records_of, rule_answer, records_answer, list_answer}
use Rattle.listing_text.specs.Text.{codes, digit, decimal_in, hex_four, dash, mask_text, line, row_line, col_line, record_line, write_bank_after, write_column_after, record_lines, refused_line, records_line}
use Rattle.settings.specs.Bench.{set_of, set_h}
use Rattle.listing.specs.Entries.{outcome_text, request_text, calls_up_to, text_up_to}
use Rattle.listing.specs.Listing.{length_right, listing}
use Rattle.record.specs.declared.Refusal.{Refusal}

-- ---- requests of 24 bytes

-- kind, bank, row, column, the two bytes of the mask, and one byte for all data
request : ℕ → ℕ → ℕ → ℕ → ℕ → ℕ → ℕ → List ℕ
request kind bank row column low high fill = kind ∷ bank ∷ row ∷ 0 ∷ column ∷ 0 ∷ low ∷ high ∷ replicate 16 fill

read : ℕ → ℕ → ℕ → List ℕ
read bank row column = request 0 bank row column 0 0 0

write : ℕ → ℕ → ℕ → ℕ → ℕ → ℕ → List ℕ
write bank row column low high fill = request 1 bank row column low high fill

read_close : ℕ → ℕ → ℕ → List ℕ
read_close bank row column = request 6 bank row column 0 0 0

write_close : ℕ → ℕ → ℕ → ℕ → ℕ → ℕ → List ℕ
write_close bank row column low high fill = request 7 bank row column low high fill

refresh : List ℕ
refresh = request 2 0 0 0 0 0 0

wait : ℕ → List ℕ
wait cycles = (3 ∷ replicate 7 0) ++ (cycles ∷ replicate 15 0)

flush : List ℕ
flush = request 4 0 0 0 0 0 0

close : List ℕ
close = request 5 0 0 0 0 0 0

-- ---- lines as text

lines : List String → List ℕ
lines [] = []
lines (s ∷ l) = codes s ++ (10 ∷ lines l)

-- ---- the runs

-- number, rule and place of a refusal
numbers : Result (Unit {0}) Refusal → List ℕ
numbers (Ok tt) = []
numbers (Err why) = (answer_of why).number ∷ (answer_of why).rule ∷ (answer_of why).place ∷ []

-- ACT 0/0 at 4 and RD 0/1 at 12, as records
early : List ℕ
early = (4 ∷ 0 ∷ 0 ∷ 0 ∷ 0 ∷ 0 ∷ 0 ∷ 0 ∷ 0x00 ∷ 0x10 ∷ 0x40 ∷ replicate 21 0) ++ (12 ∷ 0 ∷ 0 ∷ 0 ∷ 1 ∷ 0 ∷ 0 ∷ 0 ∷ 0x00 ∷ 0x00 ∷ 0x26 ∷ 0x00 ∷ 0x80 ∷ replicate 19 0)

-- in document 01's order, then closing requests: a read and a write, each before a read elsewhere, and a WRA beside a write that is
-- not due yet and beside one that is; the last two are the checker's answer and the two words
pub runs : List (List ℕ)
runs =
    listing (read 0 0 1 ++ (write 0 0 1 0x03 0x00 1 ++ (read 0 0 1 ++ (read 1 0 0 ++ (flush ++ close)))))
    ∷ listing (read 15 0 0 ++ read 16 0 0)
    ∷ listing (read 14 0 0 ++ read 15 0 0)
    ∷ listing (write 0 0 0 0xFF 0xFF 1 ++ read 0 1 0)
    ∷ listing (refresh ++ refresh)
    ∷ listing (write 0 0 0 0x03 0x00 1 ++ write 0 0 0 0x06 0x00 2)
    ∷ listing (read_close 0 0 0 ++ read 5 0 0)
    ∷ listing (write_close 0 0 0 0xFF 0xFF 1 ++ read 5 0 0)
    ∷ listing (write 0 0 0 0x03 0x00 1 ++ write_close 0 0 1 0xFF 0xFF 2)
    ∷ listing (write 0 0 0 0x03 0x00 1 ++ (wait 8 ++ write_close 0 0 1 0xFF 0xFF 2))
    ∷ numbers (list_answer (context_of set_h) early)
    ∷ (row_word 0 (Act 0 0) ∷ col_word 0 (Rd 0 1 0xFFFF false) ∷ [])
    ∷ []

-- what document 01 prints for them; document 02 a: "In the two-writes run the second WR moves to 9, with M = 0."; d: "Run 1 ends with
-- flush, close and lists the same ten records."
pub results : List (List ℕ)
results =
    lines ("4 ACT 0 0 -" ∷ "13 RD 0 1 -" ∷ "19 WR 0 1 -" ∷ "25 D 0 1 -" ∷ "27 NOCOP 0 0 0003" ∷ "31 RD 0 1 -" ∷ "35 PRER 0 0 -" ∷ "43 ACT 1 0 -" ∷ "52 RD 1 0 -" ∷ "63 PRER 1 0 -" ∷ "records 10" ∷ [])
    ∷ lines ("4 ACT 15 0 -" ∷ "13 RD 15 0 -" ∷ "13 ACT 16 0 -" ∷ "22 RD 16 0 -" ∷ "records 4" ∷ [])
    ∷ lines ("4 ACT 14 0 -" ∷ "13 RD 14 0 -" ∷ "24 PRER 14 0 -" ∷ "32 ACT 15 0 -" ∷ "41 RD 15 0 -" ∷ "records 5" ∷ [])
    ∷ lines ("4 ACT 0 0 -" ∷ "5 WR 0 0 -" ∷ "11 D 0 0 -" ∷ "13 NOCOP 0 0 -" ∷ "24 PRER 0 0 -" ∷ "32 ACT 0 1 -" ∷ "41 RD 0 0 -" ∷ "records 7" ∷ [])
    ∷ lines ("4 REFA 0 0 -" ∷ "24 REFP 0 0 -" ∷ "32 REFA 1 0 -" ∷ "52 REFP 1 0 -" ∷ "records 4" ∷ [])
    ∷ lines ("4 ACT 0 0 -" ∷ "5 WR 0 0 -" ∷ "11 D 0 0 -" ∷ "9 WR 0 0 -" ∷ "15 D 0 0 -" ∷ "records 5" ∷ [])
    ∷ lines ("4 ACT 0 0 -" ∷ "20 RDA 0 0 -" ∷ "24 ACT 5 0 -" ∷ "33 RD 5 0 -" ∷ "records 4" ∷ [])
    ∷ lines ("4 ACT 0 0 -" ∷ "5 WRA 0 0 -" ∷ "11 D 0 0 -" ∷ "20 NOCOP 0 0 -" ∷ "24 ACT 5 0 -" ∷ "33 RD 5 0 -" ∷ "records 6" ∷ [])
    ∷ lines ("4 ACT 0 0 -" ∷ "5 WR 0 0 -" ∷ "11 D 0 0 -" ∷ "9 WRA 0 1 -" ∷ "15 D 0 1 -" ∷ "13 NOCOP 0 0 0003" ∷ "20 NOCOP 0 0 -" ∷ "records 7" ∷ [])
    ∷ lines ("4 ACT 0 0 -" ∷ "5 WR 0 0 -" ∷ "11 D 0 0 -" ∷ "13 WRA 0 1 0003" ∷ "19 D 0 1 -" ∷ "21 NOCOP 0 0 -" ∷ "records 6" ∷ [])
    ∷ (11 ∷ 10 ∷ 1 ∷ [])
    ∷ (0x401000 ∷ 0x8000260000 ∷ [])
    ∷ []

pub worked : runs ≡ results
unfolding request read write read_close write_close refresh wait flush close codes lines numbers early runs results bytes number all_up_to first_false device_head row_fields row_word row_of row_decoded mask_bit mask_field col_fields close_bit col_word mask_said mask_of col_of col_decoded row_record col_record record_of record_read is_known well_formed first_bad answer_of uses_byte spare_right placed request_of request_read run_of in_runs context_of row_traits col_traits traits retire_traits implied_traits instant is_packet bank_by bank_after is_closed is_open leaving loads waiting_next waiting_after deeds events keeps bank_count distances longest_delay due_after rule_of rules rule1 rule4 rule9 rule12 rule14 rule15 rule16 rule17 lowest lowest_rule first_broken fresh waiting_of buffer_of bank_next track_next after_packet track_retired after_retire track_implied after_implied after_data after max_up_to bounds placed_at under earliest least_from fresh_planner slot sent flushed flushed_while closed closed_up_to reached planned_read loaded written planned_write turned planned_refresh planned_wait planned_flush planned_close steps_of planned in_time timely outcome_of unretired outcome_by plan_outcome is_made draft_by plan_next plan_records known records_up_to records_of rule_answer records_answer list_answer digit decimal_in hex_four dash mask_text line row_line col_line record_line set_of set_h write_bank_after write_column_after record_lines refused_line records_line planner_after listed outcome_text request_text calls_up_to text_up_to length_right listing
worked = refl

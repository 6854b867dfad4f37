-- A short run by the definitions: reads, writes under masks, two of them waiting, to one dualoct, a read past its own writes, a
-- refused call, a flush; the model's answers and store beside flat memory's, and the sum of the bytes written.
-- Assumes nothing.
use Prim.Native.Nat.{ℕ}
use mathlib.Core.Path.{◌≡◌, refl}
use mathlib.Core.Bool.{true, false}
use mathlib.Core.List.{List, [], ◌∷◌, ◌++◌}
use lib.ListN.{replicate}
use Rattle.num.specs.Bytes.{bytes, number}
use Rattle.num.specs.Search.{all_up_to}
use Rattle.settings.specs.Bench.{set_of}
use Rattle.packet.specs.Row.{device_head, row_fields, row_word, row_fits, row_coded, row_of as packet_row, row_decoded}
use Rattle.packet.specs.Col.{mask_bit as carries_mask, mask_field, col_fields, close_bit, col_word, col_fits, col_coded, mask_said, mask_of as packet_mask, col_of, col_decoded}
use Rattle.record.specs.declared.Request.{Request}
use Rattle.record.specs.declared.Request.TheVariants.{Read, Write, Refresh, Flush}
use Rattle.record.specs.Record.{record_fields, record_bytes, row_record, col_record, record_of, record_read}
use Rattle.record.specs.Request.{uses_byte, spare_right, placed, request_of, request_read, request_fields, request_bytes}
use Rattle.spec_rules.specs.Neighbour.{bank_count, Context, run_of, in_runs, context_of}
use Rattle.spec_rules.specs.Packets.{row_traits, col_traits, traits, retire_traits, implied_traits, instant, is_packet}
use Rattle.spec_rules.specs.History.{bank_by, is_closed, is_open, leaving, loads, waiting_next, waiting_after, deeds}
use Rattle.spec_rules.specs.Rules.{longest_delay}
use Rattle.spec_rules.specs.Broken.{lowest}
use Rattle.spec_rules.specs.Channel.{fresh, waiting_of, buffer_of, due_of, bank_next, track_next, after_packet, track_retired, after_retire, track_implied, after_implied, after_data, after}
use Rattle.spec_rules.specs.Distances.{distances}
use Rattle.spec_rules.specs.Checks.{max_up_to, bounds, check_of, checks, judged}
use Rattle.spec_rules.specs.Earliest.{placed_at, under, earliest, least_from}
use Rattle.spec_plan.specs.Planner.{fresh_planner}
use Rattle.spec_plan.specs.Plan.{slot, sent, flushed, flushed_while, closed, closed_up_to, reached, planned_read, loaded, written, planned_write, turned, planned_refresh, planned_wait, planned_flush, planned_close, steps_of, planned}
use Rattle.spec_plan.specs.Call.{in_time, timely, outcome_of, unretired, outcome_by, plan_outcome, is_made, draft_by, plan_next, plan_records}
use Rattle.record.specs.Refusal.{answer_of}
use Rattle.spec_plan.specs.Runs.{Call, listed}
use Rattle.spec_model.specs.Store.{store_length, dualoct_at, dualoct, dualoct_bytes, governs, masked, ones_up_to}
use Rattle.spec_model.specs.Model.{fresh_model, open_row, retire_mask, retired_write, store_next, refr_by, refr_next, bytes_next, second_next, model_next, read_of}
use Rattle.spec_model.specs.Step.{retire_answer, passed_answer, record_answer, read_answer, step_answer, is_taken, model_by, step_model, store_by, step_store, bytes_read, bytes_by}
use Rattle.spec_runs.specs.Flat.{memory_by, answers_by, memory_of, answers_of, flat_next, flat_answer, flat_after, flat_answers, masks_by, masks_of, flat_mask, flat_masks}
use Rattle.spec_runs.specs.Drive.{Drive, started, returned, left_by, fails, called_on, called, driven}
use Rattle.spec_runs.specs.Count.{written_by, mask_at, masks_after, retired_masks, ones_of}
use Rattle.spec_runs.specs.WholeRun.{fed}

-- one row and one column: 512 bytes
pub small : Context
small = context_of (set_of 1 1 0)

-- plain and closing requests mixed
requests : List Request
requests =
    Write (record { bank = 0; row = 0; column = 0 }) 0x0003 (record { dqa = 0x0807060504030201; dqb = 0x100F0E0D0C0B0A09 }) false
    ∷ Write (record { bank = 2; row = 0; column = 0 }) 0x8001 (record { dqa = 0x0807060504030201; dqb = 0x100F0E0D0C0B0A09 }) true
    ∷ Write (record { bank = 2; row = 0; column = 0 }) 0x8000 (record { dqa = 0; dqb = 0x2A00000000000000 }) false
    ∷ Read (record { bank = 0; row = 0; column = 0 }) false
    ∷ Read (record { bank = 2; row = 0; column = 0 }) true
    ∷ Write (record { bank = 31; row = 0; column = 0 }) 0xFFFF (record { dqa = 0x0807060504030201; dqb = 0x100F0E0D0C0B0A09 }) false
    ∷ Read (record { bank = 31; row = 1; column = 0 }) false
    ∷ Refresh
    ∷ Flush
    ∷ []

calls : List Request → List Call
calls [] = []
calls (q ∷ l) = record { request = request_bytes q; room = 1088 } ∷ calls l

pub list : List Call
list = calls requests

-- some calls have no room
rooms : List ℕ
rooms = replicate 4 16 ++ (replicate 4 15 ++ replicate 24 16)

pub start : Drive
start = started (replicate 512 7) (listed small fresh_planner list)

pub driver : Drive
driver = driven small rooms start

pub answers : List (List ℕ)
answers = (1 ∷ 2 ∷ replicate 14 7) ∷ (1 ∷ (replicate 14 7 ++ (42 ∷ []))) ∷ []

-- the banks that the writes named hold them, and nothing else changed
pub store : List ℕ
store = (1 ∷ 2 ∷ replicate 14 7) ++ (replicate 16 7 ++ ((1 ∷ (replicate 14 7 ++ (42 ∷ []))) ++ (replicate 448 7 ++ (1 ∷ 2 ∷ 3 ∷ 4 ∷ 5 ∷ 6 ∷ 7 ∷ 8 ∷ 9 ∷ 10 ∷ 11 ∷ 12 ∷ 13 ∷ 14 ∷ 15 ∷ 16 ∷ []))))

-- masks 0003, 8001, 8000 and FFFF have 2, 2, 1 and 16 ones; without room the calls stop at the first RD, after two retires
pub result : (driver.failed ≡ false) × (driver.pending ≡ []) × (driver.answers ≡ answers) × (driver.store ≡ store) × (flat_after small (fed small fresh_planner list) (replicate 512 7) ≡ store) × (flat_answers small (fed small fresh_planner list) (replicate 512 7) ≡ answers)
    × (driver.written ≡ 21) × (ones_of (retired_masks small (listed small fresh_planner list)) ≡ 21) × (ones_of (flat_masks small (fed small fresh_planner list)) ≡ 21) × ((driven small (replicate 20 0) start).written ≡ 4)
unfolding answers store start set_of small requests calls list rooms driver bytes number all_up_to device_head row_fields row_word row_fits row_coded packet_row row_decoded carries_mask mask_field col_fields close_bit col_word col_fits col_coded mask_said packet_mask col_of col_decoded record_fields record_bytes row_record col_record record_of record_read uses_byte spare_right placed request_of request_read request_fields request_bytes run_of in_runs context_of row_traits col_traits traits instant is_packet bank_by is_closed is_open bank_count longest_delay lowest leaving loads waiting_next waiting_after fresh waiting_of buffer_of due_of bank_next track_next after_packet track_retired after_retire track_implied after_implied after_data after max_up_to bounds distances deeds retire_traits implied_traits check_of checks judged placed_at under earliest least_from fresh_planner slot sent flushed flushed_while closed closed_up_to reached planned_read loaded written planned_write turned planned_refresh planned_wait planned_flush planned_close steps_of planned in_time timely outcome_of unretired outcome_by plan_outcome is_made draft_by plan_next plan_records listed store_length dualoct_at dualoct dualoct_bytes governs masked ones_up_to fresh_model open_row retire_mask retired_write store_next refr_by refr_next bytes_next second_next model_next read_of retire_answer passed_answer record_answer read_answer step_answer is_taken model_by step_model store_by step_store bytes_read bytes_by memory_by answers_by memory_of answers_of flat_next flat_answer flat_after flat_answers masks_by masks_of flat_mask flat_masks mask_at masks_after ones_of started returned left_by answer_of fails written_by called_on called driven fed
result = (refl, refl, refl, refl, refl, refl, refl, refl, refl, refl)

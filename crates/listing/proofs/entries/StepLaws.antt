-- The loop over an input: planner, records and text are those of the requests before the next one.
-- Assumes nothing.
use Rattle.std.specs.Prelude.{Err, Ok, Result}
use Prim.Native.Nat.{ℕ, suc, ◌+◌, ◌-◌, ◌*◌, ◌/◌, ◌%◌, ◌≤◌, ◌<◌}
use mathlib.Core.Path.{◌≡◌, refl, sym, ap, ap₂, ◌∙◌}
use mathlib.Core.Bool.{false}
use mathlib.Core.List.{List, ◌++◌, append-nil}
use mathlib.Core.Logic.{◌≢◌}
use lib.ListN.{length, take, drop, length-append, length-drop}
use lib.Seq.{take_all}
use borrow.Author.Tests.{eq-eqb, ne_eqb}
use native.Mathlib.Omega.{arith}
use Rattle.num.specs.Bytes.{Bytes}
use Rattle.num.proofs.SpliceLaws.{splice-none}
use Rattle.settings.specs.declared.Settings.{Settings}
use Rattle.settings.specs.Bench.{set_h}
use Rattle.record.specs.declared.Record.{Record}
use Rattle.record.specs.Request.{request_read}
use Rattle.spec_rules.specs.Neighbour.{Context, context_of}
use Rattle.spec_plan.specs.declared.PlannerState.{PlannerState}
use Rattle.spec_plan.specs.Planner.{fresh_planner}
use Rattle.spec_plan.specs.PlannerBytes.{planner_bytes}
use Rattle.spec_plan.specs.Looked.{looked_by}
use Rattle.spec_plan.specs.Call.{plan_outcome, accepted, plan_records}
use Rattle.spec_plan.specs.Runs.{planner_after, listed}
use Rattle.spec_plan.proofs.PlannerRoundTrip.{planner-right}
use Rattle.spec_plan.proofs.Refused.{refused-state, refused-records}
use Rattle.spec_check.specs.Check.{records_up_to}
use Rattle.spec_calls.specs.declared.PlanAnswer.{PlanAnswer}
use Rattle.spec_calls.specs.declared.PlanAllAnswer.{PlanAllAnswer}
use Rattle.spec_calls.specs.Plans.{plan_answer, plan_under}
use Rattle.spec_calls.specs.PlanAll.{PlanAllResult, request_at, plan_all_under}
use Rattle.spec_calls.proofs.OneCall.{under, under-answer, answer-accepted}
use Rattle.spec_calls.proofs.PlanAllLaws.{Stands, size_is, records-within, left_by, turns}
use Rattle.listing_text.specs.Text.{Put, line_room, most_records, request_room, write_bank_after, write_column_after, record_lines, refused_line}
use Rattle.listing_text.proofs.TextLaws.{put_then}
use Rattle.listing_text.proofs.LineLaws.{bank-append, column-append}
use Rattle.listing.specs.Entries.{room_bytes, outcome_text, request_text, request_in, calls_up_to, planner_for, records_listed, text_up_to, most_requests, longest_input, requests_room}
use Rattle.listing.proofs.entries.EnoughLaws.{call-enough}
use Rattle.listing.proofs.entries.TurnLaws.{set_h-valid, planner-valid, records-most, planner-more, records-more, at, request-is, turns-most, place-within, planner-turns, records-turns, turns-back, text-turns}
use Rattle.record.specs.declared.Refusal.{Refusal}

abbrev cx : Context
cx = context_of set_h

-- what is given of the lent bytes
pub record Given (input out₀ : List ℕ) : Type 0 where
  pub bytes : Bytes input
  pub short : length input ≤ longest_input
  pub whole : length input % 24 ≡ 0
  pub space : requests_room ≤ length out₀

-- the requests before i are listed
pub record Listed (input out₀ planner out : List ℕ) (bank column records end i : ℕ) : Type 0 where
  pub within : i ≤ length input / 24
  pub planner-is : planner ≡ planner_bytes (planner_for input i)
  pub bank-is : bank ≡ write_bank_after 0 (records_listed input i)
  pub column-is : column ≡ write_column_after 0 (records_listed input i)
  pub records-are : records ≡ length (records_listed input i)
  pub text-is : Put out₀ 0 (text_up_to input i) out end
  pub end-within : end ≤ request_room * i
  pub size : length out ≡ length out₀

pub none-listed : (input planner out : List ℕ) → planner ≡ planner_bytes fresh_planner → Listed input out planner out 0 0 0 0 0
unfolding calls_up_to planner_after listed text_up_to write_bank_after write_column_after
none-listed input planner out e =
    record {
      within = omega arith;
      planner-is = e;
      bank-is = refl;
      column-is = refl;
      records-are = refl;
      text-is = (refl, splice-none out 0);
      end-within = omega arith;
      size = refl;
    }

-- the part of an input up to its end
rest-whole : (l : List ℕ) (n : ℕ) → take (length l - n) (drop n l) ≡ drop n l
rest-whole l n = take_all (length l - n) (drop n l) (rw length-drop (omega arith))

-- the number of an answer, whatever it counts
number-any : (banks : ℕ) (o : Result ℕ Refusal) → (plan_answer banks o).number ≡ (plan_answer 0 o).number
unfolding plan_answer
number-any banks (Err why) = refl
number-any banks (Ok n) = refl

-- the text of a refused call
refused-text : (before : List Record) (banks : ℕ) (o : Result ℕ Refusal) (l : List Record) → (plan_answer banks o).number ≢ 0 → outcome_text before o l ≡ refused_line (plan_answer banks o).number
unfolding outcome_text plan_answer
refused-text before banks (Err why) l e = refl
refused-text before banks (Ok n) l e = absurd (e refl)

module _ {input out₀ : List ℕ} (g : Given input out₀) {planner out : List ℕ} {bank column records end i : ℕ} (k : Listed input out₀ planner out bank column records end i)
    (l : i < length input / 24) (room : List ℕ) (large : length room ≡ room_bytes * most_requests) where
  abbrev requests : List ℕ
  requests = drop (24 * i) input

  abbrev n : ℕ
  n = length requests / 24

  abbrev p : PlannerState
  p = planner_for input i

  abbrev y : PlanAllResult
  y = left_by set_h (planner_bytes p) requests room n

  enough : room_bytes * most_requests ≤ length room
  enough = omega (arith, large)

  rest-length : length requests ≡ length input - 24 * i
  rest-length = length-drop (24 * i) input

  requests-fit : 24 * n ≤ length requests
  requests-fit = omega arith

  -- a call from the next request on
  pub called : plan_all_under (under set_h) planner requests room set_h ≡ y
  unfolding plan_all_under context_of
  called =
      let w : length requests % 24 ≡ 0 = omega (arith, rest-length, g.whole) in
      rw (k.planner-is, planner-right cx set_h-valid p (planner-valid input g.bytes i), eq-eqb (length requests % 24) 0 w)

  abbrev place : ℕ
  place = y.answer.place

  stands : Stands set_h p room y (turns set_h (planner_bytes p) requests room place)
  stands = (at input g.bytes g.short i room enough n requests-fit).stands

  within-place : place ≤ n
  within-place = place-within input g.bytes g.short i room enough n requests-fit

  place-fits : 24 * place ≤ length requests
  place-fits = omega (arith, within-place)

  abbrev made : List Record
  made = listed cx p (turns set_h (planner_bytes p) requests room place)

  made-most : length made ≤ most_records * place
  made-most = turns-most input g.bytes g.short i room enough place

  room-kept : length y.room ≡ length room
  room-kept = size_is set_h set_h-valid p room y _ stands

  -- the lines have their place
  pub lines-room : (32 * y.answer.records ≤ length y.room) × (end + line_room * y.answer.records ≤ length out)
  lines-room = (
    omega (arith, room-kept, records-within set_h set_h-valid p room y _ stands),
    omega (arith, stands.records-are, made-most, k.end-within, k.size, within-place, rest-length, g.space, g.short),
  )

  pub records-fit : records + y.answer.records ≤ most_records * (i + place)
  records-fit = omega (arith, k.records-are, stands.records-are, made-most, records-most input g.bytes i)

  pub place_in : i + place ≤ length input / 24
  place_in = omega (arith, within-place, rest-length)

  read : records_up_to set_h y.room y.answer.records ≡ made
  read = ap₂ (λ (r : List ℕ) (m : ℕ). records_up_to set_h r m) stands.room-is stands.records-are ∙ turns-back input g.bytes g.short i room enough place

  -- the lines of the records that it made are put
  module _ (after : List ℕ) (bank₁ column₁ end₁ : ℕ) (put : Put out end (record_lines bank column (records_up_to set_h y.room y.answer.records)) after end₁)
      (far : end₁ ≤ end + line_room * y.answer.records) (kept : length after ≡ length out)
      (eb : bank₁ ≡ write_bank_after bank (records_up_to set_h y.room y.answer.records)) (ec : column₁ ≡ write_column_after column (records_up_to set_h y.room y.answer.records)) where
    all : records_listed input (i + place) ≡ records_listed input i ++ made
    all = records-turns input g.bytes g.short i room enough place place-fits

    text : text_up_to input (i + place) ≡ text_up_to input i ++ record_lines (write_bank_after 0 (records_listed input i)) (write_column_after 0 (records_listed input i)) made
    text = text-turns input g.bytes g.short i room enough place place-fits (at input g.bytes g.short i room enough n requests-fit).fed-is

    pub planned : Listed input out₀ y.planner after bank₁ column₁ (records + y.answer.records) end₁ (i + place)
    planned =
        record {
          within = place_in;
          planner-is = stands.planner-is ∙ ap planner_bytes (planner-turns input g.bytes g.short i room enough place place-fits);
          bank-is = eb ∙ ap₂ write_bank_after k.bank-is read ∙ sym (bank-append 0 (records_listed input i) made) ∙ ap (write_bank_after 0) (sym all);
          column-is = ec ∙ ap₂ write_column_after k.column-is read ∙ sym (column-append 0 (records_listed input i) made) ∙ ap (write_column_after 0) (sym all);
          records-are = omega (arith, k.records-are, stands.records-are, ap length all, length-append (records_listed input i) made);
          text-is =
              rw (text, sym k.bank-is, sym k.column-is, sym read)
              (put_then out₀ 0 (text_up_to input i) (record_lines bank column (records_up_to set_h y.room y.answer.records)) (omega (arith, k.text-is.0, k.end-within, k.within, g.space, g.short)) k.text-is put);
          end-within = omega (arith, far, k.end-within, stands.records-are, made-most);
          size = kept ∙ k.size;
        }

    -- no request is left
    pub all-planned : y.answer.number ≡ 0 → i + place ≡ length input / 24
    all-planned e = omega (arith, (at input g.bytes g.short i room enough n requests-fit).all-planned e, rest-length)

    -- or the next one is refused: its line is put, and it is passed over
    module _ (e : y.answer.number ≢ 0) where
      below : place < n
      below = (at input g.bytes g.short i room enough n requests-fit).below e

      pub more : i + place + 1 ≤ length input / 24
      more = omega (arith, below, rest-length)

      pub line-room : end₁ + line_room ≤ length after
      line-room = omega (arith, more, planned.end-within, planned.size, g.space, g.short)

      abbrev q : PlannerState
      q = planner_for input (i + place)

      abbrev request : List ℕ
      request = request_in input (i + place)

      abbrev o : Result ℕ Refusal
      o = plan_outcome cx q request room_bytes

      abbrev rest : List ℕ
      rest = drop (32 * y.answer.records) y.room

      -- its answer, with what is left of the room or with room for the records of any request
      number_is : (plan_answer 0 o).number ≡ y.answer.number
      number_is =
          let v = planner-valid input g.bytes (i + place) in
          let space : room_bytes ≤ length rest = omega (arith, length-drop (32 * y.answer.records) y.room, room-kept, large, stands.records-are, made-most, below, rest-length, g.short) in
          let same : (plan_under y.planner (request_at requests place) rest set_h).answer.number ≡ (plan_under (planner_bytes q) request rest set_h).answer.number =
          ap₂ (λ (b r : List ℕ). (plan_under b r rest set_h).answer.number) planned.planner-is (request-is input g.bytes g.short i room enough place) in
          ap (λ (o : Result ℕ Refusal). (plan_answer 0 o).number) (sym (call-enough q v request (length rest) space))
          ∙ sym (number-any (looked_by q (request_read cx.settings request)) (plan_outcome cx q request (length rest)))
          ∙ ap (λ (a : PlanAnswer). a.number) (sym (under-answer set_h set_h-valid q v request rest)) ∙ sym same
          ∙ (at input g.bytes g.short i room enough n requests-fit).refused-again e

      refused : accepted cx q request room_bytes ≡ false
      refused = sym (answer-accepted 0 o) ∙ ne_eqb (plan_answer 0 o).number 0 (λ z. e (sym number_is ∙ z))

      pub passed_over : (last : List ℕ) (end₂ : ℕ) → Put after end₁ (refused_line y.answer.number) last end₂ → end₂ ≤ end₁ + line_room → length last ≡ length after
          → Listed input out₀ y.planner last bank₁ column₁ (records + y.answer.records) end₂ (i + place + 1)
      unfolding text_up_to request_text
      passed_over last end₂ h f m =
          let next : i + place + 1 ≡ suc (i + place) = omega arith in
          let same-planner : planner_for input (suc (i + place)) ≡ q = planner-more input (i + place) ∙ refused-state cx q request room_bytes refused in
          let same-records : records_listed input (suc (i + place)) ≡ records_listed input (i + place) =
          records-more input (i + place) ∙ ap (λ (l : List Record). records_listed input (i + place) ++ l) (refused-records cx q request room_bytes refused) ∙ append-nil (records_listed input (i + place)) in
          let line : outcome_text (records_listed input (i + place)) o (plan_records cx q request room_bytes) ≡ refused_line y.answer.number =
          refused-text (records_listed input (i + place)) 0 o (plan_records cx q request room_bytes) (λ z. e (sym number_is ∙ z)) ∙ ap refused_line number_is in
          rw next
          (record {
            within = omega (arith, more);
            planner-is = planned.planner-is ∙ ap planner_bytes (sym same-planner);
            bank-is = planned.bank-is ∙ ap (write_bank_after 0) (sym same-records);
            column-is = planned.column-is ∙ ap (write_column_after 0) (sym same-records);
            records-are = planned.records-are ∙ ap length (sym same-records);
            text-is = rw line (put_then out₀ 0 (text_up_to input (i + place)) (refused_line y.answer.number) (omega (arith, planned.text-is.0, planned.end-within, planned.within, g.space, g.short)) planned.text-is h);
            end-within = omega (arith, f, planned.end-within);
            size = m ∙ planned.size;
          })

-- ---- in the code's words

-- what is known where a call comes back that was made from request i on
pub record Turn (input out₀ planner out room : List ℕ) (bank column records end i : ℕ) (a : PlanAllAnswer) (planner₁ room₁ : List ℕ) : Type 0 where
  pub given : Given input out₀
  pub before : Listed input out₀ planner out bank column records end i
  pub left : i < length input / 24
  pub large : length room ≡ room_bytes * most_requests
  pub answer-is : a ≡ (plan_all_under (under set_h) planner (drop (24 * i) input) room set_h).answer
  pub planner-is : planner₁ ≡ (plan_all_under (under set_h) planner (drop (24 * i) input) room set_h).planner
  pub room-is : room₁ ≡ (plan_all_under (under set_h) planner (drop (24 * i) input) room set_h).room

pub turn : {input out₀ planner out : List ℕ} {bank column records end i : ℕ} → Given input out₀ → Listed input out₀ planner out bank column records end i → i < length input / 24
    → (room : List ℕ) → length room ≡ room_bytes * most_requests → (s : Settings) → s ≡ set_h → {a : PlanAllAnswer} {planner₁ room₁ : List ℕ}
    → (a ≡ (plan_all_under (under s) planner (take (length input - 24 * i) (drop (24 * i) input)) room s).answer)
    × ((planner₁ ≡ (plan_all_under (under s) planner (take (length input - 24 * i) (drop (24 * i) input)) room s).planner)
    × (room₁ ≡ (plan_all_under (under s) planner (take (length input - 24 * i) (drop (24 * i) input)) room s).room))
    → Turn input out₀ planner out room bank column records end i a planner₁ room₁
turn {input} {i = i} g k l room large s es e =
    let h = rw (es, rest-whole input (24 * i)) at e in
    record { given = g; before = k; left = l; large = large; answer-is = h.0; planner-is = h.1.0; room-is = h.1.1 }

module _ {input out₀ planner out room : List ℕ} {bank column records end i : ℕ} {a : PlanAllAnswer} {planner₁ room₁ : List ℕ}
    (t : Turn input out₀ planner out room bank column records end i a planner₁ room₁) where
  abbrev z : PlanAllResult
  z = left_by set_h (planner_bytes (planner_for input i)) (drop (24 * i) input) room (length (drop (24 * i) input) / 24)

  answered : a ≡ z.answer
  answered = t.answer-is ∙ ap (λ (y : PlanAllResult). y.answer) (called t.given t.before t.left room t.large)

  left-planner : planner₁ ≡ z.planner
  left-planner = t.planner-is ∙ ap (λ (y : PlanAllResult). y.planner) (called t.given t.before t.left room t.large)

  left-room : room₁ ≡ z.room
  left-room = t.room-is ∙ ap (λ (y : PlanAllResult). y.room) (called t.given t.before t.left room t.large)

  pub lines_fit : (32 * a.records ≤ length room₁) × (end + line_room * a.records ≤ length out)
  lines_fit = rw (answered, left-room) (lines-room t.given t.before t.left room t.large)

  pub records-bound : records + a.records ≤ most_records * (i + a.place)
  records-bound = rw answered (records-fit t.given t.before t.left room t.large)

  pub place-bound : i + a.place ≤ length input / 24
  place-bound = rw answered (place_in t.given t.before t.left room t.large)

  -- the lines of its records are put
  module _ {after : List ℕ} {bank₁ column₁ end₁ : ℕ} (put : Put out end (record_lines bank column (records_up_to set_h room₁ a.records)) after end₁ × (end₁ ≤ end + line_room * a.records))
      (kept : length after ≡ length out) (latest : (bank₁ ≡ write_bank_after bank (records_up_to set_h room₁ a.records)) × (column₁ ≡ write_column_after column (records_up_to set_h room₁ a.records))) where
    pub now-listed : Listed input out₀ planner₁ after bank₁ column₁ (records + a.records) end₁ (i + a.place)
    now-listed =
        let h = rw (answered, left-room) at put in
        let m = rw (answered, left-room) at latest in
        rw (answered, left-planner) (planned t.given t.before t.left room t.large after bank₁ column₁ end₁ h.0 h.1 kept m.0 m.1)

    pub all_listed : a.number ≡ 0 → i + a.place ≡ length input / 24
    all_listed e =
        let h = rw (answered, left-room) at put in
        let m = rw (answered, left-room) at latest in
        rw answered (all-planned t.given t.before t.left room t.large after bank₁ column₁ end₁ h.0 h.1 kept m.0 m.1 (rw answered at e))

    module _ (e : a.number ≢ 0) where
      pub stop-within : i + a.place + 1 ≤ length input / 24
      stop-within =
          let h = rw (answered, left-room) at put in
          let m = rw (answered, left-room) at latest in
          rw answered (more t.given t.before t.left room t.large after bank₁ column₁ end₁ h.0 h.1 kept m.0 m.1 (rw answered at e))

      pub stop-room : end₁ + line_room ≤ length after
      stop-room =
          let h = rw (answered, left-room) at put in
          let m = rw (answered, left-room) at latest in
          line-room t.given t.before t.left room t.large after bank₁ column₁ end₁ h.0 h.1 kept m.0 m.1 (rw answered at e)

      pub stop-listed : {last : List ℕ} {end₂ : ℕ} → Put after end₁ (refused_line a.number) last end₂ × (end₂ ≤ end₁ + line_room) → length last ≡ length after
          → Listed input out₀ planner₁ last bank₁ column₁ (records + a.records) end₂ (i + a.place + 1)
      stop-listed {last} {end₂} f w =
          let h = rw (answered, left-room) at put in
          let m = rw (answered, left-room) at latest in
          rw (answered, left-planner)
          (passed_over t.given t.before t.left room t.large after bank₁ column₁ end₁ h.0 h.1 kept m.0 m.1 (rw answered at e) last end₂ (rw answered at f.0) f.1 w)

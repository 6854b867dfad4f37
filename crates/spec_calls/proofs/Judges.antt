-- rdram_model_step judges a record by the rules over all the records that it has taken: after any calls from a fresh model, of any
-- bytes and refused ones among them, it answers 11 with rule n if and only if settings, store, length and record have nothing
-- against them (1, 9, 13, 10), and n is the lowest rule that the record breaks after those that were taken.
-- Assumes nothing.
use Rattle.std.specs.Prelude.{Err, None, Ok, Result, Some}
use Prim.Native.Nat.{ℕ}
use mathlib.Core.Path.{◌≡◌, refl, sym, ap, ◌∙◌}
use mathlib.Core.Bool.{Bool, true, cond}
use mathlib.Core.List.{List, [], ◌∷◌, ◌++◌}
use mathlib.Core.Logic.{◌↔◌}
use lib.Dec.{eqb}
use lib.ListN.{length}
use native.Mathlib.Omega.{arith}
use Rattle.num.specs.Bytes.{Bytes}
use Rattle.settings.specs.declared.Settings.{Settings}
use Rattle.settings.specs.Settings.{settings_read, AcceptedWith}
use Rattle.settings.proofs.SettingsLaws.{accepted-valid, accepted-iff}
use Rattle.record.specs.declared.Record.{Record}
use Rattle.record.specs.declared.Record.TheVariants.{RowAt, ColAt, DataOf}
use Rattle.record.specs.declared.Refusal.TheVariants as refusal
use Rattle.record.specs.Refusal.{answer_of}
use Rattle.record.specs.Record.{record_read}
use Rattle.record.proofs.RoundTrip.{Held, record-read-held}
use Rattle.record.proofs.RefusalLaws.{rule-number}
use Rattle.spec_rules.specs.Neighbour.{Context, context_of}
use Rattle.spec_rules.proofs.NeighbourLaws.{core-neighbours}
use Rattle.spec_model.specs.declared.ModelState.{ModelState}
use Rattle.spec_model.specs.Model.{fresh_model, model_valid}
use Rattle.spec_model.specs.ModelBytes.{model_bytes}
use Rattle.spec_model.specs.Step.{step_answer, is_taken, step_model}
use Rattle.spec_model.specs.Judges.{StepCall, model_after, record_said, taken_by, StepBreach}
use Rattle.spec_model.proofs.ModelRoundTrip.{HeldFits}
use Rattle.spec_model.proofs.NextValid.{fresh-model-valid, step_keeps, step-valid}
use Rattle.spec_model.proofs.Judges.{tracked, step-rule, rule-step}
use Rattle.spec_runs.proofs.Sim.{DataIn}
use Rattle.spec_calls.specs.declared.StepAnswer.{StepAnswer}
use Rattle.spec_calls.specs.Settings.{under_settings}
use Rattle.spec_calls.specs.Models.{stepped_answer, step_call}
use Rattle.spec_calls.specs.Judges.{model_left, records_accepted, GivenBytes}
use Rattle.spec_calls.proofs.OneCall.{refusal-number}
use Rattle.spec_calls.proofs.DeviceRun.{step-answer, step-model, bytes-held}
use Rattle.spec_model.specs.declared.Event.TheVariants.{Neither, Read, Retired}
use Rattle.spec_model.specs.declared.Event.{Event}
use Rattle.record.specs.declared.Refusal.{Refusal}

-- ---- the answer in numbers

-- a call that answers 0 has taken its record
taken-number : (a : Result Event Refusal) → eqb (stepped_answer a).number 0 ≡ is_taken a
unfolding stepped_answer is_taken
taken-number (Err why) = refusal-number why
taken-number (Ok Read) = refl
taken-number (Ok (Retired n)) = refl
taken-number (Ok Neither) = refl

-- 11 with rule n
abbrev broken : ℕ → StepAnswer
broken n = record { number = 11; rule = n; event = 0; bytes = 0 }

named : {R : Type 0} (a : Result Event Refusal) (n : ℕ) → stepped_answer a ≡ broken n → ((p : ℕ) → a ≡ Err (refusal.Rule n p) → R) → R
unfolding stepped_answer
named (Err r) n e f =
    let rule : (answer_of r).rule ≡ n = ap (λ (x : StepAnswer). x.rule) e in
    f (answer_of r).place (ap Err (rule-number r (ap (λ (x : StepAnswer). x.number) e) ∙ rw rule))
named (Ok Read) n e f = absurd (let z = ap (λ (x : StepAnswer). x.number) e in omega arith)
named (Ok (Retired b)) n e f = absurd (let z = ap (λ (x : StepAnswer). x.number) e in omega arith)
named (Ok Neither) n e f = absurd (let z = ap (λ (x : StepAnswer). x.number) e in omega arith)

-- ---- calls on bytes as calls on the model's states

held-data : (r : Record) → Held r → DataIn r
held-data (RowAt t p) h = tt
held-data (ColAt t p) h = tt
held-data (DataOf t d) h = (h.1, h.2)

step_fits : (cx : Context) (m : ModelState) → HeldFits m → (stored : ℕ) (given : List ℕ) (room : ℕ) → Bytes given → HeldFits (step_model cx m stored given room)
step_fits cx m d stored given room w =
    step_keeps cx m (λ t n. HeldFits n) stored given room d (λ r l e j. bytes-held cx m r (held-data r (record-read-held cx.settings given r l w e)) d)

-- test and records apart, so that a definition that is wrong in one is refused there
taken-same : (said : List Record) (p q : Bool) (es fs : List Record) → p ≡ q → es ≡ fs → cond p said [] ++ es ≡ cond q said [] ++ fs
taken-same said p q es fs e f = rw (e, f)

module _ (settings : List ℕ) (s : Settings) (a : settings_read settings ≡ Some s) where
  -- the bytes that calls leave, and the records of those that answered 0
  record Follows (cs : List StepCall) : Type 0 where
    good : model_valid (context_of s) (model_after (context_of s) cs) ≡ true
    fits : HeldFits (model_after (context_of s) cs)
    left : model_left settings cs ≡ model_bytes (model_after (context_of s) cs)
    accepted : records_accepted settings s cs ≡ taken_by (context_of s) cs

  answer-is : (cs : List StepCall) → Follows cs → (store given room : List ℕ)
      → (step_call settings (model_left settings cs) store given room).answer ≡ stepped_answer (step_answer (context_of s) (model_after (context_of s) cs) (length store) given (length room))
  answer-is cs f store given room = rw f.left (step-answer settings s a (model_after (context_of s) cs) f.good f.fits store given room)

  follows : (cs : List StepCall) → GivenBytes cs → Follows cs
  unfolding context_of fresh_model model_after taken_by model_left records_accepted GivenBytes
  follows [] w = record { good = fresh-model-valid (context_of s) (accepted-valid settings s a); fits = ((omega arith, omega arith), (omega arith, omega arith)); left = refl; accepted = refl }
  follows (c ∷ cs) w =
      let f : Follows cs = follows cs w.1 in
      let m : ModelState = model_after (context_of s) cs in
      let x : Result Event Refusal = step_answer (context_of s) m (length c.store) c.given (length c.room) in
      let zero-taken = ap (λ (y : StepAnswer). eqb y.number 0) (answer-is cs f c.store c.given c.room) ∙ taken-number x in
      record {
        good = step-valid (context_of s) (accepted-valid settings s a) (core-neighbours s) m f.good (length c.store) c.given (length c.room);
        fits = step_fits (context_of s) m f.fits (length c.store) c.given (length c.room) w.0;
        left = ap (λ (b : List ℕ). (step_call settings b c.store c.given c.room).model) f.left ∙ step-model settings s a m f.good f.fits c.store c.given c.room;
        accepted = taken-same (record_said (record_read s c.given)) _ _ _ _ zero-taken f.accepted;
      }

  under-accepted : (cs : List StepCall) → Follows cs → (store given room : List ℕ) (n : ℕ)
      → ((step_call settings (model_left settings cs) store given room).answer ≡ broken n) ↔ StepBreach (context_of s) (records_accepted settings s cs) (length store) given n
  unfolding stepped_answer answer_of
  under-accepted cs f store given room n =
      let cx : Context = context_of s in
      let m : ModelState = model_after cx cs in
      let k = tracked cx (core-neighbours s) cs in
      let e = answer-is cs f store given room in
      rw f.accepted (
        λ q. named (step_answer cx m (length store) given (length room)) n (sym e ∙ q) (step-rule cx (core-neighbours s) m (taken_by cx cs) k (length store) given (length room) n),
        λ b. e ∙ ap stepped_answer (rule-step cx (core-neighbours s) m (taken_by cx cs) k (length store) given (length room) n b),
      )

-- settings out of range have 1, not 11
refused-number : (settings model store given room : List ℕ) → settings_read settings ≡ None → (step_call settings model store given room).answer.number ≡ 1
unfolding under_settings step_call stepped_answer answer_of
refused-number settings model store given room e = rw e

pub calls-judge : (settings : List ℕ) (cs : List StepCall) → GivenBytes cs → (store given room : List ℕ) (n : ℕ)
    → ((step_call settings (model_left settings cs) store given room).answer ≡ record { number = 11; rule = n; event = 0; bytes = 0 })
    ↔ AcceptedWith settings (λ s. StepBreach (context_of s) (records_accepted settings s cs) (length store) given n)
calls-judge settings cs w store given room n =
    accepted-iff settings _ (λ s. StepBreach (context_of s) (records_accepted settings s cs) (length store) given n)
    (λ e x. let one = refused-number settings (model_left settings cs) store given room e in let z = ap (λ (y : StepAnswer). y.number) x in omega arith)
    (λ s e. under-accepted settings s e cs (follows settings s e cs w) store given room n)

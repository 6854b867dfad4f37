-- A model state that is not refused stays so: no call makes one that is (document 01, "What is turned back").
-- Assumes nothing.
use Rattle.std.specs.Prelude.{Err, None, Option, Result, Some}
use Prim.Native.Nat.{ℕ, ◌+◌, ◌%◌, ◌≤◌, ◌<◌}
use mathlib.Core.Path.{◌≡◌, refl}
use mathlib.Core.Bool.{Bool, true, false, cond}
use mathlib.Core.List.{List}
use lib.Dec.{eqb}
use lib.ListN.{length}
use borrow.Author.Tests.{ltb-true, lt-ltb, eqb-true}
use native.Mathlib.Nat.{mod-lt}
use native.Mathlib.Omega.{arith}
use Rattle.settings.specs.Settings.{valid}
use Rattle.settings.proofs.SettingsLaws.{bounds}
use Rattle.packet.specs.declared.RowPacket.TheVariants.{Act, Prer, Refa, Refp}
use Rattle.record.specs.declared.Record.{Record}
use Rattle.record.specs.declared.Record.TheVariants.{RowAt, ColAt, DataOf}
use Rattle.record.specs.declared.Refusal.TheVariants.{Store, Rule, Length}
use Rattle.record.specs.Record.{record_fits, record_read}
use Rattle.record.proofs.RoundTrip.{record-read-fits}
use Rattle.spec_rules.specs.Neighbour.{Context, Neighbours}
use Rattle.spec_rules.specs.Checks.{judged}
use Rattle.spec_rules.proofs.Bools.{not-both, and_left, and_right}
use Rattle.spec_state.specs.Valid.{channel_valid}
use Rattle.spec_state.proofs.NextValid.{fresh-channel-valid, next-channel-valid}
use Rattle.spec_model.specs.declared.ModelState.{ModelState}
use Rattle.spec_model.specs.Store.{store_length}
use Rattle.spec_model.specs.Model.{fresh_model, model_valid, refr_by, refr_next, model_next, retired_write, read_of, retire_mask}
use Rattle.spec_model.specs.Step.{retire_answer, passed_answer, record_answer, read_answer, step_answer, is_taken, taken, model_by, step_model}
use Rattle.spec_model.specs.declared.Event.{Event}
use Rattle.record.specs.declared.Refusal.{Refusal}

pub fresh-model-valid : (cx : Context) → valid cx.settings ≡ true → model_valid cx fresh_model ≡ true
unfolding fresh_model model_valid
fresh-model-valid cx v = rw (fresh-channel-valid cx, lt-ltb 0 cx.settings.rows (omega (arith, (bounds cx.settings v).rows-least)))

-- REFR stays below rows
refr-in : (cx : Context) → 1 ≤ cx.settings.rows → (r : Record) (refr : ℕ) → refr < cx.settings.rows → refr_next cx r refr < cx.settings.rows
unfolding refr_next refr_by
refr-in cx n (RowAt t (Act b row)) refr h = h
refr-in cx n (RowAt t (Prer b)) refr h = h
refr-in cx n (RowAt t (Refa b)) refr h = go (eqb b 31)
  where
    go : (q : Bool) → cond q ((refr + 1) % cx.settings.rows) refr < cx.settings.rows
    go true = mod-lt (refr + 1) n
    go false = h
refr-in cx n (RowAt t (Refp b)) refr h = h
refr-in cx n (ColAt t p) refr h = h
refr-in cx n (DataOf t d) refr h = h

-- of a model before a call
module _ (cx : Context) (m : ModelState) where
  -- a record that is taken breaks no rule
  taken-judged : (r : Record) (room : ℕ) → is_taken (record_answer cx m r room) ≡ true → judged cx m.channel r ≡ 0
  unfolding record_answer is_taken
  taken-judged r room e = go (eqb (judged cx m.channel r) 0) refl e
    where
      go : (q : Bool) → eqb (judged cx m.channel r) 0 ≡ q
          → is_taken (cond q (passed_answer (read_of cx m.channel r) (retire_answer (retired_write cx m r) (retire_mask r)) room) (Err (Rule (judged cx m.channel r) 0))) ≡ true
          → judged cx m.channel r ≡ 0
      go true h t = eqb-true _ 0 h
      go false h t = not-both false t refl

  -- what holds of this model, and of it after any record that is said by the call's 32 bytes and breaks no rule, holds after a call
  pub step_keeps : (P : Bool → ModelState → Type 0) (stored : ℕ) (given : List ℕ) (room : ℕ) → P false m
      → ((r : Record) → length given ≡ 32 → record_read cx.settings given ≡ Some r → judged cx m.channel r ≡ 0 → P true (model_next cx m r))
      → P (taken cx m stored given room) (step_model cx m stored given room)
  unfolding step_model step_answer read_answer model_by is_taken
  step_keeps P stored given room same next = go (eqb stored (store_length cx)) (eqb (length given) 32) (record_read cx.settings given) refl refl
    where
      by : (r : Record) → length given ≡ 32 → record_read cx.settings given ≡ Some r → (t : Bool) → is_taken (record_answer cx m r room) ≡ t → P t (cond t (model_next cx m r) m)
      by r l e true h = next r l e (taken-judged r room h)
      by r l e false h = same

      after : Result Event Refusal → Option Record → Type 0
      after a read = P (is_taken a) (cond (is_taken a) (model_by cx m read) m)

      go : (p q : Bool) (read : Option Record) → eqb (length given) 32 ≡ q → record_read cx.settings given ≡ read
          → after (cond p (cond q (read_answer cx m read room) (Err Length)) (Err Store)) read
      go true true None l e = same
      go true true (Some r) l e = by r (eqb-true _ _ l) e (is_taken (record_answer cx m r room)) refl
      go true false read l e = same
      go false q read l e = same

module _ (cx : Context) (v : valid cx.settings ≡ true) (ns : Neighbours cx) (m : ModelState) (k : model_valid cx m ≡ true) where
  pub next-model-valid : (r : Record) → record_fits cx.settings r ≡ true → judged cx m.channel r ≡ 0 → model_valid cx (model_next cx m r) ≡ true
  unfolding model_valid model_next
  next-model-valid r f j =
      let ch = next-channel-valid cx ns m.channel r (and_left (channel_valid cx m.channel) _ k) f j in
      let refr = refr-in cx (bounds cx.settings v).rows-least r m.refr (ltb-true m.refr cx.settings.rows (and_right (channel_valid cx m.channel) _ k)) in
      rw (ch, lt-ltb _ _ refr)

  pub step-valid : (stored : ℕ) (given : List ℕ) (room : ℕ) → model_valid cx (step_model cx m stored given room) ≡ true
  step-valid stored given room =
      step_keeps cx m (λ t n. model_valid cx n ≡ true) stored given room k (λ r l e j. next-model-valid r (record-read-fits cx.settings given r e) j)

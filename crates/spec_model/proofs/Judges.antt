-- A model judges a record by the rules over all the records that it has taken: after any calls, refused ones among them, a call is
-- refused 11 with rule n if and only if n is the lowest rule that its record breaks after those records.
-- Assumes nothing.
use Rattle.std.specs.Prelude.{Option, None, Some, Err, Ok}
use Prim.Native.Nat.{ℕ}
use mathlib.Core.Path.{◌≡◌, refl, sym, ◌∙◌}
use mathlib.Core.Bool.{Bool, true, false, cond}
use mathlib.Core.List.{List, [], ◌∷◌, ◌++◌}
use mathlib.Core.Logic.{◌↔◌}
use lib.Dec.{eqb, leb}
use lib.ListN.{length}
use borrow.Author.Tests.{eqb-true, eqb-false, eq-eqb, ne_eqb}
use native.Mathlib.Omega.{arith}
use Rattle.record.specs.declared.Record.{Record}
use Rattle.record.specs.declared.Refusal.TheVariants.{Full, Store, Rule, Length}
use Rattle.record.specs.Record.{record_read}
use Rattle.record.proofs.RoundTrip.{record-read-fits}
use Rattle.spec_rules.specs.declared.Write.{Write}
use Rattle.spec_rules.specs.Neighbour.{Context, Neighbours}
use Rattle.spec_rules.specs.Broken.{LowestBroken}
use Rattle.spec_rules.specs.Checks.{judged}
use Rattle.spec_rules.proofs.BrokenLaws.{lowest-iff}
use Rattle.spec_rules.proofs.TrackLaws.{Tracks, tracks-fresh}
use Rattle.spec_rules.proofs.CheckerRight.{judged-right, tracks-next}
use Rattle.spec_model.specs.declared.ModelState.{ModelState}
use Rattle.spec_model.specs.Store.{store_length}
use Rattle.spec_model.specs.Model.{fresh_model, model_next, retire_mask, retired_write, read_of}
use Rattle.spec_model.specs.Step.{retire_answer, passed_answer, record_answer, read_answer, step_answer, taken, step_model}
use Rattle.spec_model.specs.Judges.{StepCall, model_after, record_said, taken_by, StepBreach}
use Rattle.spec_model.proofs.NextValid.{step_keeps}
use Rattle.spec_model.specs.declared.Event.TheVariants.{Read}

-- a record that breaks no rule has no 11
passed-rule : (o : Option ℕ) (w : Option Write) (mask room n p : ℕ) → passed_answer o (retire_answer w mask) room ≡ Err (Rule n p) → ⊥
unfolding passed_answer retire_answer
passed-rule None None mask room n p e = let z : ◌≡◌ {A = ℕ} 0 1 = cc in omega arith
passed-rule None (Some w) mask room n p e = let z : ◌≡◌ {A = ℕ} 0 1 = cc in omega arith
passed-rule (Some i) w mask room n p e = go (leb 16 room) e
  where
    go : (t : Bool) → cond t (Ok Read) (Err Full) ≡ Err (Rule n p) → ⊥
    go true e = let z : ◌≡◌ {A = ℕ} 0 1 = cc in omega arith
    go false e = let z : ◌≡◌ {A = ℕ} 0 1 = cc in omega arith

module _ (cx : Context) (ns : Neighbours cx) where
  -- of a model that tracks the records es
  module _ (m : ModelState) (es : List Record) (k : Tracks cx m.channel es) where
    -- so does the model that a call leaves, with the record if it was taken
    pub step-tracks : (stored : ℕ) (given : List ℕ) (room : ℕ)
        → Tracks cx (step_model cx m stored given room).channel (cond (taken cx m stored given room) (record_said (record_read cx.settings given)) [] ++ es)
    unfolding model_next record_said
    step-tracks stored given room =
        step_keeps cx m (λ t n. Tracks cx n.channel (cond t (record_said (record_read cx.settings given)) [] ++ es)) stored given room k
        (λ r l e j. rw e (tracks-next cx ns m.channel es k r (record-read-fits cx.settings given r e) (sym (judged-right cx ns m.channel es k r) ∙ j)))

    -- a call that is refused 11
    record-rule : (r : Record) (room n p : ℕ) → record_answer cx m r room ≡ Err (Rule n p) → LowestBroken cx es r n
    unfolding record_answer
    record-rule r room n p = go (eqb j 0) refl
      where
        j : ℕ
        j = judged cx m.channel r

        go : (t : Bool) → eqb j 0 ≡ t
            → cond t (passed_answer (read_of cx m.channel r) (retire_answer (retired_write cx m r) (retire_mask r)) room) (Err (Rule j 0)) ≡ Err (Rule n p) → LowestBroken cx es r n
        go true q e = absurd (passed-rule (read_of cx m.channel r) (retired_write cx m r) (retire_mask r) room n p e)
        go false q e =
            let rule : j ≡ n = cc in
            let Some : j ≡ 0 → ⊥ = eqb-false j 0 q in
            (lowest-iff cx es r n).0 (omega arith, sym (judged-right cx ns m.channel es k r) ∙ rule)

    pub step-rule : (stored : ℕ) (given : List ℕ) (room n p : ℕ) → step_answer cx m stored given room ≡ Err (Rule n p) → StepBreach cx es stored given n
    unfolding step_answer read_answer
    step-rule stored given room n p = go (eqb stored (store_length cx)) (eqb (length given) 32) (record_read cx.settings given) refl refl refl
      where
        go : (t u : Bool) (read : Option Record) → eqb stored (store_length cx) ≡ t → eqb (length given) 32 ≡ u → record_read cx.settings given ≡ read
            → cond t (cond u (read_answer cx m read room) (Err Length)) (Err Store) ≡ Err (Rule n p) → StepBreach cx es stored given n
        go true true None a b c e = absurd (let z : ◌≡◌ {A = ℕ} 0 1 = cc in omega arith)
        go true true (Some r) a b c e = record { sized = eqb-true _ _ a; whole = eqb-true _ _ b; it = r; said = c; lowest = record-rule r room n p e }
        go true false read a b c e = absurd (let z : ◌≡◌ {A = ℕ} 0 1 = cc in omega arith)
        go false u read a b c e = absurd (let z : ◌≡◌ {A = ℕ} 0 1 = cc in omega arith)

    pub rule-step : (stored : ℕ) (given : List ℕ) (room n : ℕ) → StepBreach cx es stored given n → step_answer cx m stored given room ≡ Err (Rule n 0)
    unfolding step_answer read_answer record_answer
    rule-step stored given room n b =
        let low = (lowest-iff cx es b.it n).1 b.lowest in
        let j : judged cx m.channel b.it ≡ n = judged-right cx ns m.channel es k b.it ∙ low.1 in
        rw (eq-eqb _ _ b.sized, eq-eqb _ _ b.whole, b.said, j, ne_eqb n 0 (λ z. omega arith))

  -- the model's state is the summary of the records that it has taken
  pub tracked : (cs : List StepCall) → Tracks cx (model_after cx cs).channel (taken_by cx cs)
  unfolding fresh_model model_after taken_by
  tracked [] = tracks-fresh cx
  tracked (c ∷ cs) = step-tracks (model_after cx cs) (taken_by cx cs) (tracked cs) (length c.store) c.given (length c.room)

  pub model-judges : (cs : List StepCall) (stored : ℕ) (given : List ℕ) (room n : ℕ)
      → (step_answer cx (model_after cx cs) stored given room ≡ Err (Rule n 0)) ↔ StepBreach cx (taken_by cx cs) stored given n
  model-judges cs stored given room n = (
    step-rule (model_after cx cs) (taken_by cx cs) (tracked cs) stored given room n 0,
    rule-step (model_after cx cs) (taken_by cx cs) (tracked cs) stored given room n,
  )

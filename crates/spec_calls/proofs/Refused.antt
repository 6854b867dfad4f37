-- A refused C call changes nothing: each result is given as it was lent, or has number 0.
-- Assumes nothing.
use Rattle.std.specs.Prelude.{Err, None, Ok, Option, Result, Some}
use Prim.Native.Nat.{ℕ}
use mathlib.Core.Path.{◌≡◌, refl}
use mathlib.Core.Bool.{Bool, true, false, cond}
use mathlib.Core.List.{List}
use mathlib.Core.Logic.{◌≢◌}
use lib.Dec.{eqb}
use lib.ListN.{length}
use borrow.Author.Tests.{ne_eqb}
use Rattle.settings.specs.declared.Settings.{Settings}
use Rattle.settings.specs.Settings.{settings_read}
use Rattle.record.specs.declared.Refusal.{Refusal}
use Rattle.record.specs.declared.Refusal.TheVariants as refusal
use Rattle.spec_rules.specs.Neighbour.{Context, context_of}
use Rattle.spec_plan.specs.declared.PlannerState.{PlannerState}
use Rattle.spec_plan.specs.PlannerBytes.{planner_in, planner_right}
use Rattle.spec_plan.specs.Call.{plan_outcome}
use Rattle.spec_model.specs.declared.ModelState.{ModelState}
use Rattle.spec_model.specs.ModelBytes.{model_in, model_right}
use Rattle.spec_model.specs.Step.{step_answer}
use Rattle.log_list.specs.Log.{copied}
use Rattle.meter.specs.Answer.{feed_accepted}
use Rattle.meter.specs.Meter.{feed_meter}
use Rattle.meter.specs.Calls.{fed_answered}
use Rattle.spec_calls.specs.Settings.{by_settings, under_settings}
use Rattle.spec_calls.specs.Plans.{FreshResult, fresh_into, planner_fresh, plan_answer, plan_refused, plan_by, plan_under, plan_call}
use Rattle.spec_calls.specs.Models.{model_fresh, stepped_answer, step_refused, step_by, step_under, step_call}
use Rattle.spec_calls.specs.Logs.{copy_answer, CopyResult, copy_by, copy_call, log_encode_call, log_decode_call}
use Rattle.spec_calls.specs.Refused.{PlanKept, StepKept, RefusedCalls}
use Rattle.spec_calls.proofs.AllInTurn.{all-in-turn}
use Rattle.spec_model.specs.declared.Event.TheVariants.{Neither, Read, Retired}
use Rattle.spec_model.specs.declared.Event.{Event}

-- what holds of both results of a test
either : {R : Type 0} (P : R → Type 0) (t : Bool) {x y : R} → P x → P y → P (cond t x y)
either P true p q = p
either P false p q = q

-- what holds of the result of 1, and under any settings
under : {R : Type 0} (P : R → Type 0) (settings : List ℕ) (refused : Refusal → R) {call : Settings → R} → P (refused refusal.Settings) → ((s : Settings) → P (call s)) → P (under_settings settings refused call)
unfolding under_settings
under P settings refused {call} p f = go (settings_read settings)
  where
    go : (x : Option Settings) → P (by_settings x refused call)
    go None = p
    go (Some s) = f s

fresh_kept : (size : ℕ) (new given : List ℕ) → (fresh_into size new given).number ≢ 0 → (fresh_into size new given).state ≡ given
fresh_kept size new given =
    either (λ (x : FreshResult). x.number ≢ 0 → x.state ≡ given) (eqb (length given) size) (λ n. absurd (n refl)) (λ n. refl)

plan-by : (planner request room : List ℕ) (cx : Context) (p : PlannerState) (o : Result ℕ Refusal) → PlanKept planner room (plan_by planner request room cx p o)
unfolding plan_answer
plan-by planner request room cx p (Err why) n = (refl, refl)
plan-by planner request room cx p (Ok k) n = absurd (n refl)

plan-kept : (settings planner request room : List ℕ) → PlanKept planner room (plan_call settings planner request room)
unfolding plan_under plan_call
plan-kept settings planner request room =
    under (PlanKept planner room) settings (plan_refused planner request room) (λ n. (refl, refl))
    (λ s. either (PlanKept planner room) (planner_right (context_of s) planner)
    (plan-by planner request room (context_of s) (planner_in planner) (plan_outcome (context_of s) (planner_in planner) request (length room)))
    (λ n. (refl, refl)))

step_by_lem : (model store given room : List ℕ) (cx : Context) (m : ModelState) (a : Result Event Refusal) → StepKept model store room (step_by model store given room cx m a)
unfolding stepped_answer
step_by_lem model store given room cx m (Err why) n = (refl, refl, refl)
step_by_lem model store given room cx m (Ok Read) n = absurd (n refl)
step_by_lem model store given room cx m (Ok (Retired k)) n = absurd (n refl)
step_by_lem model store given room cx m (Ok Neither) n = absurd (n refl)

step_kept : (settings model store given room : List ℕ) → StepKept model store room (step_call settings model store given room)
unfolding step_under step_call
step_kept settings model store given room =
    under (StepKept model store room) settings (step_refused model store given room) (λ n. (refl, refl, refl))
    (λ s. either (StepKept model store room) (model_right (context_of s) model)
    (step_by_lem model store given room (context_of s) (model_in model) (step_answer (context_of s) (model_in model) (length store) given (length room)))
    (λ n. (refl, refl, refl)))

pub copy-by : (new lent : List ℕ) (a : Result ℕ Refusal) → (copy_answer a).number ≢ 0 → copied a new lent ≡ lent
unfolding copy_answer copied
copy-by new lent (Err why) n = refl
copy-by new lent (Ok k) n = absurd (n refl)

pub copy-kept : (new lent : List ℕ) (answer : Settings → Result ℕ Refusal) (settings : List ℕ) → (copy_call new lent answer settings).answer.number ≢ 0 → (copy_call new lent answer settings).lent ≡ lent
unfolding copy_call
copy-kept new lent answer settings =
    under (λ (x : CopyResult). x.answer.number ≢ 0 → x.lent ≡ lent) settings (λ why. copy_by new lent (Err why)) {call = λ s. copy_by new lent (answer s)}
    (copy-by new lent (Err refusal.Settings))
    (λ s. copy-by new lent (answer s))

pub refused-changes-nothing : RefusedCalls
unfolding planner_fresh model_fresh log_encode_call log_decode_call feed_accepted feed_meter fed_answered
refused-changes-nothing =
    record {
      planner-fresh = fresh_kept _ _;
      plan = plan-kept;
      plan-all = λ settings planner requests room v w o. let z = (all-in-turn settings planner requests room v w).refused o in (z.2, z.3);
      model-fresh = fresh_kept _ _;
      model-step = step_kept;
      log-encode = λ settings list log. copy-kept _ log _ settings;
      log-decode = λ settings log list. copy-kept _ list _ settings;
      meter-feed = λ m at n. rw (ne_eqb _ 0 n);
    }

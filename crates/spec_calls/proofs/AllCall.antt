-- A call of rdram_plan_all from the bytes of a planner that is not refused: 13, or what its requests leave in turn.
-- Assumes nothing.
use Rattle.std.specs.Prelude.{Some}
use Prim.Native.Nat.{ℕ, ◌/◌, ◌%◌}
use mathlib.Core.Path.{◌≡◌, refl, sym, ap, subst}
use mathlib.Core.Bool.{Bool, true, false}
use mathlib.Core.List.{List}
use lib.Dec.{eqb}
use lib.ListN.{length}
use native.Mathlib.Omega.{arith}
use Rattle.num.specs.Bytes.{Bytes}
use Rattle.num.proofs.SpliceLaws.{splice-none}
use Rattle.settings.specs.declared.Settings.{Settings}
use Rattle.settings.specs.Settings.{settings_read, valid}
use Rattle.settings.proofs.SettingsLaws.{accepted-valid}
use Rattle.record.specs.declared.Refusal.TheVariants as refusal
use Rattle.spec_rules.specs.Neighbour.{context_of}
use Rattle.spec_plan.specs.declared.PlannerState.{PlannerState}
use Rattle.spec_plan.specs.Planner.{planner_valid}
use Rattle.spec_plan.specs.PlannerBytes.{planner_bytes}
use Rattle.spec_plan.specs.Call.{list_bytes}
use Rattle.spec_plan.specs.Runs.{Call, planner_after, listed}
use Rattle.spec_plan.proofs.PlannerRoundTrip.{planner-right}
use Rattle.spec_runs.specs.WholeRun.{fed}
use Rattle.spec_calls.specs.Settings.{under_settings}
use Rattle.spec_calls.specs.Plans.{PlanResult}
use Rattle.spec_calls.specs.PlanAll.{PlanAllResult, in_turn, none_yet, all_refused, plan_all_under, plan_all_call}
use Rattle.spec_calls.specs.Runs.{requests_fed}
use Rattle.spec_calls.proofs.OneCall.{call-under}
use Rattle.spec_calls.proofs.PlanAllLaws.{Stands, left_by, turns, Reached, reached}

module _ (settings : List ℕ) (s : Settings) (a : settings_read settings ≡ Some s) (p : PlannerState) (h : planner_valid (context_of s) p ≡ true)
    (requests : List ℕ) (b : Bytes requests) (room : List ℕ) where
  v : valid s ≡ true
  v = accepted-valid settings s a

  abbrev all : PlanAllResult
  all = plan_all_call settings (planner_bytes p) requests room

  -- whole requests, or 13
  pub all_whole : eqb (length requests % 24) 0 ≡ true → all ≡ left_by s (planner_bytes p) requests room (length requests / 24)
  unfolding plan_all_call plan_all_under under_settings context_of
  all_whole e =
      rw (a, planner-right (context_of s) v p h, e)
      (ap (λ (f : List ℕ → List ℕ → List ℕ → PlanResult). in_turn f requests (length requests / 24) (none_yet (planner_bytes p) room)) (call-under settings s a))

  pub all-broken : eqb (length requests % 24) 0 ≡ false → all ≡ all_refused (planner_bytes p) room refusal.Length
  unfolding plan_all_call plan_all_under under_settings context_of
  all-broken e = rw (a, planner-right (context_of s) v p h, e)

  -- planner, room and what flat memory is fed are those of the calls before the place
  pub record Planned (x : PlanAllResult) : Type 0 where
    pub stands : Stands s p room x (turns s (planner_bytes p) requests room x.answer.place)
    pub fed-is : fed (context_of s) p (turns s (planner_bytes p) requests room x.answer.place) ≡ requests_fed requests x.answer.place

  none-planned : Planned (all_refused (planner_bytes p) room refusal.Length)
  unfolding turns planner_after listed list_bytes fed requests_fed
  none-planned =
      record {
        stands = record { planner-is = refl; planner-valid = h; records-are = refl; room-is = splice-none room 0; fits = omega arith };
        fed-is = refl;
      }

  pub all-planned : Planned all
  all-planned = go (eqb (length requests % 24) 0) refl
    where
      r : Reached s v p h requests b room (length requests / 24) (left_by s (planner_bytes p) requests room (length requests / 24))
      r = reached s v p h requests b room (length requests / 24) (omega arith)

      go : (t : Bool) → eqb (length requests % 24) 0 ≡ t → Planned all
      go true e = subst Planned (sym (all_whole e)) (record { stands = r.stands; fed-is = r.fed-is })
      go false e = subst Planned (sym (all-broken e)) none-planned

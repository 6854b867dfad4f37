-- A draft in code draws a draft of the definition: what holds of it at any step.
-- Assumes nothing.
use Prim.Native.Nat.{ℕ, zero, suc, ◌+◌, ◌≤◌, ◌<◌}
use mathlib.Core.Path.{◌≡◌, refl, sym, ◌∙◌, ap}
use mathlib.Core.Bool.{Bool, true, false, not, ◌||◌, cond}
use mathlib.Core.List.{List, [], ◌∷◌, ◌++◌}
use lib.Dec.{leb, ltb}
use lib.ListN.{get_or, set, length, length-append}
use lib.Seq.{get_or-set_same, get_or-set_other}
use borrow.Author.Tests.{lt-ltb}
use native.Mathlib.Omega.{arith}
use Rattle.settings.specs.declared.Settings.{Settings}
use Rattle.settings.specs.Instants.{horizon}
use Rattle.record.specs.declared.Record.{Record}
use Rattle.spec_rules.specs.Neighbour.{context_of}
use Rattle.spec_rules.proofs.Bools.{not-both, not-fails, not-passes, neither}
use Rattle.spec_plan.specs.declared.PlannerState.{PlannerState}
use Rattle.spec_plan.specs.Plan.{Draft, when}
use Rattle.spec_plan.specs.Call.{in_time, timely}
use Rattle.spec_plan.proofs.Timely.{Walked}
use Rattle.plan_by_value.specs.declared.Entry.{Entry}
use Rattle.plan_by_value.specs.declared.Draft.{Draft as Drawn}
use Rattle.plan_by_value.specs.Form.Drawn.{blank, records_of, Draws, added_to}

-- ---- records

records-kept : (l : List Entry) (i n : ℕ) (x : Entry) → n ≤ i → records_of (set l i x) n ≡ records_of l n
unfolding records_of
records-kept l i zero x e = refl
records-kept l i (suc n) x e = rw (records-kept l i n x (omega (arith, e)), get_or-set_other l i n x blank (λ q. omega (arith, e, q)))

pub records-count : (l : List Entry) (n : ℕ) → length (records_of l n) ≡ n
unfolding records_of
records-count l zero = refl
records-count l (suc n) = rw (length-append (records_of l n) ((get_or l n blank).made ∷ []), records-count l n) (omega arith)

pub records-next : (l : List Entry) (n : ℕ) → records_of l (n + 1) ≡ records_of l n ++ ((get_or l n blank).made ∷ [])
unfolding records_of
records-next l n = ap (records_of l) one
  where
    one : n + 1 ≡ suc n
    one = omega arith

records-more : (l : List Entry) (n : ℕ) (x : Entry) → n < length l → records_of (set l n x) (n + 1) ≡ records_of l n ++ (x.made ∷ [])
records-more l n x e = records-next (set l n x) n ∙ rw (records-kept l n n x (omega arith), get_or-set_same l n x blank e)

-- ---- lateness

fails : (a b : Bool) → (a ≡ true → b ≡ true) → b ≡ false → a ≡ false
fails true b f e = not-both b (f refl) e
fails false b f e = refl

module _ (s : Settings) (from : PlannerState) where
  pub in-time : (d : Drawn) (e : Draft) → Draws s from d e → d.late ≡ false → timely (context_of s) from e ≡ true
  in-time d e k f = not-fails d.late (timely (context_of s) from e) k.late f

  pub draws-late : (d : Drawn) (e : Draft) → Walked (context_of s) from e → d.late ≡ true → timely (context_of s) from e ≡ false → Draws s from d e
  draws-late d e w l t = record { walked = w; late = rw (l, t); planner = λ f. not-both d.late l f; records = λ f n. not-both d.late l f }

  -- a step keeps the channel with the records, and does not undo lateness
  abbrev pub Grows : Draft → Draft → Type 0
  Grows e e' = Walked (context_of s) from e → (Walked (context_of s) from e') × (timely (context_of s) from e' ≡ true → timely (context_of s) from e ≡ true)

  pub late-after : (d : Drawn) (e e' : Draft) → Draws s from d e → Grows e e' → d.late ≡ true → timely (context_of s) from e' ≡ false
  late-after d e e' k g l = fails _ _ (g k.walked).1 (not-passes d.late (timely (context_of s) from e) k.late l)

  -- a step is given what is read off the planner, which may be another where the draft is late
  pub draws_by : {A : Type 0} (d z : Drawn) (e : Draft) (get : PlannerState → A) (f : A → Draft) → ((a : A) → Grows e (f a)) → Draws s from d e
      → Draws s from z (f (get d.planner)) → Draws s from z (f (get e.planner))
  draws_by {A} d z e get f g k j = go d.late refl
    where
      a : A
      a = get d.planner

      b : A
      b = get e.planner

      go : (t : Bool) → d.late ≡ t → Draws s from z (f b)
      go true l = draws-late z (f b) (g b k.walked).0 (j.late ∙ ap not (late-after d e (f a) k (g a) l)) (late-after d e (f b) k (g b) l)
      go false l = rw (← k.planner l) j

  pub when-grows : (step : Draft → Draft) (e : Draft) → Grows e (step e) → (b : Bool) → Grows e (when b step e)
  when-grows step e g true w = g w
  when-grows step e g false w = (w, λ h. h)

  -- a step where a test of the planner passes
  pub draws-when : (d z : Drawn) (e : Draft) (test : PlannerState → Bool) (step : Draft → Draft) → Grows e (step e) → Draws s from d e
      → (b : Bool) → b ≡ test d.planner → Draws s from z (when b step e) → Draws s from z (when (test e.planner) step e)
  draws-when d z e test step g k b h j = draws_by d z e test (λ b. when b step e) (when-grows step e g) k (rw h at j)

  -- ---- one record more

  pub draws-added : (d : Drawn) (e e' : Draft) (p : PlannerState) (q : Record) (lt : Bool) → length d.list ≡ 32 → Draws s from d e → Grows e e'
      → (d.late ≡ false → (timely (context_of s) from e' ≡ not lt) × (lt ≡ false → (p ≡ e'.planner) × (e'.records ≡ e.records ++ (q ∷ []))))
      → Draws s from (added_to d p q lt) e'
  unfolding added_to
  draws-added d e e' p q lt size k g same =
      record {
        walked = (g k.walked).0;
        late = go d.late refl;
        planner = λ f. let n = neither d.late lt f in ((same n.0).1 n.1).0;
        records = λ f m.
            let n = neither d.late lt f in
            let r = ((same n.0).1 n.1).1 in
            rw r (more n.0 (rw (r, length-append e.records (q ∷ [])) at m));
      }
    where
      twice : (b : Bool) → b ≡ not (not b)
      twice true = refl
      twice false = refl

      go : (b : Bool) → d.late ≡ b → d.late || lt ≡ not (timely (context_of s) from e')
      go true l = rw (l, late-after d e e' k g l)
      go false l = rw (l, (same l).0) (twice lt)

      more : d.late ≡ false → length e.records + 1 ≤ 32
          → records_of (cond (ltb d.count 32) (set d.list d.count (record { made = q })) d.list) (cond (ltb d.count 32) (d.count + 1) d.count) ≡ e.records ++ (q ∷ [])
      more f n =
          let few : d.count < 32 = omega (arith, n, sym (records-count d.list d.count) ∙ ap length (k.records f (omega (arith, n)))) in
          rw (lt-ltb d.count 32 few) (records-more d.list d.count (record { made = q }) (omega (arith, few, size)) ∙ ap (λ l. l ++ (q ∷ [])) (k.records f (omega (arith, n))))

  -- ---- the first and the last draft of a request

  pub draws-start : (d : Drawn) → d.planner ≡ from → d.count ≡ 0 → d.late ≡ false → leb from.now.0 horizon ≡ true → Draws s from d (record { planner = from; records = [] })
  unfolding timely in_time records_of
  draws-start d a b l h = record { walked = refl; late = rw (l, h); planner = λ f. a; records = λ f n. rw b }

  pub draws-count : (d : Drawn) (e : Draft) → Draws s from d e → length e.records ≤ 32 → d.late ≡ false → d.count ≡ length e.records
  draws-count d e k n l = sym (records-count d.list d.count) ∙ ap length (k.records l n)

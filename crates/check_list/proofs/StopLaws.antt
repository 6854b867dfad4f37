-- What the place where the walk stops says of the records.
-- Assumes nothing.
use Rattle.std.specs.Prelude.{Err, Ok}
use Prim.Native.Nat.{ℕ, ◌<◌}
use mathlib.Core.Path.{◌≡◌, refl, sym, ◌∙◌}
use mathlib.Core.Bool.{Bool, true, false}
use mathlib.Core.List.{List}
use native.Mathlib.Omega.{arith}
use borrow.Author.Tests.{eqb-true, eq-eqb, lt-ltb}
use lib.Dec.{eqb}
use Rattle.num.proofs.SearchLaws.{first-at, first-none, first-before, first-le, first-fails}
use Rattle.record.specs.declared.Refusal.TheVariants.{Rule}
use Rattle.record.specs.Record.{records_in, first_bad}
use Rattle.spec_rules.specs.Neighbour.{Context, Neighbours}
use Rattle.spec_rules.proofs.Bools.{not-both, and_left, and_right}
use Rattle.spec_check.specs.Check.{rule_answer}
use Rattle.check_walk.specs.Form.Walk.{place_in, records_via, formed_via, found_via, stop_at, stop_of}
use Rattle.check_walk.proofs.ViaLaws.{length-via}
use Rattle.check_walk.proofs.StopLaws.{holds}
use Rattle.check_list.proofs.WalkLaws.{via-fits}
use Rattle.check_list.proofs.RuleLaws.{rule_found, rule-none}

module _ (cx : Context) (per : ℕ) (b : List ℕ) (n : ℕ) where
  formed-before : (i : ℕ) → i < stop_at cx per b n → formed_via cx.settings per b i ≡ true
  formed-before i h = and_left (formed_via cx.settings per b i) _ (first-before (holds cx per b n) n i h)

  found_before : (i : ℕ) → i < stop_at cx per b n → found_via cx per b n i ≡ 0
  found_before i h = eqb-true _ 0 (and_right (formed_via cx.settings per b i) (eqb (found_via cx per b n i) 0) (first-before (holds cx per b n) n i h))

  -- the rule at that place
  rule-at : stop_at cx per b n < n → formed_via cx.settings per b (stop_at cx per b n) ≡ true → (stop_of cx per b n).rule ≡ found_via cx per b n (stop_at cx per b n)
  unfolding stop_of
  rule-at h f = rw (lt-ltb _ n h, f)

  broken-at : stop_at cx per b n < n → formed_via cx.settings per b (stop_at cx per b n) ≡ true → found_via cx per b n (stop_at cx per b n) ≡ 0 → ⊥
  broken-at h f z =
      not-both (holds cx per b n (stop_at cx per b n)) (rw (f, eq-eqb _ 0 z)) (first-fails (holds cx per b n) n h)

  -- no record of n fails
  pub stop-passed : Neighbours cx → stop_at cx per b n ≡ n → (Ok tt) ≡ rule_answer cx (records_via cx.settings per b n)
  stop-passed ns e =
      let l = length-via cx.settings per b n in
      rule-none cx ns (records_via cx.settings per b n) (via-fits cx.settings per b n (λ i h. formed-before i (rw e h))) (λ j h. found_before j (omega arith))

  -- one breaks a rule, and all are records
  pub stop-refused : Neighbours cx → ((i : ℕ) → i < n → formed_via cx.settings per b i ≡ true) → (stop_at cx per b n ≡ n → ⊥)
      → Err (Rule (stop_of cx per b n).rule (stop_at cx per b n)) ≡ rule_answer cx (records_via cx.settings per b n)
  stop-refused ns f e =
      let m = first-le (holds cx per b n) n in
      let h : stop_at cx per b n < n = omega arith in
      let q = f (stop_at cx per b n) h in
      rule_found cx ns (records_via cx.settings per b n) (via-fits cx.settings per b n f) (stop_at cx per b n) (stop_of cx per b n).rule found_before (rw (length-via cx.settings per b n) h) (sym (rule-at h q))
      (λ z. broken-at h q (sym (rule-at h q) ∙ z))

  -- one is no record, and none before it fails
  pub stop-formed : (stop_at cx per b n ≡ n → ⊥) → (stop_of cx per b n).rule ≡ 0 → formed_via cx.settings per b (stop_at cx per b n) ≡ false
  stop-formed e z = go (formed_via cx.settings per b (stop_at cx per b n)) refl
    where
      go : (t : Bool) → formed_via cx.settings per b (stop_at cx per b n) ≡ t → formed_via cx.settings per b (stop_at cx per b n) ≡ false
      go true q = let m = first-le (holds cx per b n) n in let h : stop_at cx per b n < n = omega arith in absurd (broken-at h q (sym (rule-at h q) ∙ z))
      go false q = q

-- of a list: its first bad record
pub list-bad : (cx : Context) (l : List ℕ) → (stop_at cx 0 l (records_in l) ≡ records_in l → ⊥) → (stop_of cx 0 l (records_in l)).rule ≡ 0
    → first_bad cx.settings l ≡ stop_at cx 0 l (records_in l)
unfolding first_bad place_in
list-bad cx l e z =
    let n : ℕ = records_in l in
    let m = first-le (holds cx 0 l n) n in
    first-at _ n (stop_at cx 0 l n) (formed-before cx 0 l n) (omega arith) (stop-formed cx 0 l n e z)

pub list-good : (cx : Context) (l : List ℕ) → stop_at cx 0 l (records_in l) ≡ records_in l → first_bad cx.settings l ≡ records_in l
unfolding first_bad place_in
list-good cx l e = first-none _ (records_in l) (λ i h. formed-before cx 0 l (records_in l) i (rw e h))

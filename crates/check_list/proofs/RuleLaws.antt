-- What a walk that judges each record says of the rules on all of them.
-- Assumes nothing.
use Rattle.std.specs.Prelude.{Err, None, Ok, Option, Some}
use Prim.Native.Nat.{ℕ, ◌<◌}
use mathlib.Core.Path.{◌≡◌, refl, sym, ◌∙◌}
use mathlib.Core.Bool.{true}
use mathlib.Core.List.{List}
use native.Mathlib.Omega.{arith}
use borrow.Author.Tests.{eq-eqb, ne_eqb}
use lib.ListN.{length}
use Rattle.num.proofs.SearchLaws.{first-at, first-none}
use Rattle.settings.specs.declared.Settings.{Settings}
use Rattle.record.specs.declared.Record.{Record}
use Rattle.record.specs.declared.Refusal.TheVariants.{Rule}
use Rattle.record.specs.Record.{record_read, record_fits, well_formed, is_known}
use Rattle.record.proofs.RoundTrip.{record-read-fits}
use Rattle.spec_rules.specs.Neighbour.{Context, Neighbours}
use Rattle.spec_rules.specs.Broken.{record_in, rule_at, first_broken}
use Rattle.spec_rules.specs.Checks.{found_at, first_found}
use Rattle.spec_rules.proofs.CheckerRight.{checker-right}
use Rattle.spec_check.specs.Check.{known, rule_answer}

-- a well formed record fits the settings
pub known-fits : (s : Settings) (b : List ℕ) → well_formed s b ≡ true → record_fits s (known (record_read s b)) ≡ true
unfolding well_formed is_known known
known-fits s b e = go (record_read s b) refl e
  where
    go : (r : Option Record) → record_read s b ≡ r → is_known r ≡ true → record_fits s (known r) ≡ true
    go None q e = absurd (let z : ◌≡◌ {A = ℕ} 0 1 = cc in omega arith)
    go (Some r) q e = record-read-fits s b r q

module _ (cx : Context) (ns : Neighbours cx) (rs : List Record) (fits : (i : ℕ) → i < length rs → record_fits cx.settings (record_in rs i) ≡ true) where
  -- the first record at which a rule is found
  pub rule_found : (i m : ℕ) → ((j : ℕ) → j < i → found_at cx rs j ≡ 0) → i < length rs → found_at cx rs i ≡ m → (m ≡ 0 → ⊥)
      → Err (Rule m i) ≡ rule_answer cx rs
  unfolding rule_answer first_found
  rule_found i m h l e n =
      let f : first_found cx rs ≡ i = first-at _ _ i (λ j k. eq-eqb _ 0 (h j k)) l (ne_eqb _ 0 (λ z. n (sym e ∙ z))) in
      let c = checker-right cx ns rs fits in
      let b : first_broken cx rs ≡ i = sym c.0 ∙ f in
      let r : rule_at cx rs i ≡ m = sym (rw f at (c.1 (rw f l))) ∙ e in
      rw (b, ne_eqb i (length rs) (λ z. omega arith), r)

  -- none is found
  pub rule-none : ((j : ℕ) → j < length rs → found_at cx rs j ≡ 0) → (Ok tt) ≡ rule_answer cx rs
  unfolding rule_answer first_found
  rule-none h =
      let f : first_found cx rs ≡ length rs = first-none _ _ (λ j k. eq-eqb _ 0 (h j k)) in
      let c = checker-right cx ns rs fits in
      rw (sym c.0 ∙ f, eq-eqb (length rs) (length rs) refl)

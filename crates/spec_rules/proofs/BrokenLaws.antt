-- The rule that is named at a record is the lowest that the record breaks, and every rule holds on a list where no record
-- breaks one.
-- Assumes nothing.
use Prim.Native.Nat.{ℕ, zero, suc, ◌+◌, ◌≤◌, ◌<◌}
use mathlib.Core.Path.{◌≡◌, refl, sym, ap, ◌∙◌}
use mathlib.Core.Bool.{Bool, true, false, not}
use mathlib.Core.List.{List, [], ◌∷◌}
use mathlib.Core.Logic.{◌↔◌}
use lib.Dec.{eqb}
use lib.ListN.{length, get_or}
use borrow.Author.Tests.{eqb-true, eqb-false, eq-eqb, ne_eqb}
use native.Mathlib.Omega.{arith}
use Rattle.num.specs.Search.{first_false}
use Rattle.num.proofs.SearchLaws.{all-at, all-intro, first-at, first-before, first-fails}
use Rattle.record.specs.declared.Record.{Record}
use Rattle.spec_rules.specs.Neighbour.{Context}
use Rattle.spec_rules.specs.Rules.{rules}
use Rattle.spec_rules.specs.Broken.{earlier, record_in, breaks_after, breaks, LowestBroken, FirstBreach, lowest, lowest_rule, rule_at, first_broken, every_rule}
use Rattle.spec_rules.proofs.Bools.{not-both}

-- ---- the number of the first test that fails

pub lowest-none : (n : ℕ) (l : List Bool) → lowest (suc n) l ≡ 0 → (i : ℕ) → get_or l i true ≡ true
unfolding lowest
lowest-none n [] e i = refl
lowest-none n (true ∷ l) e zero = refl
lowest-none n (true ∷ l) e (suc i) = lowest-none (suc n) l e i
lowest-none n (false ∷ l) e i = absurd (omega arith)

lowest-from : (n k : ℕ) (l : List Bool) → lowest (suc n) l ≡ suc k → n ≤ k
unfolding lowest
lowest-from n k [] e = absurd (omega arith)
lowest-from n k (true ∷ l) e = let h = lowest-from (suc n) k l e in omega arith
lowest-from n k (false ∷ l) e = omega arith

lowest-fails : (n i : ℕ) (l : List Bool) → lowest (suc n) l ≡ suc (n + i) → get_or l i true ≡ false
unfolding lowest
lowest-fails n i [] e = absurd (omega arith)
lowest-fails n zero (true ∷ l) e = absurd (let h = lowest-from (suc n) (n + 0) l e in omega arith)
lowest-fails n (suc i) (true ∷ l) e = lowest-fails (suc n) i l (e ∙ omega arith)
lowest-fails n zero (false ∷ l) e = refl
lowest-fails n (suc i) (false ∷ l) e = absurd (omega arith)

lowest-before : (n i : ℕ) (l : List Bool) → lowest (suc n) l ≡ suc (n + i) → (m : ℕ) → m < i → get_or l m true ≡ true
unfolding lowest
lowest-before n i [] e m h = absurd (omega arith)
lowest-before n i (true ∷ l) e zero h = refl
lowest-before n zero (true ∷ l) e (suc m) h = absurd (omega arith)
lowest-before n (suc i) (true ∷ l) e (suc m) h = lowest-before (suc n) i l (e ∙ omega arith) m (omega arith)
lowest-before n i (false ∷ l) e m h = absurd (omega arith)

-- ---- the rules that a record breaks

module _ (cx : Context) (es : List Record) (r : Record) where
  pub breaks-none : lowest_rule cx es r ≡ 0 → (n : ℕ) → breaks_after cx n es r ≡ false
  unfolding lowest_rule breaks_after
  breaks-none e zero = refl
  breaks-none e (suc n) = ap not (lowest-none 0 (rules cx es r) e n)

  -- the rule that is named is broken, and none below it
  pub breaks-lowest : (n : ℕ) → lowest_rule cx es r ≡ suc n → LowestBroken cx es r (suc n)
  unfolding lowest_rule breaks_after
  breaks-lowest n e =
      let tests : List Bool = rules cx es r in
      let f : lowest 1 tests ≡ suc (0 + n) = e ∙ omega arith in
      record { broken = ap not (lowest-fails 0 n tests f); none_below = below f }
    where
      below : lowest 1 (rules cx es r) ≡ suc (0 + n) → (m : ℕ) → m < suc n → breaks_after cx m es r ≡ false
      below f zero h = refl
      below f (suc m) h = ap not (lowest-before 0 n (rules cx es r) f m (omega arith))

  -- a record that breaks no rule has none named
  none_named : ((n : ℕ) → breaks_after cx n es r ≡ false) → lowest_rule cx es r ≡ 0
  none_named f = go (lowest_rule cx es r) refl
    where
      go : (k : ℕ) → lowest_rule cx es r ≡ k → k ≡ 0
      go zero e = refl
      go (suc n) e = not-both (breaks_after cx (suc n) es r) (breaks-lowest n e).broken (f (suc n))

  -- no two rules are the lowest
  lowest-same : (n : ℕ) → LowestBroken cx es r n → lowest_rule cx es r ≡ n
  lowest-same n b = go (lowest_rule cx es r) refl
    where
      go : (k : ℕ) → lowest_rule cx es r ≡ k → k ≡ n
      go zero e = not-both (breaks_after cx n es r) b.broken (breaks-none e n)
      go (suc k) e =
          let low = breaks-lowest k e in
          let a : n < suc k → ⊥ = λ h. not-both (breaks_after cx n es r) b.broken (low.none_below n h) in
          let c : suc k < n → ⊥ = λ h. not-both (breaks_after cx (suc k) es r) low.broken (b.none_below (suc k) h) in
          omega arith

  -- the rule that is named, where one is, is the lowest that is broken
  pub lowest-iff : (n : ℕ) → ((0 < n) × (lowest_rule cx es r ≡ n)) ↔ LowestBroken cx es r n
  unfolding breaks_after
  lowest-iff n = (named n, λ b. (some n b, lowest-same n b))
    where
      named : (n : ℕ) → (0 < n) × (lowest_rule cx es r ≡ n) → LowestBroken cx es r n
      named zero e = absurd (omega arith)
      named (suc n) e = breaks-lowest n e.1

      some : (n : ℕ) → LowestBroken cx es r n → 0 < n
      some zero b = not-both false b.broken refl
      some (suc n) b = omega arith

-- ---- the records of a list that break a rule

module _ (cx : Context) (l : List Record) where
  -- every rule holds on a list exactly where no record breaks one
  pub every-none : every_rule cx l ≡ true → (j : ℕ) → j < length l → (n : ℕ) → breaks cx n l j ≡ false
  unfolding every_rule
  every-none e j h = breaks-none cx (earlier l j) (record_in l j) (eqb-true _ _ (all-at (λ j. eqb (rule_at cx l j) 0) (length l) j e h))

  pub none-every : ((j : ℕ) → j < length l → (n : ℕ) → breaks cx n l j ≡ false) → every_rule cx l ≡ true
  unfolding every_rule
  none-every f = all-intro (λ j. eqb (rule_at cx l j) 0) (length l) (λ j h. eq-eqb _ _ (none_named cx (earlier l j) (record_in l j) (f j h)))

  -- the first record that breaks a rule, and the rule that is named there
  pub breach-iff : (n j : ℕ) → ((first_broken cx l ≡ j) × (j < length l) × (rule_at cx l j ≡ n)) ↔ FirstBreach cx l n j
  unfolding first_broken
  breach-iff n j = (named, λ b. (at b, b.within, ((lowest-iff cx (earlier l j) (record_in l j) n).1 b.lowest).1))
    where
      holds : ℕ → Bool
      holds i = eqb (rule_at cx l i) 0

      named : (first_false holds (length l) ≡ j) × (j < length l) × (rule_at cx l j ≡ n) → FirstBreach cx l n j
      named e =
          let some : rule_at cx l j ≡ 0 → ⊥ = eqb-false _ _ (rw e.0 at (first-fails holds (length l) (omega arith))) in
          record {
            within = e.1;
            lowest = (lowest-iff cx (earlier l j) (record_in l j) n).0 (omega arith, e.2);
            none_before = λ i h. breaks-none cx (earlier l i) (record_in l i) (eqb-true _ _ (first-before holds (length l) i (omega arith)));
          }

      at : FirstBreach cx l n j → first_false holds (length l) ≡ j
      at b =
          let r = (lowest-iff cx (earlier l j) (record_in l j) n).1 b.lowest in
          first-at holds (length l) j (λ i h. eq-eqb _ _ (none_named cx (earlier l i) (record_in l i) (b.none_before i h))) b.within (ne_eqb (rule_at cx l j) 0 (λ z. omega arith))

-- The checker answers 11 with rule n and place j if and only if record j is the first that breaks a rule, and n the lowest that it
-- breaks.
-- Assumes nothing.
use Rattle.std.specs.Prelude.{Err, Ok, Result}
use Prim.Native.Nat.{ℕ, ◌+◌, ◌%◌, ◌<◌, ◌≤◌}
use mathlib.Core.Path.{◌≡◌, refl}
use mathlib.Core.Bool.{Bool, true, false, cond}
use mathlib.Core.List.{List}
use mathlib.Core.Logic.{◌↔◌}
use lib.Dec.{eqb}
use lib.ListN.{length}
use borrow.Author.Tests.{eqb-true, eqb-false, eq-eqb, ne_eqb}
use native.Mathlib.Omega.{arith}
use Rattle.num.specs.Search.{first_false}
use Rattle.num.proofs.SearchLaws.{first-none, first-before, first-le}
use Rattle.settings.specs.declared.Settings.{Settings}
use Rattle.record.specs.declared.Record.{Record}
use Rattle.record.specs.declared.Refusal.{Refusal}
use Rattle.record.specs.declared.Refusal.TheVariants.{Word, Rule, Block, Length}
use Rattle.record.specs.Record.{well_formed, record_at, records_in, first_bad}
use Rattle.log_block.specs.Block.{block_right, block_at, blocks_in, first_bad_block, list_of}
use Rattle.log_block.proofs.ListThenLog.{list-whole}
use Rattle.spec_rules.specs.Neighbour.{Context}
use Rattle.spec_rules.specs.Broken.{FirstBreach, rule_at, first_broken}
use Rattle.spec_rules.proofs.BrokenLaws.{breach-iff}
use Rattle.spec_check.specs.Check.{records_of, rule_answer, records_answer, list_answer, log_answer, ListBreach, LogBreach}

-- no index fails exactly where each passes
none-fails : (f : ℕ → Bool) (m : ℕ) → (eqb (first_false f m) m ≡ true) ↔ ((i : ℕ) → i < m → f i ≡ true)
none-fails f m = (λ e i h. first-before f m i (omega (arith, eqb-true (first_false f m) m e)), λ h. eq-eqb _ _ (first-none f m h))

module _ (cx : Context) (n j : ℕ) where
  abbrev named : Result (Unit {0}) Refusal
  named = Err (Rule n j)

  -- an answer that names a rule only where a test passes
  tested : (t : Bool) (x : Result (Unit {0}) Refusal) (why : Refusal) → (why ≡ Rule n j → ⊥) → (cond t x (Err why) ≡ named) ↔ ((t ≡ true) × (x ≡ named))
  tested true x why f = (λ e. (refl, e), λ e. e.1)
  tested false x why f = (λ e. absurd (f (cc)), λ e. absurd (let z : ◌≡◌ {A = ℕ} 0 1 = cc in omega arith))

  word-rule : (p : ℕ) → Word p ≡ Rule n j → ⊥
  word-rule p e = let z : ◌≡◌ {A = ℕ} 0 1 = cc in omega arith

  block-rule : (p : ℕ) → Block p ≡ Rule n j → ⊥
  block-rule p e = let z : ◌≡◌ {A = ℕ} 0 1 = cc in omega arith

  length-rule : Length ≡ Rule n j → ⊥
  length-rule e = let z : ◌≡◌ {A = ℕ} 0 1 = cc in omega arith

  rules-name : (rs : List Record) → (rule_answer cx rs ≡ named) ↔ FirstBreach cx rs n j
  unfolding rule_answer first_broken
  rules-name rs = (go (eqb k (length rs)) refl, back)
    where
      k : ℕ
      k = first_broken cx rs

      go : (t : Bool) → eqb k (length rs) ≡ t → cond t (Ok tt) (Err (Rule (rule_at cx rs k) k)) ≡ named → FirstBreach cx rs n j
      go true q e = absurd (let z : ◌≡◌ {A = ℕ} 0 1 = cc in omega arith)
      go false q e =
          let at : k ≡ j = cc in
          let rule : rule_at cx rs k ≡ n = cc in
          let few : k ≤ length rs = first-le (λ i. eqb (rule_at cx rs i) 0) (length rs) in
          let less : k ≡ length rs → ⊥ = eqb-false _ _ q in
          (breach-iff cx rs n j).0 (at, omega arith, rw at at rule)

      back : FirstBreach cx rs n j → cond (eqb k (length rs)) (Ok tt) (Err (Rule (rule_at cx rs k) k)) ≡ named
      back b =
          let e = (breach-iff cx rs n j).1 b in
          rw (e.0, ne_eqb j (length rs) (λ z. omega (arith, b.within)), e.2)

  records-name : (l : List ℕ) → (records_answer cx l ≡ named)
      ↔ (((i : ℕ) → i < records_in l → well_formed cx.settings (record_at l i) ≡ true) × FirstBreach cx (records_of cx.settings l) n j)
  unfolding records_answer first_bad
  records-name l =
      let t = tested (eqb (first_bad cx.settings l) (records_in l)) (rule_answer cx (records_of cx.settings l)) (Word (first_bad cx.settings l)) (word-rule (first_bad cx.settings l)) in
      let r = rules-name (records_of cx.settings l) in
      let f = none-fails (λ i. well_formed cx.settings (record_at l i)) (records_in l) in
      (λ e. (f.0 (t.0 e).0, r.0 (t.0 e).1), λ b. t.1 (f.1 b.0, r.1 b.1))

  -- of a list of bytes
  pub list-names : (l : List ℕ) → (list_answer cx l ≡ Err (Rule n j)) ↔ ListBreach cx l n j
  unfolding list_answer
  list-names l =
      let t = tested (eqb (length l % 32) 0) (records_answer cx l) Length length-rule in
      let r = records-name l in (
        λ e. let b = r.0 (t.0 e).1 in record { whole = eqb-true _ _ (t.0 e).0; formed = b.0; breach = b.1 },
        λ b. t.1 (eq-eqb _ _ b.whole, r.1 (b.formed, b.breach)),
      )

  -- of a log
  pub log-names : (log : List ℕ) → (log_answer cx log ≡ Err (Rule n j)) ↔ LogBreach cx log n j
  unfolding log_answer first_bad_block
  log-names log =
      let x = cond (eqb (first_bad_block 15 log) (blocks_in log)) (records_answer cx (list_of log)) (Err (Block (first_bad_block 15 log))) in
      let t = tested (eqb (length log % 512) 0) x Length length-rule in
      let u = tested (eqb (first_bad_block 15 log) (blocks_in log)) (records_answer cx (list_of log)) (Block (first_bad_block 15 log)) (block-rule (first_bad_block 15 log)) in
      let r = records-name (list_of log) in
      let f = none-fails (λ k. block_right 15 k (eqb (k + 1) (blocks_in log)) (block_at log k)) (blocks_in log) in (
        λ e.
            let v = u.0 (t.0 e).1 in
            let b = r.0 v.1 in
            record {
              whole = eqb-true _ _ (t.0 e).0;
              right = f.0 v.0;
              kept = record { whole = list-whole 15 (omega arith, omega arith) log (eqb-true _ _ v.0); formed = b.0; breach = b.1 };
            },
        λ b. t.1 (eq-eqb _ _ b.whole, u.1 (f.1 b.right, r.1 (b.kept.formed, b.kept.breach))),
      )

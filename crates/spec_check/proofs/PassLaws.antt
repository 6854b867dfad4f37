-- A list passes if and only if its records are well formed and every rule holds on it.
-- Assumes nothing.
use Rattle.std.specs.Prelude.{Err, Ok, Result}
use Prim.Native.Nat.{ℕ, ◌%◌}
use mathlib.Core.Path.{◌≡◌, refl, ◌∙◌, ap}
use mathlib.Core.Bool.{Bool, true, false, cond, ◌&&◌}
use mathlib.Core.List.{List}
use lib.Dec.{eqb}
use lib.ListN.{length}
use Rattle.num.proofs.SearchLaws.{first-all}
use Rattle.settings.specs.declared.Settings.{Settings}
use Rattle.record.specs.declared.Record.{Record}
use Rattle.record.specs.declared.Refusal.{Refusal}
use Rattle.record.specs.declared.Refusal.TheVariants.{Word, Rule, Block, Length}
use Rattle.record.specs.Record.{records_in, first_bad}
use Rattle.log_block.specs.Block.{blocks_in, first_bad_block, list_of}
use Rattle.spec_rules.specs.Neighbour.{Context}
use Rattle.spec_rules.specs.Broken.{rule_at, first_broken, every_rule}
use Rattle.spec_check.specs.Check.{records_of, rule_answer, records_answer, list_answer, log_answer}

abbrev pub is_passed : Result (Unit {0}) Refusal → Bool
is_passed (Ok tt) = true
is_passed (Err r) = false

-- an answer that passes only where a test does
passed-if : (t : Bool) (x : Result (Unit {0}) Refusal) (r : Refusal) → is_passed (cond t x (Err r)) ≡ (t && is_passed x)
passed-if true x r = refl
passed-if false x r = refl

passed-test : (t : Bool) (r : Refusal) → is_passed (cond t (Ok tt) (Err r)) ≡ t
passed-test true r = refl
passed-test false r = refl

rules-pass : (cx : Context) (rs : List Record) → is_passed (rule_answer cx rs) ≡ every_rule cx rs
unfolding rule_answer first_broken every_rule
rules-pass cx rs = passed-test (eqb (first_broken cx rs) (length rs)) (Rule (rule_at cx rs (first_broken cx rs)) (first_broken cx rs)) ∙ first-all _ (length rs)

records-pass : (cx : Context) (l : List ℕ) → is_passed (records_answer cx l) ≡ (eqb (first_bad cx.settings l) (records_in l) && every_rule cx (records_of cx.settings l))
unfolding records_answer
records-pass cx l =
    passed-if (eqb (first_bad cx.settings l) (records_in l)) (rule_answer cx (records_of cx.settings l)) (Word (first_bad cx.settings l)) ∙ ap (λ (t : Bool). eqb (first_bad cx.settings l) (records_in l) && t) (rules-pass cx (records_of cx.settings l))

-- the checker passes a list of bytes if and only if it has whole records, all well formed, and every rule holds on them
pub list-passes : (cx : Context) (l : List ℕ)
    → is_passed (list_answer cx l) ≡ (eqb (length l % 32) 0 && (eqb (first_bad cx.settings l) (records_in l) && every_rule cx (records_of cx.settings l)))
unfolding list_answer
list-passes cx l =
    passed-if (eqb (length l % 32) 0) (records_answer cx l) Length ∙ ap (λ (t : Bool). eqb (length l % 32) 0 && t) (records-pass cx l)

-- and a log if and only if it has whole blocks, all right, and so for the list that it keeps
pub log-passes : (cx : Context) (log : List ℕ)
    → is_passed (log_answer cx log)
    ≡ (eqb (length log % 512) 0 && (eqb (first_bad_block 15 log) (blocks_in log) && (eqb (first_bad cx.settings (list_of log)) (records_in (list_of log)) && every_rule cx (records_of cx.settings (list_of log)))))
unfolding log_answer
log-passes cx log =
    let inner = cond (eqb (first_bad_block 15 log) (blocks_in log)) (records_answer cx (list_of log)) (Err (Block (first_bad_block 15 log))) in
    passed-if (eqb (length log % 512) 0) inner Length ∙ ap (λ (t : Bool). eqb (length log % 512) 0 && t)
    (passed-if (eqb (first_bad_block 15 log) (blocks_in log)) (records_answer cx (list_of log)) (Block (first_bad_block 15 log)) ∙ ap (λ (t : Bool). eqb (first_bad_block 15 log) (blocks_in log) && t) (records-pass cx (list_of log)))

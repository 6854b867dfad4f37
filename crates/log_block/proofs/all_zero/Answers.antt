-- `log_block::all_zero` meets its contract: that all of the bytes are zero is a test at each of their indices.
use Rattle.std.proofs.Common.{◌≡◌, ◌≢◌, ℕ, ◌+◌, ◌-◌, ◌<◌, ◌≤◌, Bool, true, false, List, length, sym, ◌∙◌, rules, arith, eq-eqb, ne_eqb}
use Rattle.std.specs.Bool.{MatchBool}
use Rattle.std.specs.List.{AllWithin, HoldsAt}
use Rattle.std.proofs.lemmas.Iterator.{YieldsList-from_slice, cases_from_all}
use borrow.Author.Tests.{tests}
use Rattle.num.specs.Bytes.{part}
use Rattle.num.proofs.PartLaws.{length_part, get_d_part}
use Rattle.num.proofs.SearchLaws.{all-intro, all-false}
use Rattle.log_block.specs.Block.{all_zero}
use Rattle.log_block.proofs.all_zero.Goals as goal

-- what a test of each byte of a part says
at_each : (b : List ℕ) (at n : ℕ) (r : Bool) → at + n ≤ length b
    → MatchBool r (AllWithin (λ x. x ≡ 0) (part b at n) 0 (length (part b at n))) ((k : ℕ) × (k < length (part b at n)) × HoldsAt (λ x. x ≢ 0) (part b at n) k)
    → r ≡ all_zero b at n
at_each b at n true h m =
    let p = length_part b at n h in
    sym (all-intro _ n (λ k l. eq-eqb _ 0 (sym (get_d_part b at n k l) ∙ m k 0 (omega arith) (omega arith))))
at_each b at n false h m =
    let p = length_part b at n h in
    let l : m.0 < n = omega (arith, m.1) in
    sym (all-false _ n m.0 l (ne_eqb _ 0 (λ e. m.2 0 (get_d_part b at n m.0 l ∙ e))))

pub returns : goal.returns
returns c =
    let a = c.args in
    let e : a.at + a.n - a.at ≡ a.n = omega arith in
    at_each a.b.now a.at a.n c.all.result c.requires
    (cases_from_all _ _ _ (λ x. x ≡ 0) (λ x. x ≢ 0) c.all.ensures.ran (YieldsList-from_slice (part a.b.now a.at a.n) (rw e at c.iter.ensures.rest)) (λ x q k. search (rules, tests)) (λ x q k. search (rules, tests)))

-- `record_bytes::quick::all_right` meets its contract: after each turn the first k records, where all passed, are records, or all of them.
use Rattle.std.proofs.Common.{◌≡◌, ℕ, ◌+◌, ◌<◌, Bool, true, ◌&&◌, arith}
use mathlib.Core.Bool.{and-eq-true_iff}
use Rattle.num.proofs.SearchLaws.{all-intro}
use Rattle.record.specs.Record.{well_formed, record_at}
use Rattle.record_bytes.proofs.quick.QuickLaws.{four-more}
use Rattle.record_bytes.proofs.quick.all_right.Goals as goal

pub returns-then-n-lt4 : goal.returns-then-n-lt4
returns-then-n-lt4 c = λ e. absurd (let z : ◌≡◌ {A = ℕ} 0 1 = cc in omega arith)

pub loop-k-init : goal.loop-k-init
loop-k-init c = (omega arith, λ e j l. absurd (omega arith))

pub four_right-right-requires : goal.four_right-right-requires
four_right-right-requires c = omega (arith, c.min.ensures)

pub loop-k-preserved : goal.loop-k-preserved
loop-k-preserved c =
    let a = c.args in
    let f : ℕ → Bool = λ j. well_formed a.s (record_at a.b.now j) in
    let l = c.loop-k in
    let next : (l.right && c.four_right-right.result) ≡ true → (j : ℕ) → j < l.k + 4 → j < a.n → f j ≡ true = λ e.
    let p = (and-eq-true_iff l.right c.four_right-right.result).0 e in
    four-more f a.n l.k c.min.result (omega arith) c.min.ensures (l.invariant.1 p.0) (c.four_right-right.ensures p.1)
    in
    (omega arith, next)

pub returns : goal.returns
returns c =
    λ e.
    let a = c.args in
    let l = c.loop-k in
    all-intro (λ j. well_formed a.s (record_at a.b.now j)) a.n (λ j h. l.invariant.1 e j (omega (arith, c.loop-k-test.false)) h)

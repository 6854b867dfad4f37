-- `chan_view::neighbours::is_last` meets its contract: by the core form.
use Prim.Native.Nat.{ℕ, ◌+◌, ◌%◌}
use mathlib.Core.Path.{◌≡◌}
use native.Mathlib.Omega.{arith}
use borrow.Author.Tests.{eq-eqb, ne_eqb, eqb-true}
use lib.Dec.{eqb}
use Rattle.spec_rules.specs.Neighbour.{run_of}
use Rattle.spec_rules.proofs.Bools.{iff-eq}
use Rattle.chan_view.proofs.neighbours.is_last.Goals as goal

halves : (b : ℕ) → eqb (b % 16) 15 ≡ eqb ((b + 1) % 16) 0
halves b = iff-eq _ _ (λ e. eq-eqb ((b + 1) % 16) 0 (omega (arith, eqb-true (b % 16) 15 e))) (λ e. eq-eqb (b % 16) 15 (omega (arith, eqb-true ((b + 1) % 16) 0 e)))

whole : (b : ℕ) → eqb (b % 32) 31 ≡ eqb ((b + 1) % 32) 0
whole b = iff-eq _ _ (λ e. eq-eqb ((b + 1) % 32) 0 (omega (arith, eqb-true (b % 32) 31 e))) (λ e. eq-eqb (b % 32) 31 (omega (arith, eqb-true ((b + 1) % 32) 0 e)))

pub returns-then-core-eq0 : goal.returns-then-core-eq0
unfolding run_of
returns-then-core-eq0 c = rw (eq-eqb _ 0 c.if-core-eq0.true) (halves c.args.b)

pub returns-then-core-eq1 : goal.returns-then-core-eq1
unfolding run_of
returns-then-core-eq1 c = rw (ne_eqb _ 0 c.if-core-eq0.false, eq-eqb _ 1 c.if-core-eq1.true) (whole c.args.b)

pub returns : goal.returns
unfolding run_of
returns c =
    let single : (c.args.b + 1) % 1 ≡ 0 = omega arith in
    rw (ne_eqb _ 0 c.if-core-eq0.false, ne_eqb _ 1 c.if-core-eq1.false, single)

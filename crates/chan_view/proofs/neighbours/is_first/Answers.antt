-- `chan_view::neighbours::is_first` meets its contract: by the core form.
use Prim.Native.Nat.{◌%◌}
use mathlib.Core.Path.{◌≡◌}
use native.Mathlib.Omega.{arith}
use borrow.Author.Tests.{eq-eqb, ne_eqb}
use Rattle.spec_rules.specs.Neighbour.{run_of}
use Rattle.chan_view.proofs.neighbours.is_first.Goals as goal

pub returns-then-core-eq0 : goal.returns-then-core-eq0
unfolding run_of
returns-then-core-eq0 c = rw (eq-eqb _ 0 c.if-core-eq0.true)

pub returns-then-core-eq1 : goal.returns-then-core-eq1
unfolding run_of
returns-then-core-eq1 c = rw (ne_eqb _ 0 c.if-core-eq0.false, eq-eqb _ 1 c.if-core-eq1.true)

pub returns : goal.returns
unfolding run_of
returns c =
    let single : c.args.b % 1 ≡ 0 = omega arith in
    rw (ne_eqb _ 0 c.if-core-eq0.false, ne_eqb _ 1 c.if-core-eq1.false, single)

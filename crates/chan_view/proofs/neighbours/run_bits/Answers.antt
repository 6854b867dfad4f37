-- `chan_view::neighbours::run_bits` meets its contract: by the core form.
use mathlib.Core.Path.{refl}
use native.Mathlib.Omega.{arith}
use borrow.Author.Tests.{eq-eqb, ne_eqb}
use Rattle.spec_rules.specs.Neighbour.{run_of}
use Rattle.chan_view.proofs.neighbours.run_bits.Goals as goal

pub returns-then-core-eq0 : goal.returns-then-core-eq0
unfolding run_of
returns-then-core-eq0 c = rw (eq-eqb _ 0 c.if-core-eq0.true) (omega arith, refl)

pub returns-then-core-eq1 : goal.returns-then-core-eq1
unfolding run_of
returns-then-core-eq1 c = rw (ne_eqb _ 0 c.if-core-eq0.false, eq-eqb _ 1 c.if-core-eq1.true) (omega arith, refl)

pub returns-else-core-eq1 : goal.returns-else-core-eq1
unfolding run_of
returns-else-core-eq1 c = rw (ne_eqb _ 0 c.if-core-eq0.false, ne_eqb _ 1 c.if-core-eq1.false) (omega arith, refl)

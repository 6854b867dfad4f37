-- `chan_view::bounds::after_three` meets its contract: what the latest of the three asks, they ask.
use Prim.Native.Nat.{max}
use mathlib.Core.Path.{◌≡◌}
use native.Mathlib.Omega.{arith}
use borrow.Author.Tests.{eq-eqb, ne_eqb}
use Rattle.chan_view.proofs.BoundLaws.{three-since}
use Rattle.chan_view.proofs.bounds.after_three.Goals as goal

pub returns-then-last-eq0 : goal.returns-then-last-eq0
returns-then-last-eq0 c =
    let a = c.args in
    let none : max (max a.a.0 a.b.0) a.c.0 ≡ 0 =
    rw (c.max-last.ensures, c.from-3.ensures, c.max-two.ensures, c.from-2.ensures, c.from.ensures) at c.if-last-eq0.true
    in
    rw (eq-eqb _ _ none) at (three-since a.a.0 a.b.0 a.c.0 a.gap)

pub overflow_add-result : goal.overflow_add-result
overflow_add-result c =
    omega (
      arith,
      c.from-4.ensures,
      c.max-last.ensures,
      c.from-3.ensures,
      c.max-two.ensures,
      c.from-2.ensures,
      c.from.ensures,
    )

pub returns : goal.returns
returns c =
    let a = c.args in
    let some : max (max a.a.0 a.b.0) a.c.0 ≡ 0 → ⊥ =
    rw (c.max-last.ensures, c.from-3.ensures, c.max-two.ensures, c.from-2.ensures, c.from.ensures) at c.if-last-eq0.false
    in
    rw (c.from-4.ensures, c.max-last.ensures, c.from-3.ensures, c.max-two.ensures, c.from-2.ensures, c.from.ensures)
    (rw (ne_eqb _ _ some) at (three-since a.a.0 a.b.0 a.c.0 a.gap))

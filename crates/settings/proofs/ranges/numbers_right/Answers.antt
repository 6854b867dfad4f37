-- `settings::ranges::numbers_right` meets its contract: right says whether each number passed so far is in its range; the last one is, as
-- every number of two bytes.
use mathlib.Core.Path.{◌≡◌, refl, sym, ◌∙◌}
use native.Mathlib.Omega.{arith}
use borrow.Author.Tests.{eq-eqb, ne_eqb}
use Rattle.num.specs.Search.{all_up_to}
use Rattle.num.proofs.SearchLaws.{all-next}
use Rattle.settings.specs.Settings.{lows, highs, half}
use Rattle.settings.specs.Form.Numbers.{leasts, mosts, numbers_right}
use Rattle.settings.proofs.NumberLaws.{last-right}
use Rattle.settings.proofs.ranges.numbers_right.Goals as goal

pub returns-then-b-ne32 : goal.returns-then-b-ne32
returns-then-b-ne32 c = sym (rw (ne_eqb _ 32 c.if-b-ne32.true))

pub loop-i-init : goal.loop-i-init
unfolding all_up_to
loop-i-init c = refl

pub loop-i-preserved : goal.loop-i-preserved
unfolding leasts mosts lows highs
loop-i-preserved c = rw (c.half_at-x.ensures, c.loop-i.invariant) (sym (all-next _ _))

pub returns : goal.returns
returns c =
    let b = c.args.b.now in
    let e : c.loop-i.i ≡ 16 = omega arith in
    let all : c.loop-i.right ≡ numbers_right (half b) 16 = rw e at c.loop-i.invariant in
    rw (eq-eqb _ 32 c.if-b-ne32.false) (all ∙ last-right b (λ i l. omega (arith, c.type_inv.b i)) (omega arith))

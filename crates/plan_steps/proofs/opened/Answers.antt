-- `plan_steps::opened` meets its contract.
use Prim.Native.Nat.{◌+◌, ◌*◌}
use mathlib.Core.Path.{sym, ◌∙◌}
use borrow.Author.Tests.{eq-eqb, ne_eqb}
use Rattle.plan_bytes.specs.Form.Numbers.{half}
use Rattle.plan_steps.proofs.Tested.{shut-is}
use Rattle.plan_steps.proofs.opened.Goals as goal

pub returns-then-tag-eq0 : goal.returns-then-tag-eq0
returns-then-tag-eq0 c =
    let e = sym c.tag.ensures ∙ c.if-tag-eq0.true in
    rw (sym (shut-is c.args.b.now c.args.x c.requires.x_bound) ∙ eq-eqb (half c.args.b.now (640 + 2 * c.args.x)) 0 e)

pub returns-else-tag-eq0 : goal.returns-else-tag-eq0
returns-else-tag-eq0 c = rw (sym (shut-is c.args.b.now c.args.x c.requires.x_bound) ∙ ne_eqb _ _ (λ e. c.if-tag-eq0.false (c.tag.ensures ∙ e)))

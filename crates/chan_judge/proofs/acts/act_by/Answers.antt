-- `chan_judge::acts::act_by` meets its contract: asked is what the banks below x ask, in every turn.
use mathlib.Core.Path.{◌≡◌, refl, ◌∙◌}
use native.Mathlib.Omega.{arith}
use Rattle.spec_rules.specs.Checks.{max_up_to}
use Rattle.chan_judge.specs.Form.Tests.{act_over}
use Rattle.chan_judge.proofs.ActLaws.{acts-next}
use Rattle.chan_judge.proofs.acts.act_by.Goals as goal

pub loop-x-init : goal.loop-x-init
unfolding max_up_to
loop-x-init g c = λ banks reads. refl

pub loop-x-preserved : goal.loop-x-preserved
loop-x-preserved g c = λ banks reads.
    let a = c.args in
    let k = c.loop-x in
    c.act_with-asked.ensures ∙ rw (k.invariant banks reads, reads k.x c.opened.result (omega arith) c.opened.ensures, acts-next a.s banks a.b k.x)

pub returns : goal.returns
unfolding act_over
returns g c = λ banks reads.
    let e : c.loop-x.x ≡ 32 = omega arith in
    rw e at (c.loop-x.invariant banks reads)

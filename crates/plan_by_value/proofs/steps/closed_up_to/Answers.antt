-- `plan_by_value::steps::closed_up_to` meets its contract: what is closed of the banks below x, in every turn.
use mathlib.Core.Path.{◌≡◌}
use mathlib.Core.Bool.{not, ◌&&◌}
use native.Mathlib.Omega.{arith}
use Rattle.spec_rules.specs.Neighbour.{bank_count, context_of}
use Rattle.spec_rules.specs.History.{is_closed}
use Rattle.spec_rules.specs.Channel.{state_of}
use Rattle.spec_plan.specs.Plan.{Draft, closed_up_to}
use Rattle.plan_by_value.specs.Form.Drawn.{Draws}
use Rattle.plan_by_value.proofs.StepLaws.{up-to-next, up-to-none, draws-turn}
use Rattle.plan_by_value.proofs.steps.closed_up_to.Goals as goal
use Rattle.plan_by_value.proofs.steps.closed_up_to.Goals.{then-banks-not_closed, else-banks-not_closed}

pub loop-x-init : goal.loop-x-init
loop-x-init g c pick t p e k = rw (up-to-none c.args.s p pick e) k

pub loop-x-preserved : goal.loop-x-preserved
loop-x-preserved g c pick t p e k =
    let s = c.args.s in
    let l = c.loop-x in
    let y : Draft = closed_up_to (context_of s) pick l.x e in
    let j : Draws s p l.z y = l.invariant pick t p e k in
    let both : (c.banks.result && c.not_closed.result) ≡ (pick l.x && not (is_closed (state_of l.z.planner.channel l.x))) = rw (t.told _ _ (c.loop-x-test.true, c.banks.ensures), c.not_closed.ensures) in
    rw (up-to-next s p pick l.x e)
    (draws-turn s p l.z _ y pick l.x j (c.banks.result && c.not_closed.result) both
    (elim c.if-banks-not_closed.branch [ then-banks-not_closed w ↦ rw (w.if-banks-not_closed.true, w.z-is) (w.closed-z.ensures p y j) | else-banks-not_closed w ↦ rw (w.if-banks-not_closed.false, w.z-is) j ]))

pub returns : goal.returns
unfolding bank_count
returns g c pick t p e k =
    let l = c.loop-x in
    let all : l.x ≡ 32 = omega arith in
    rw all at (l.invariant pick t p e k)

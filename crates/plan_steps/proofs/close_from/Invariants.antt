-- `plan_steps::close_from` meets its contract.
use lib.Dec.{leb}
use Rattle.spec_rules.specs.Neighbour.{context_of}
use Rattle.spec_plan.specs.Plan.{closed_up_to}
use Rattle.plan_bytes.specs.Form.Drawn.{drafted, Drawn}
use Rattle.plan_steps.proofs.close_from.Given as goal

abbrev pub invariant-loop-k : goal.invariant-loop-k
invariant-loop-k l = Drawn l.s (closed_up_to (context_of l.s) (λ x. leb l.first x) l.k (drafted l.initial.b)) l.initial.room l.start l.b l.room l.to

-- `judge_all` meets its contract: the walk stops at the first record that breaks a rule, since all are records.
use Rattle.std.specs.Prelude.{Err}
use mathlib.Core.Path.{sym, ◌∙◌, ap}
use Rattle.spec_rules.specs.Neighbour.{context_of}
use Rattle.spec_rules.proofs.NeighbourLaws.{core-neighbours}
use Rattle.record.specs.declared.Refusal.TheVariants.{Rule}
use Rattle.check_walk.specs.declared.Stop.{Stop}
use Rattle.check_walk.specs.Form.Walk.{stop_of}
use Rattle.check_list.proofs.StopLaws.{stop-passed, stop-refused}
use Rattle.check_list.proofs.walked.judge_all.Goals as goal

pub returns-then-at-n : goal.returns-then-at-n
unfolding stop_of context_of
returns-then-at-n c =
    let a = c.args in
    let at = ap (λ (x : Stop). x.at) c.walk-stop.ensures in
    stop-passed (context_of a.s) a.per a.b.now a.n (core-neighbours a.s) (sym at ∙ c.if-at-n.true)

pub returns : goal.returns
unfolding stop_of context_of
returns c =
    let a = c.args in
    let e = c.walk-stop.ensures in
    let at = ap (λ (x : Stop). x.at) e in
    ap (λ (x : Stop). Err (Rule x.rule x.at)) e ∙ stop-refused (context_of a.s) a.per a.b.now a.n (core-neighbours a.s) c.requires.by_index_2 (λ z. c.if-at-n.false (at ∙ z))

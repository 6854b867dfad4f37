-- `check_list` meets its contract: where the walk stops says which of the definition's cases holds; the first bad record counts
-- before a broken rule.
use Rattle.std.specs.Prelude.{Err}
use mathlib.Core.Path.{◌≡◌, sym, ◌∙◌, ap}
use native.Mathlib.Omega.{arith}
use borrow.Author.Tests.{eq-eqb, ne_eqb}
use Rattle.spec_rules.specs.Neighbour.{context_of}
use Rattle.spec_rules.proofs.NeighbourLaws.{core-neighbours}
use Rattle.record.specs.declared.Refusal.TheVariants.{Word, Rule}
use Rattle.record.specs.Record.{records_in}
use Rattle.check_walk.specs.declared.Stop.{Stop}
use Rattle.spec_check.specs.Check.{list_answer, records_answer, rule_answer}
use Rattle.check_walk.specs.Form.Walk.{stop_of}
use Rattle.check_list.proofs.WalkLaws.{list-via, list-within, list-formed}
use Rattle.check_list.proofs.StopLaws.{stop-passed, stop-refused, list-bad, list-good}
use Rattle.check_list.proofs.check_list.Goals as goal

pub returns-then-list-ne0 : goal.returns-then-list-ne0
unfolding list_answer context_of
returns-then-list-ne0 c = rw (ne_eqb _ 0 c.if-list-ne0.true)

pub walk-stop-requires : goal.walk-stop-requires
walk-stop-requires c =
    record {
      n_bound = (omega arith, omega arith, λ h. omega arith);
      by_index = list-within c.args.list.now;
    }

pub returns-then-at-n : goal.returns-then-at-n
unfolding list_answer records_answer stop_of context_of
returns-then-at-n c =
    let a = c.args in
    let end : c.walk-stop.result.at ≡ records_in a.list.now = c.if-at-n.true in
    let q = sym (ap (λ (x : Stop). x.at) c.walk-stop.ensures) ∙ end in
    rw (eq-eqb _ 0 c.if-list-ne0.false, eq-eqb _ _ (list-good (context_of a.s) a.list.now q))
    (stop-passed (context_of a.s) _ a.list.now (records_in a.list.now) (core-neighbours a.s) q ∙ ap (rule_answer (context_of a.s)) (list-via a.s a.list.now))

pub returns-then-stop-eq0 : goal.returns-then-stop-eq0
unfolding list_answer records_answer stop_of context_of
returns-then-stop-eq0 c =
    let a = c.args in
    let w = c.walk-stop.ensures in
    let e = ap (λ (x : Stop). x.at) w in
    let n = c.if-at-n.false in
    let g = list-bad (context_of a.s) a.list.now (λ z. n (e ∙ z)) (sym (ap (λ (x : Stop). x.rule) w) ∙ c.if-stop-eq0.true) in
    rw (eq-eqb _ 0 c.if-list-ne0.false, ne_eqb _ _ (λ z. n (e ∙ sym g ∙ z)), g) (ap (λ (x : Stop). Err (Word x.at)) w)

pub returns-then-bad-n : goal.returns-then-bad-n
unfolding list_answer records_answer context_of
returns-then-bad-n c =
    let f = c.first_bad-bad.ensures in
    rw (eq-eqb _ 0 c.if-list-ne0.false, ne_eqb _ _ (λ z. c.if-bad-n.true (f ∙ z)), f)

pub returns : goal.returns
unfolding list_answer records_answer stop_of context_of
returns c =
    let a = c.args in
    let w = c.walk-stop.ensures in
    let e = ap (λ (x : Stop). x.at) w in
    let g = sym c.first_bad-bad.ensures ∙ c.if-bad-n.false in
    rw (eq-eqb _ 0 c.if-list-ne0.false, eq-eqb _ _ g)
    (ap (λ (x : Stop). Err (Rule x.rule x.at)) w
    ∙ stop-refused (context_of a.s) _ a.list.now (records_in a.list.now) (core-neighbours a.s) (list-formed a.s a.list.now g) (λ z. c.if-at-n.false (e ∙ z))
    ∙ ap (rule_answer (context_of a.s)) (list-via a.s a.list.now))

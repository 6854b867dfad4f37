-- `check_stamped` meets its contract: the tests are the definition's, in their order.
use Rattle.std.proofs.lemmas.Result.{err_from_is_err_and}
use Rattle.std.specs.Prelude.{Err}
use mathlib.Core.Path.{◌∙◌, sym, ap}
use borrow.Author.Tests.{eq-eqb, ne_eqb}
use Rattle.settings.specs.declared.Settings.{Settings}
use Rattle.record.specs.Record.{first_bad}
use Rattle.log_block.specs.Block.{list_of}
use Rattle.spec_rules.specs.Neighbour.{context_of}
use Rattle.spec_check.specs.Check.{records_of, rule_answer}
use Rattle.log_stamp.proofs.StampLaws.{right-passed, right-refused, right-next}
use Rattle.calls_stamp.specs.Results.{stamped_answer}
use Rattle.calls_stamp.proofs.checks.check_stamped.Goals as goal

pub returns-then-log-ne0 : goal.returns-then-log-ne0
unfolding stamped_answer
returns-then-log-ne0 c = rw (ne_eqb _ 0 c.if-log-ne0.true)

pub judge_right-requires : goal.judge_right-requires
judge_right-requires c =
    let log = c.args.log.now in
    let q = right-passed log _ (sym c.tested.ensures ∙ c.in_ok-s.was) in
    record {
      log_value = q.0.right;
      list_value = ap (λ (x : Settings). first_bad x (list_of log)) q.1 ∙ q.0.good;
    }

pub returns-in_err-s : goal.returns-in_err-s
unfolding stamped_answer
returns-in_err-s c =
    let log = c.args.log.now in
    let p = err_from_is_err_and c.from_residual.result c.from_residual.ensures.1 in
    rw (p.1, p.2, eq-eqb _ 0 c.if-log-ne0.false)
    (sym (right-refused Err log _ (λ s. rule_answer (context_of s) (records_of s (list_of log))) (sym c.tested.ensures ∙ c.in_err-s.was)))

pub returns : goal.returns
unfolding stamped_answer
returns c =
    let log = c.args.log.now in
    let q = right-passed log _ (sym c.tested.ensures ∙ c.in_ok-s.was) in
    rw (eq-eqb _ 0 c.if-log-ne0.false)
    (c.judge_right.ensures ∙ ap (λ (x : Settings). rule_answer (context_of x) (records_of x (list_of log))) q.1
    ∙ sym (right-next Err log (λ s. rule_answer (context_of s) (records_of s (list_of log))) q.0))

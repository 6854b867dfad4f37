-- `check_log` meets its contract: the tests are the definition's, in their order.
use mathlib.Core.Path.{sym, ◌∙◌, ap}
use native.Mathlib.Omega.{arith}
use borrow.Author.Tests.{eq-eqb, ne_eqb}
use Rattle.spec_rules.specs.Neighbour.{context_of}
use Rattle.log_block.proofs.CountLaws.{Records}
use Rattle.log_list.proofs.BadLaws.{bad-of-all}
use Rattle.spec_check.specs.Check.{log_answer, records_answer, rule_answer}
use Rattle.check_list.proofs.WalkLaws.{log-via, log-within, log-formed, log-few}
use Rattle.check_list.proofs.check_log.Goals as goal

-- document 01's form
fifteen : Records 15
fifteen = (omega arith, omega arith)

pub returns-then-log-ne0 : goal.returns-then-log-ne0
unfolding log_answer context_of
returns-then-log-ne0 c = rw (ne_eqb _ 0 c.if-log-ne0.true)

pub returns-then-block-log : goal.returns-then-block-log
unfolding log_answer context_of
returns-then-block-log c =
    let e = c.faults-found.ensures.0 in
    rw (eq-eqb _ 0 c.if-log-ne0.false, ne_eqb _ _ (λ z. c.if-block-log.true (e ∙ z)), e)

pub records_in-n-requires : goal.records_in-n-requires
records_in-n-requires c =
    record { log_value = sym c.faults-found.ensures.0 ∙ c.if-block-log.false }

pub returns-then-bad-n : goal.returns-then-bad-n
unfolding log_answer records_answer context_of
returns-then-bad-n c =
    let a = c.args in
    let f = c.faults-found.ensures in
    let g = sym f.0 ∙ c.if-block-log.false in
    let e = f.1 ∙ bad-of-all a.s 15 a.log.now g in
    let n = c.records_in-n.ensures in
    rw (eq-eqb _ 0 c.if-log-ne0.false, eq-eqb _ _ g, ne_eqb _ _ (λ z. c.if-bad-n.true (e ∙ z ∙ sym n)), e)

pub judge_all-requires : goal.judge_all-requires
judge_all-requires c =
    let a = c.args in
    let f = c.faults-found.ensures in
    let g = sym f.0 ∙ c.if-block-log.false in
    let n = c.records_in-n.ensures in
    let e = sym (f.1 ∙ bad-of-all a.s 15 a.log.now g) ∙ c.if-bad-n.false ∙ n in
    record {
      n_bound = rw n (omega (arith, log-few 15 fifteen a.log.now g), omega arith, λ h. omega arith);
      by_index = rw n (log-within 15 fifteen a.log.now g);
      by_index_2 = rw n (log-formed a.s 15 fifteen a.log.now g e);
    }

pub returns : goal.returns
unfolding log_answer records_answer context_of
returns c =
    let a = c.args in
    let f = c.faults-found.ensures in
    let g = sym f.0 ∙ c.if-block-log.false in
    let n = c.records_in-n.ensures in
    let e = sym (f.1 ∙ bad-of-all a.s 15 a.log.now g) ∙ c.if-bad-n.false ∙ n in
    rw (eq-eqb _ 0 c.if-log-ne0.false, eq-eqb _ _ g, eq-eqb _ _ e) (rw n at c.judge_all.ensures ∙ ap (rule_answer (context_of a.s)) (log-via a.s 15 fifteen a.log.now g))

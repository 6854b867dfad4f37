-- `tested_under` meets its contract: the tests are the definition's, in their order.
use Rattle.std.specs.Prelude.{Ok}
use mathlib.Core.Path.{◌∙◌, sym, ap}
use native.Mathlib.Omega.{arith}
use borrow.Author.Tests.{eq-eqb, ne_eqb}
use Rattle.settings.specs.declared.Settings.{Settings}
use Rattle.record.specs.Record.{first_bad}
use Rattle.log_block.specs.Block.{list_of}
use Rattle.log_list.proofs.BadLaws.{bad-of-all}
use Rattle.log_stamp.proofs.StampLaws.{fourteen, others-are}
use Rattle.log_stamp.proofs.tested_under.Goals as goal

pub returns-then-found-n : goal.returns-then-found-n
returns-then-found-n c =
    let e = c.found_in-found.ensures.block_value.0 in
    rw (ne_eqb _ _ (λ z. c.if-found-n.true (e ∙ z)), e)

pub first_unlike-other-requires : goal.first_unlike-other-requires
first_unlike-other-requires c = λ e i l. c.found_in-found.ensures.log_value e i (omega (arith, c.if-found-n.false))

pub returns-then-other-n : goal.returns-then-other-n
returns-then-other-n c =
    let g = sym c.found_in-found.ensures.block_value.0 ∙ c.if-found-n.false in
    let o = c.first_unlike-other.ensures ∙ others-are c.args.log.now c.requires.log_value in
    rw (eq-eqb _ _ g, ne_eqb _ _ (λ z. c.if-other-n.true (o ∙ z)), o)

pub records_in-requires : goal.records_in-requires
records_in-requires c =
    record {
      log_value = sym c.found_in-found.ensures.block_value.0 ∙ c.if-found-n.false;
    }

pub returns-then-found-records_in : goal.returns-then-found-records_in
returns-then-found-records_in c =
    let log = c.args.log.now in
    let f = c.found_in-found.ensures.block_value in
    let g = sym f.0 ∙ c.if-found-n.false in
    let o = sym (c.first_unlike-other.ensures ∙ others-are log c.requires.log_value) ∙ c.if-other-n.false in
    let e = f.1 ∙ bad-of-all c.args.s 14 log g ∙ ap (λ (x : Settings). first_bad x (list_of log)) c.requires.s_value in
    rw (eq-eqb _ _ g, eq-eqb _ _ o, ne_eqb _ _ (λ z. c.if-found-records_in.true (e ∙ z ∙ sym c.records_in.ensures)), e)

pub returns : goal.returns
returns c =
    let log = c.args.log.now in
    let f = c.found_in-found.ensures.block_value in
    let g = sym f.0 ∙ c.if-found-n.false in
    let o = sym (c.first_unlike-other.ensures ∙ others-are log c.requires.log_value) ∙ c.if-other-n.false in
    let e = f.1 ∙ bad-of-all c.args.s 14 log g ∙ ap (λ (x : Settings). first_bad x (list_of log)) c.requires.s_value in
    rw (eq-eqb _ _ g, eq-eqb _ _ o, eq-eqb _ _ (sym e ∙ c.if-found-records_in.false ∙ c.records_in.ensures)) (ap Ok c.requires.s_value)

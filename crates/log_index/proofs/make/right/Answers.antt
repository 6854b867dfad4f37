-- `right` meets its contract: the tests are the definition's, in their order.
use mathlib.Core.Path.{◌∙◌, sym}
use borrow.Author.Tests.{eq-eqb, ne_eqb}
use Rattle.log_list.proofs.BadLaws.{bad-of-all}
use native.Mathlib.Omega.{arith}
use Rattle.log_index.proofs.make.MakeLaws.{fifteen}
use Rattle.log_index.proofs.make.right.Goals as goal

pub returns-then-found-n : goal.returns-then-found-n
returns-then-found-n c =
    let e = c.faults-found.ensures.0 in
    rw (ne_eqb _ _ (λ z. c.if-found-n.true (e ∙ z)), e)

pub records_in-requires : goal.records_in-requires
records_in-requires c =
    record { log_value = sym c.faults-found.ensures.0 ∙ c.if-found-n.false }

pub returns-then-found-records_in : goal.returns-then-found-records_in
returns-then-found-records_in c =
    let a = c.args in
    let g = sym c.faults-found.ensures.0 ∙ c.if-found-n.false in
    let e = c.faults-found.ensures.1 ∙ bad-of-all a.s 15 a.log.now g in
    rw (eq-eqb _ _ g, ne_eqb _ _ (λ z. c.if-found-records_in.true (e ∙ z ∙ sym c.records_in.ensures)), e)

pub returns : goal.returns
returns c =
    let a = c.args in
    let g = sym c.faults-found.ensures.0 ∙ c.if-found-n.false in
    let e = c.faults-found.ensures.1 ∙ bad-of-all a.s 15 a.log.now g in
    rw (eq-eqb _ _ g, eq-eqb _ _ (sym e ∙ c.if-found-records_in.false ∙ c.records_in.ensures))

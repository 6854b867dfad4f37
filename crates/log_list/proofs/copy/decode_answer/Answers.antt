-- `decode_answer` meets its contract: the tests are the definition's, in their order.
use Prim.Native.Nat.{◌/◌}
use mathlib.Core.Path.{◌∙◌, sym}
use borrow.Author.Tests.{eq-eqb, ne_eqb, le-leb, lt-leb}
use Rattle.log_list.specs.Log.{decode_answer}
use Rattle.log_list.proofs.BadLaws.{bad-of-all}
use Rattle.log_list.proofs.copy.decode_answer.Goals as goal

pub returns-then-log-ne0 : goal.returns-then-log-ne0
unfolding decode_answer
returns-then-log-ne0 c = rw (ne_eqb _ 0 c.if-log-ne0.true)

pub returns-then-found-log : goal.returns-then-found-log
unfolding decode_answer
returns-then-found-log c =
    let e = c.faults-found.ensures.0 in
    rw (eq-eqb _ 0 c.if-log-ne0.false, ne_eqb _ _ (λ z. c.if-found-log.true (e ∙ z)), e)

pub records_in-n-requires : goal.records_in-n-requires
records_in-n-requires c =
    record { log_value = sym c.faults-found.ensures.0 ∙ c.if-found-log.false }

pub returns-then-found-n : goal.returns-then-found-n
unfolding decode_answer
returns-then-found-n c =
    let g = sym c.faults-found.ensures.0 ∙ c.if-found-log.false in
    let e = c.faults-found.ensures.1 ∙ bad-of-all c.args.s c.args.per.records c.args.log.now g in
    rw (eq-eqb _ 0 c.if-log-ne0.false, eq-eqb _ _ g, ne_eqb _ _ (λ z. c.if-found-n.true (e ∙ z ∙ sym c.records_in-n.ensures)), e)

pub returns-then-n-room : goal.returns-then-n-room
unfolding decode_answer
returns-then-n-room c =
    let room = c.args.room in
    let g = sym c.faults-found.ensures.0 ∙ c.if-found-log.false in
    let e = c.faults-found.ensures.1 ∙ bad-of-all c.args.s c.args.per.records c.args.log.now g in
    let n = c.records_in-n.ensures in
    rw (eq-eqb _ 0 c.if-log-ne0.false, eq-eqb _ _ g, eq-eqb _ _ (sym e ∙ c.if-found-n.false ∙ n), ← n, le-leb _ (room / 32) c.if-n-room.true)

pub returns : goal.returns
unfolding decode_answer
returns c =
    let room = c.args.room in
    let g = sym c.faults-found.ensures.0 ∙ c.if-found-log.false in
    let e = c.faults-found.ensures.1 ∙ bad-of-all c.args.s c.args.per.records c.args.log.now g in
    let n = c.records_in-n.ensures in
    rw (eq-eqb _ 0 c.if-log-ne0.false, eq-eqb _ _ g, eq-eqb _ _ (sym e ∙ c.if-found-n.false ∙ n), ← n, lt-leb _ (room / 32) c.if-n-room.false)

-- `read_request` meets its contract: length, kind and spare bytes are tested in the definition's order.
use Rattle.std.proofs.Common.{sym, ◌∙◌, arith, eq-eqb, ne_eqb, le-leb}
use borrow.Author.Tests.{lt-leb}
use Rattle.record.specs.Request.{kind_of, request_read}
use Rattle.record_bytes.proofs.requests.read_request.Goals as goal

pub returns-in_default : goal.returns-in_default
unfolding request_read
returns-in_default c = rw (ne_eqb _ 24 c.in_default.ensures.cases)

pub returns-then-b-gt7 : goal.returns-then-b-gt7
unfolding request_read
returns-then-b-gt7 c =
    let is = c.in-Some.ensures.cases.same in
    rw (eq-eqb _ 24 c.in-Some.ensures.cases.long, ← is, lt-leb (kind_of c.in-Some.b.now) 7 (omega arith))

pub returns-then-spare_right : goal.returns-then-spare_right
unfolding request_read
returns-then-spare_right c =
    let is = c.in-Some.ensures.cases.same in
    rw (
      eq-eqb _ 24 c.in-Some.ensures.cases.long,
      ← is,
      le-leb (kind_of c.in-Some.b.now) 7 c.if-b-gt7.false,
      sym c.spare_right.ensures ∙ c.if-spare_right.true,
    ) c.request_of.ensures

pub returns : goal.returns
unfolding request_read
returns c =
    let is = c.in-Some.ensures.cases.same in
    rw (
      eq-eqb _ 24 c.in-Some.ensures.cases.long,
      ← is,
      le-leb (kind_of c.in-Some.b.now) 7 c.if-b-gt7.false,
      sym c.spare_right.ensures ∙ c.if-spare_right.false,
    )

-- `request_of` meets its contract: the tests of the kind are the definition's, two kinds together where the fields are alike, and
-- the fields are read at their places.
use Rattle.std.proofs.Common.{◌∙◌}
use Rattle.record.specs.Request.{kind_of, request_of}
use Rattle.record_bytes.proofs.requests.KindLaws.{read-kinds, write-kinds, last-kind}
use Rattle.record_bytes.proofs.requests.request_of.Goals as goal

pub returns-then-kind : goal.returns-then-kind
returns-then-kind c =
    let o = c.args in
    c.placed.ensures ∙ rw c.place_of-p.ensures (read-kinds o.s o.b.now c.if-kind.true)

pub returns-then-kind-2 : goal.returns-then-kind-2
returns-then-kind-2 c =
    let o = c.args in
    c.placed-then-kind-2.ensures
    ∙ rw (c.place_of-p.ensures, c.u16_at.ensures.0, c.u64_at-then-kind-2.ensures, c.u64_at.ensures)
    (write-kinds o.s o.b.now c.if-kind-2.true)

pub returns-then-kind-eq2 : goal.returns-then-kind-eq2
unfolding request_of
returns-then-kind-eq2 c = rw c.if-kind-eq2.true

pub returns-then-kind-eq3 : goal.returns-then-kind-eq3
unfolding request_of
returns-then-kind-eq3 c = rw (c.if-kind-eq3.true, c.u32_at.ensures)

pub returns-then-kind-eq4 : goal.returns-then-kind-eq4
unfolding request_of
returns-then-kind-eq4 c = rw c.if-kind-eq4.true

pub returns : goal.returns
unfolding request_of
returns c = rw (last-kind (kind_of c.args.b.now) c.requires c.if-kind.false c.if-kind-2.false c.if-kind-eq2.false c.if-kind-eq3.false c.if-kind-eq4.false)

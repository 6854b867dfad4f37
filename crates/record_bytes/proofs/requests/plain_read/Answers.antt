-- `plain_read` meets its contract: the tests are those that a read passes.
use Rattle.std.proofs.Common.{sym, ◌∙◌}
use mathlib.Core.Bool.{false≢true}
use Rattle.record_bytes.proofs.requests.KindLaws.{plain-says}
use Rattle.record_bytes.proofs.requests.plain_read.Goals as goal

pub returns-in_default : goal.returns-in_default
returns-in_default c = λ e. absurd (false≢true e)

pub returns-then-b-ne0 : goal.returns-then-b-ne0
returns-then-b-ne0 c = λ e. absurd (false≢true e)

pub returns-then-spare_right : goal.returns-then-spare_right
returns-then-spare_right c =
    λ e.
    let a = c.args in
    let l = c.in-Some.ensures.cases.long in
    let is = c.in-Some.ensures.cases.same in
    let i = rw (c.place_of.ensures, is) at (c.in_place.ensures e) in
    let spare = rw is at (sym c.spare_right.ensures ∙ c.if-spare_right.true) in
    let kind = rw is at c.if-b-ne0.false in
    (l, i, plain-says a.s a.b.now l kind spare i)

pub returns : goal.returns
returns c = λ e. absurd (false≢true e)

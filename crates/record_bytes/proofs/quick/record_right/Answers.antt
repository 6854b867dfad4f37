-- `record_bytes::quick::record_right` meets its contract: the numbers that are read are the fields of the record.
use mathlib.Core.Bool.{and-eq-true_iff}
use Rattle.std.proofs.Common.{◌+◌, arith}
use Rattle.record_bytes.proofs.quick.QuickLaws.{fields-say}
use Rattle.record_bytes.proofs.quick.record_right.Goals as goal

pub returns : goal.returns
returns c =
    λ e.
    let a = c.args in
    let p = (and-eq-true_iff c.word_right.result _).0 e in
    fields-say a.s a.b.now a.at c.number_at-head.result c.number_at-lo.result c.number_at-hi.result c.number_at.result c.number_at-2.result c.number_at-3.result c.number_at-4.result
    (omega arith) (omega (arith, c.type_inv.b (a.at + 4)))
    c.number_at-head.ensures c.number_at-lo.ensures c.number_at-hi.ensures c.number_at.ensures c.number_at-2.ensures c.number_at-3.ensures c.number_at-4.ensures
    (c.word_right.ensures p.0) p.1

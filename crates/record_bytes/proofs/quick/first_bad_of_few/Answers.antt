-- `record_bytes::quick::first_bad_of_few` meets its contract: where all records pass, none is bad.
use Rattle.std.proofs.Common.{sym}
use Rattle.num.proofs.SearchLaws.{all-at, first-none}
use Rattle.record.specs.Record.{well_formed, record_at, records_in, first_bad}
use Rattle.record_bytes.proofs.quick.first_bad_of_few.Goals as goal

pub returns-then-all_right : goal.returns-then-all_right
unfolding first_bad
returns-then-all_right c =
    let a = c.args in
    sym (first-none _ _ (λ i h. all-at (λ j. well_formed a.s (record_at a.b.now j)) (records_in a.b.now) i (c.all_right.ensures c.if-all_right.true) h))

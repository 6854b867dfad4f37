-- `record_bytes::quick::word_right` meets its contract: each kind has the test of its words.
use Rattle.record_bytes.proofs.quick.QuickLaws.{word-says}
use Rattle.record_bytes.proofs.quick.word_right.Goals as goal

pub returns : goal.returns
returns c =
    let a = c.args in
    word-says a.s a.head a.lo a.hi c.row_right.result c.col_right.result c.row_right.ensures c.col_right.ensures

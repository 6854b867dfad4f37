-- `record_bytes::quick::col_right` meets its contract: a word that passes is that of a packet.
use Rattle.std.proofs.Common.{◌%◌, arith}
use Rattle.record_bytes.proofs.quick.QuickLaws.{col-says}
use Rattle.record_bytes.proofs.quick.col_right.Goals as goal

pub returns : goal.returns
returns c =
    let a = c.args in
    col-says a.device a.columns a.lo a.hi (a.device % 32) _ (omega arith) (omega arith)

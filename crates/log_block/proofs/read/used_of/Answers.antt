-- `log_block::read::used_of` meets its contract: every block but the last is full.
use Rattle.std.proofs.Common.{sym}
use Rattle.log_block.proofs.ListThenLog.{some-records, used-full}
use Rattle.log_block.proofs.read.used_of.Goals as goal

pub returns-then-k-log : goal.returns-then-k-log
returns-then-k-log c =
    let a = c.args in
    let b = c.requires.k_bound in
    sym (used-full a.per.records (some-records _ a.per.few _ b.1 a.k b.0) a.log.now b.1 a.k c.if-k-log.true)

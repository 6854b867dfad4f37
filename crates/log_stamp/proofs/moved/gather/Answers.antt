-- `gather` meets its contract: the records stand in one block, or at the end of one and the start of the next.
use Prim.Native.Nat.{◌%◌, ◌<◌}
use native.Mathlib.Nat.{mod-lt}
use native.Mathlib.Omega.{arith}
use Rattle.log_block.proofs.CountLaws.{Records}
use Rattle.log_stamp.proofs.moved.ChunkLaws.{first-within, rest-within, gathered}
use Rattle.log_stamp.proofs.moved.gather.Goals as goal

pub overflow_sub-per : goal.overflow_sub-per
overflow_sub-per c =
    let m : c.args.first % c.args.per.records < c.args.per.records = mod-lt c.args.first (omega arith) in
    omega arith

pub copy_records-requires : goal.copy_records-requires
copy_records-requires c =
    let a = c.args in
    let form : Records a.per.records = (omega arith, a.per.few) in
    let w = first-within a.per.records form a.log.now c.requires.log_value a.first a.n (omega arith) (omega arith) (omega arith) c.requires.n_bound in
    rw c.min-m.ensures (w, omega arith)

pub overflow_add-k : goal.overflow_add-k
overflow_add-k c =
    let a = c.args in
    let form : Records a.per.records = (omega arith, a.per.few) in
    let w = first-within a.per.records form a.log.now c.requires.log_value a.first a.n (omega arith) (omega arith) (omega arith) c.requires.n_bound in
    omega arith

pub copy_records-requires-2 : goal.copy_records-requires-2
copy_records-requires-2 c =
    let a = c.args in
    let form : Records a.per.records = (omega arith, a.per.few) in
    let w = rest-within a.per.records form a.log.now c.requires.log_value a.first a.n (omega arith) (omega arith) (omega arith) c.requires.n_bound in
    rw c.min-m.ensures (w, omega arith)

pub returns : goal.returns
returns c =
    let a = c.args in
    let form : Records a.per.records = (omega arith, a.per.few) in
    let l = c.min-m.ensures in
    rw (c.copy_records-2.ensures, c.copy_records.ensures, l)
    (gathered a.per.records form a.log.now c.requires.log_value a.first a.n (omega arith) (omega arith) (omega arith) c.requires.n_bound a.b.now (omega arith))

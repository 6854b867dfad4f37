-- `records_word` meets its contract: after i turns w is the word of the first i records.
use mathlib.Core.Path.{◌≡◌}
use native.Mathlib.Omega.{arith}
use Rattle.log_index.proofs.words.WordLaws.{fields-none, fields-next}
use Rattle.log_index.proofs.words.records_word.Goals as goal

pub loop-i-init : goal.loop-i-init
loop-i-init c = fields-none c.args.b.now

pub loop-i-preserved : goal.loop-i-preserved
loop-i-preserved c = rw (c.record_word-w.ensures, c.loop-i.invariant) (fields-next c.args.b.now c.loop-i.i)

pub returns : goal.returns
returns c =
    let e : c.loop-i.i ≡ c.args.n = omega arith in
    rw e at c.loop-i.invariant

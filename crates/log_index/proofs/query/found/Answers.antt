-- `found` meets its contract: n is the count of the words passed so far.
use mathlib.Core.Path.{◌≡◌, refl, sym}
use native.Mathlib.Omega.{arith}
use Rattle.num.specs.Marks.{count_up_to}
use Rattle.num.proofs.bits.CountLaws.{count_next, count-le, at-most-1}
use Rattle.spec_index.specs.Index.{index_words}
use Rattle.spec_index.specs.Query.{has_bit}
use Rattle.log_index.proofs.query.found.Goals as goal

pub loop-k-init : goal.loop-k-init
unfolding count_up_to
loop-k-init c = refl

pub overflow_add-n : goal.overflow_add-n
overflow_add-n c =
    let i = c.args.index.now in
    let f = has_bit i c.args.bank in
    record { fits = omega (arith, c.one_at-n.ensures, c.loop-k.invariant, count-le f c.loop-k.k, at-most-1 (f c.loop-k.k)) }

pub loop-k-preserved : goal.loop-k-preserved
loop-k-preserved c =
    let a = c.args in
    rw (c.one_at-n.ensures, c.loop-k.invariant) (sym (count_next (has_bit a.index.now a.bank) c.loop-k.k))

pub returns : goal.returns
returns c =
    let e : c.loop-k.k ≡ index_words c.args.index.now = omega arith in
    rw e at c.loop-k.invariant

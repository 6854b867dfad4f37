-- `num::bits::count` meets its contract: n is the number of marks of the words passed so far.
use mathlib.Core.Path.{◌≡◌, refl, sym}
use Prim.Native.Nat.{◌*◌, ◌^◌, ◌<◌}
use native.Mathlib.Omega.{arith}
use borrow.Author.Rules.{rules}
use lib.Count.{ones-le}
use lib.ListN.{get_or}
use Rattle.num.specs.Marks.{mark, count_up_to}
use Rattle.num.proofs.bits.CountLaws.{count_word_lem, count-le}
use Rattle.num.proofs.bits.count.Goals as goal

pub loop-k-init : goal.loop-k-init
unfolding count_up_to
loop-k-init c = refl

pub overflow_add-n : goal.overflow_add-n
overflow_add-n c =
    let ws = c.args.ws.now in
    let f : get_or ws c.loop-k.k 0 < 2 ^ 64 = search rules in
    record { fits = omega (arith, c.loop-k.invariant, count-le (mark ws) (64 * c.loop-k.k), ones-le 64 (get_or ws c.loop-k.k 0) f) }

pub loop-k-preserved : goal.loop-k-preserved
loop-k-preserved c =
    let ws = c.args.ws.now in
    let f : get_or ws c.loop-k.k 0 < 2 ^ 64 = search rules in
    rw c.loop-k.invariant (sym (count_word_lem ws c.loop-k.k f))

pub returns : goal.returns
returns c =
    let e : c.loop-k.k ≡ 16 = omega arith in
    let n = rw e at c.loop-k.invariant in
    (n, omega (arith, n, count-le (mark c.args.ws.now) 1024))

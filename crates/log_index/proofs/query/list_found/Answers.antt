-- `list_found` meets its contract: after k turns the blocks below k are listed.
use Prim.Native.Nat.{◌+◌}
use mathlib.Core.Path.{◌≡◌, refl, sym}
use native.Mathlib.Omega.{arith}
use Rattle.num.proofs.SpliceLaws.{splice-none}
use Rattle.num.specs.Marks.{count_up_to}
use Rattle.num.proofs.bits.CountLaws.{count_next}
use Rattle.spec_index.specs.Index.{index_words}
use Rattle.spec_index.specs.Query.{has_bit, numbers_where, queried}
use Rattle.spec_index.proofs.ListLaws.{count-mono}
use Rattle.log_index.proofs.query.QueryLaws.{listed-turn}
use Rattle.log_index.proofs.query.list_found.Goals as goal

pub loop-k-init : goal.loop-k-init
unfolding count_up_to numbers_where
loop-k-init c = (refl, splice-none c.args.out.now 0)

pub put_found-n-requires : goal.put_found-n-requires
put_found-n-requires c =
    let f = has_bit c.args.index.now c.args.bank in
    let k = c.loop-k.k in
    let m = count-mono f (index_words c.args.index.now) (k + 1) (omega arith) in
    let n = count_next f k in
    (c.requires.0, omega arith, omega (arith, c.requires.1, c.loop-k.invariant.0))

pub loop-k-preserved : goal.loop-k-preserved
loop-k-preserved c =
    let f = has_bit c.args.index.now c.args.bank in
    let k = c.loop-k.k in
    let m = count-mono f (index_words c.args.index.now) k (omega arith) in (
      rw (c.put_found-n.ensures.0, c.loop-k.invariant.0) (sym (count_next f k)),
      rw (c.put_found-n.ensures.1, c.loop-k.invariant.1, c.loop-k.invariant.0) (listed-turn f c.args.out.now k (omega (arith, c.requires.1))),
    )

pub returns : goal.returns
unfolding queried
returns c =
    let e : c.loop-k.k ≡ index_words c.args.index.now = omega arith in
    rw e at c.loop-k.invariant.1

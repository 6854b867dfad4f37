-- `write_index` meets its contract: after each turn the words of the first k blocks are there.
use Prim.Native.Nat.{◌*◌}
use mathlib.Core.Path.{◌≡◌}
use native.Mathlib.Omega.{arith}
use Rattle.log_block.specs.Block.{blocks_in}
use Rattle.spec_index.proofs.IndexLaws.{length-words}
use Rattle.log_index.specs.Form.Fields.{fields_word}
use Rattle.log_index.proofs.make.MakeLaws.{splice-kept, words-turn}
use Rattle.log_index.proofs.make.write_index.Goals as goal

pub loop-k-init : goal.loop-k-init
loop-k-init c = splice-kept c.args.index.now _ (4 * c.args.kept) (length-words fields_word c.args.log.now c.args.kept) c.requires.kept_value

pub put_word-requires : goal.put_word-requires
put_word-requires c =
    let p = c.requires.by_index in
    record {
      k_bound = (omega arith, p.0 c.loop-k.k (omega arith));
      k_in_bounds = omega (arith, p.2);
    }

pub loop-k-preserved : goal.loop-k-preserved
loop-k-preserved c =
    rw (c.put_word.ensures, c.loop-k.invariant)
    (words-turn fields_word c.args.log.now c.args.index.now c.loop-k.k (omega (arith, c.requires.by_index.2)))

pub returns : goal.returns
returns c =
    let e : c.loop-k.k ≡ blocks_in c.args.log.now = omega arith in
    rw e at c.loop-k.invariant

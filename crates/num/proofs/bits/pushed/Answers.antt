-- `num::bits::pushed` meets its contract: the words written so far are those of the marks d later, and low is the word of those that
-- stand q words later which comes before the next.
use mathlib.Core.Path.{◌≡◌, refl, sym, ◌∙◌}
use mathlib.Core.List.{[], ◌∷◌, ◌++◌}
use Prim.Native.Nat.{ℕ, ◌+◌, ◌*◌, ◌/◌, ◌%◌, ◌<◌}
use native.Mathlib.Omega.{arith}
use native.Mathlib.Numerals.{add-one}
use lib.ListN.{length, take, set, length-set}
use lib.Seq.{take-suc-set, take_all}
use mathlib.Core.Bool.{Bool}
use borrow.Author.Tests.{lt-ltb}
use Rattle.num.specs.Marks.{mark, later, word, words, pushed}
use Rattle.num.specs.Form.Across.{back}
use Rattle.num.proofs.bits.MarkLaws.{words-next}
use Rattle.num.proofs.bits.AcrossLaws.{across-back, back-next, mark-first}
use Rattle.num.proofs.bits.pushed.Goals as goal

pub loop-k-init : goal.loop-k-init
unfolding words back
loop-k-init c = (refl, rw (lt-ltb 0 (c.args.d / 64 + 1) (omega arith)), refl)

pub loop-k-preserved : goal.loop-k-preserved
loop-k-preserved c =
    let ws = c.args.ws.now in
    let d = c.args.d in
    let out = c.loop-k.out in
    let k = c.loop-k.k in
    let w = c.across.result in
    let h : k < length out = omega arith in
    let t : take (k + 1) (set out k w) ≡ take k out ++ (w ∷ []) = rw add-one (take-suc-set out k w h) in
    let e : 64 * (d / 64) + d % 64 ≡ d = omega arith in
    let l : w ≡ word (λ j. later (mark ws) d (64 * k + j)) 64 =
    c.across.ensures ∙ rw (c.loop-k.invariant.1, c.back-high.ensures) (rw e at (across-back ws (d / 64) (d % 64) k (omega arith))) in
    (length-set out k w ∙ c.loop-k.invariant.0, c.back-high.ensures ∙ sym (back-next ws (d / 64) k), t ∙ rw (c.loop-k.invariant.2, l) (sym (words-next (later (mark ws) d) k)))

pub returns : goal.returns
unfolding pushed
returns c =
    let f : ℕ → Bool = later (mark c.args.ws.now) c.args.d in
    let out = c.loop-k.out in
    let e : c.loop-k.k ≡ 16 = omega arith in
    let t : out ≡ words f 16 = sym (take_all 16 out (omega arith)) ∙ rw e at c.loop-k.invariant.2 in
    rw t (mark-first f)

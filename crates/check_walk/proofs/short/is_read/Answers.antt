-- `check_walk::short::is_read` meets its contract: what passes is an RD.
use Prim.Native.Nat.{◌+◌}
use mathlib.Core.Path.{refl, sym, ◌∙◌}
use native.Mathlib.Omega.{arith}
use Rattle.spec_rules.proofs.Bools.{not-both}
use Rattle.check_walk.proofs.ShortLaws.{read_found}
use Rattle.check_walk.proofs.short.is_read.Goals as goal

pub returns-then-f-ne1 : goal.returns-then-f-ne1
returns-then-f-ne1 c = λ p. not-both _ p refl

pub returns-then-not-read_word : goal.returns-then-not-read_word
returns-then-not-read_word c = λ p. not-both _ p refl

pub returns : goal.returns
returns c =
    let a = c.args in
    λ p. read_found a.s a.b.now a.at c.requires.0 (omega (arith, c.shared_slice_known-1.given (a.at + 4))) a.f c.requires.1 c.if-f-ne1.false
    (c.read_word.ensures (c.if-not-read_word.false)) (sym c.no_data.ensures ∙ p)

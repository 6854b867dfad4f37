-- `check_walk::short::read_word` meets its contract: what passes is the word of an RD.
use mathlib.Core.Path.{refl}
use Rattle.spec_rules.proofs.Bools.{not-both}
use Rattle.check_walk.proofs.ShortLaws.{read-says}
use Rattle.check_walk.proofs.short.read_word.Goals as goal

pub returns-then-s-ge32 : goal.returns-then-s-ge32
returns-then-s-ge32 c = λ p. not-both _ p refl

pub returns : goal.returns
returns c =
    let a = c.args in
    read-says a.s a.word c.from-device.result c.from.result c.if-s-ge32.false c.from-device.ensures c.from.ensures

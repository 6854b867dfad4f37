-- `model_store::refresh::refr_after` meets its contract: below rows the remainder is the number itself, at rows it is 0.
use mathlib.Core.Path.{sym}
use native.Mathlib.Nat.{mod-eq_of_lt, mod_self}
use native.Mathlib.Omega.{arith}
use borrow.Author.Tests.{eq-eqb, ne_eqb}
use Rattle.spec_rules.specs.Neighbour.{context_of}
use Rattle.spec_model.specs.Model.{refr_by}
use Rattle.model_store.proofs.refresh.refr_after.Goals as goal

pub returns-then-bank-ne31 : goal.returns-then-bank-ne31
unfolding refr_by context_of
returns-then-bank-ne31 c = rw (ne_eqb _ 31 c.if-bank-ne31.true)

pub returns-then-up-s : goal.returns-then-up-s
unfolding refr_by context_of
returns-then-up-s c =
    let a = c.args in
    rw (eq-eqb a.bank 31 c.if-bank-ne31.false, c.if-up-s.true) (sym (mod_self a.s.rows))

pub returns-else-up-s : goal.returns-else-up-s
unfolding refr_by context_of
returns-else-up-s c =
    let a = c.args in
    rw (eq-eqb a.bank 31 c.if-bank-ne31.false) (sym (mod-eq_of_lt (omega (arith, c.if-up-s.false))))

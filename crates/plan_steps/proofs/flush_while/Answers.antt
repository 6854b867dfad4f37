-- `plan_steps::flush_while` meets its contract.
use native.Mathlib.Omega.{arith}
use mathlib.Core.Path.{refl, sym, ◌∙◌}
use Rattle.std.proofs.lemmas.Fn.{says_at}
use Rattle.plan_bytes.specs.Form.Drawn.{drafted}
use Rattle.plan_bytes.proofs.Again.{rested-more}
use Rattle.plan_steps.proofs.Stepwise.{passes, none-drawn, first-waits, first_plain, first-ready, first_fits, again-after, again-open, again-fits, both-drawn}
use Rattle.plan_steps.proofs.flush_while.Goals as goal

pub nocop-next-requires : goal.nocop-next-requires
nocop-next-requires g c =
    let asks = c.requires.fits.0 in
    let t = c.requires.fits.1 in
    let fits = c.requires.fits.2 in
    let e = sym (t.told _ _ (rested-more _ _ 1000012000 _ (omega arith) c.requires.rested) (λ x l o. o) (says_at g.F.Fn c.test.ensures refl)) ∙ c.if-test.true in
    record {
      ready = first-ready _ _ _ c.requires.rested (omega arith) asks t.quiet c.args.room.now c.args.to fits e;
      b_value = first-waits _ _ _ c.requires.rested (omega arith) asks t.quiet c.args.room.now c.args.to fits e;
      closes = first_plain _ _ _ c.requires.rested (omega arith) asks t.quiet c.args.room.now c.args.to fits e;
      to_in_bounds = first_fits _ _ _ c.requires.rested (omega arith) asks t.quiet c.args.room.now c.args.to fits e;
    }

pub flush_if-requires : goal.flush_if-requires
flush_if-requires g c =
    let asks = c.requires.fits.0 in
    let t = c.requires.fits.1 in
    let fits = c.requires.fits.2 in
    let e = sym (t.told _ _ (rested-more _ _ 1000012000 _ (omega arith) c.requires.rested) (λ x l o. o) (says_at g.F.Fn c.test.ensures refl)) ∙ c.if-test.true in
    let w = c.nocop-next.ensures in
    let a = again-after _ _ _ c.requires.rested (omega arith) asks t.quiet c.args.room.now c.args.to fits e _ _ _ w in
    let f = t.told _ _ a.ready (again-open _ _ _ c.requires.rested (omega arith) asks t.quiet c.args.room.now c.args.to fits e _ _ _ w) (says_at g.F.Fn c.test-again.ensures refl) in
    record {
      rested = a.ready;
      b_value = passes _ _ _ c.requires.rested (omega arith) asks t.quiet (drafted _) _ f;
      fits = again-fits _ _ _ c.requires.rested (omega arith) asks t.quiet c.args.room.now c.args.to fits e _ _ _ w _ f;
    }

pub returns-then-test : goal.returns-then-test
returns-then-test g c asks t fits =
    let e = sym (t.told _ _ (rested-more _ _ 1000012000 _ (omega arith) c.requires.rested) (λ x l o. o) (says_at g.F.Fn c.test.ensures refl)) ∙ c.if-test.true in
    let w = c.nocop-next.ensures in
    let a = again-after _ _ _ c.requires.rested (omega arith) asks t.quiet c.args.room.now c.args.to fits e _ _ _ w in
    let f = t.told _ _ a.ready (again-open _ _ _ c.requires.rested (omega arith) asks t.quiet c.args.room.now c.args.to fits e _ _ _ w) (says_at g.F.Fn c.test-again.ensures refl) in
    both-drawn _ _ _ c.requires.rested (omega arith) asks t.quiet c.args.room.now c.args.to fits e _ _ _ w _ f _ _ _ c.flush_if.ensures

pub returns : goal.returns
returns g c asks t fits =
    let e = sym (t.told _ _ (rested-more _ _ 1000012000 _ (omega arith) c.requires.rested) (λ x l o. o) (says_at g.F.Fn c.test.ensures refl)) ∙ c.if-test.false in
    none-drawn _ _ _ c.requires.rested (omega arith) asks t.quiet c.args.room.now c.args.to fits e

-- `plan_steps::flush_losing` meets its contract.
use mathlib.Core.Path.{◌≡◌, refl, ◌∙◌}
use lib.Dec.{eqb}
use borrow.Author.Rules.{rules}
use Rattle.spec_rules.specs.Neighbour.{context_of, near}
use Rattle.spec_rules.specs.History.{any_write}
use Rattle.spec_plan.specs.Plan.{waiting}
use Rattle.plan_bytes.specs.Form.Drawn.{drafted}
use Rattle.plan_steps.proofs.Lost.{lost-is}
use Rattle.plan_steps.proofs.flush_losing.Goals as goal

pub flush_while-requires-clause-fits : goal.flush_while-requires-clause-fits
flush_while-requires-clause-fits c = (
  any_write (λ w. near (context_of c.args.s) c.args.bank w.bank),
  record {
    told = λ y r k keep w.
        let held : r ≡ any_write (λ v. eqb v.bank c.args.bank) (waiting (drafted y)) = search rules in
        held ∙ lost-is _ _ _ k _ c.requires.bank_bound (keep _ c.requires.bank_bound c.requires.open_at);
    quiet = refl;
  },
  c.requires.fits,
)

pub returns : goal.returns
returns c =
    c.flush_while.ensures (any_write (λ w. near (context_of c.args.s) c.args.bank w.bank))
    (record {
      told = λ y r k keep w.
          let held : r ≡ any_write (λ v. eqb v.bank c.args.bank) (waiting (drafted y)) = search rules in
          held ∙ lost-is _ _ _ k _ c.requires.bank_bound (keep _ c.requires.bank_bound c.requires.open_at);
      quiet = refl;
    })
    c.requires.fits

-- `chan_view::neighbours::is_near` meets its contract: the tests are those of the definition.
use Rattle.spec_rules.specs.Neighbour.{in_runs, context_of}
use Rattle.chan_view.proofs.neighbours.is_near.Goals as goal

pub returns : goal.returns
unfolding context_of in_runs
returns c =
    rw (
      c.in_run.ensures,
      c.from-4.ensures,
      c.from-3.ensures,
      c.from-2.ensures,
      c.from.ensures,
    )

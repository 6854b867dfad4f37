-- `check_walk::short::reads_now` meets its contract: the tests.
use Rattle.check_walk.proofs.short.reads_now.Goals as goal

pub returns : goal.returns
returns c =
    rw (
      c.reads_beside.ensures,
      c.is_after-2.ensures,
      c.is_open.ensures,
      c.is_after.ensures,
      c.from-2.ensures,
      c.from.ensures,
    )

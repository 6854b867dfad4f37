-- `chan_least::quick::writes_well` meets its contract: data in time, and late.
use Rattle.chan_least.specs.Form.Quick.{writes_well}
use Rattle.chan_least.proofs.QuickLaws.{comes, is-late}
use Rattle.chan_least.proofs.quick.writes_well.Goals as goal

pub returns-in-Some : goal.returns-in-Some
unfolding writes_well
returns-in-Some c =
    let a = c.args in
    rw (c.from.ensures, c.write_bound.ensures, c.is_open.ensures, comes a.at a.s.cwd _ c.write_arrival.ensures.value _ c.in-Some.is)

pub returns-in-None : goal.returns-in-None
unfolding writes_well
returns-in-None c =
    let a = c.args in
    rw (is-late a.at a.s.cwd _ c.write_arrival.ensures.value c.in-None.is)

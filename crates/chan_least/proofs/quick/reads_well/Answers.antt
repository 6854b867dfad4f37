-- `chan_least::quick::reads_well` meets its contract: data in time, and late.
use Rattle.chan_least.specs.Form.Quick.{reads_well}
use Rattle.chan_least.proofs.QuickLaws.{comes, is-late}
use Rattle.chan_least.proofs.quick.reads_well.Goals as goal

pub returns-in-Some : goal.returns-in-Some
unfolding reads_well
returns-in-Some c =
    let a = c.args in
    rw (c.from.ensures, c.read_bound.ensures, c.is_open.ensures, comes a.at a.s.cac _ c.read_arrival.ensures.value _ c.in-Some.is)

pub returns-in-None : goal.returns-in-None
unfolding reads_well
returns-in-None c =
    let a = c.args in
    rw (is-late a.at a.s.cac _ c.read_arrival.ensures.value c.in-None.is)

-- `opens_at` meets its contract: the record that is read is record i of the list.
use mathlib.Core.Path.{sym, ◌∙◌}
use Rattle.spec_rules.specs.Packets.{traits}
use Rattle.spec_check.specs.Check.{known}
use Rattle.check_list.proofs.shortest.RunLaws.{record-known}
use Rattle.check_list.proofs.shortest.starts.opens_at.Goals as goal

pub returns-in-None : goal.returns-in-None
unfolding traits known
returns-in-None c =
    let a = c.args in
    rw (record-known a.s a.list.now a.i c.requires, sym c.read_record-read.ensures ∙ c.in-None.is)

pub returns-in-Some : goal.returns-in-Some
unfolding known
returns-in-Some c = rw (record-known c.args.s c.args.list.now c.args.i c.requires, sym c.read_record-read.ensures ∙ c.in-Some.is) c.opens.ensures

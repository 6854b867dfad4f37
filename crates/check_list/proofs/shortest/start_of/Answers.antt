-- `start_of` meets its contract: each arm is a case of the definition, and what the search requires follows from the verdict.
use mathlib.Core.Path.{sym, ◌∙◌}
use Rattle.spec_rules.specs.Neighbour.{context_of}
use Rattle.spec_check.specs.Check.{records_of}
use Rattle.spec_check.specs.Shortest.{start_of}
use Rattle.check_list.proofs.shortest.VerdictLaws.{named-within, named-formed, start-ruled, start-other}
use Rattle.check_list.proofs.shortest.start_of.Goals as goal

pub latest_start-requires : goal.latest_start-requires
unfolding context_of
latest_start-requires c =
    let a = c.args in
    let v = rw c.in-Rule.is at (sym c.requires ∙ c.in-Err.is) in
    record {
      j_bound = named-within (context_of a.s) a.list.now _ _ v;
      list_value = named-formed (context_of a.s) a.list.now _ _ v;
    }

pub returns-in-Rule : goal.returns-in-Rule
returns-in-Rule c =
    let a = c.args in
    rw (c.in-Err.is, c.in-Rule.is) (c.latest_start.ensures ∙ start-ruled (context_of a.s) (records_of a.s a.list.now) c.in-Rule.rule c.in-Rule.place)

pub returns-in-Ok : goal.returns-in-Ok
unfolding start_of
returns-in-Ok c = rw c.in-Ok.is

pub returns-in_default : goal.returns-in_default
returns-in_default c = rw c.in-Err.is (start-other (context_of c.args.s) (records_of c.args.s c.args.list.now) c.in-Err.why c.in_default.not-Rule)

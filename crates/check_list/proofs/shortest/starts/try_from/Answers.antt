-- `try_from` meets its contract: the walk over the part of the list is that over the run.
use native.Mathlib.Omega.{arith}
use Rattle.spec_rules.specs.Neighbour.{context_of}
use Rattle.spec_rules.proofs.NeighbourLaws.{core-neighbours}
use Rattle.check_list.proofs.shortest.RunLaws.{run-within, records-formed, tried-right}
use Rattle.check_list.proofs.shortest.starts.try_from.Goals as goal

pub walk-stop-requires : goal.walk-stop-requires
walk-stop-requires c =
    let a = c.args in
    record {
      n_bound = (omega arith, omega arith, λ h. omega arith);
      by_index = λ x m. run-within a.s a.list.now a.i a.j c.requires.i_le_j.0 c.requires.i_le_j.1 x (omega arith);
    }

pub returns : goal.returns
unfolding context_of
returns c =
    let a = c.args in
    rw c.walk-stop.ensures
    (tried-right (context_of a.s) (core-neighbours a.s) a.list.now a.i a.j c.requires.i_le_j.0 c.requires.i_le_j.1 (records-formed a.s a.list.now c.requires.list_value) a.rule)

-- `latest_start` meets its contract. The loop's invariant: no start after i has the property; and where the flag says so, the run after i
-- is refused before record j.
use Rattle.spec_rules.specs.Neighbour.{context_of}
use Rattle.spec_check.specs.Check.{records_of}
use Rattle.spec_check.specs.Shortest.{shortest_start}
use Rattle.check_list.proofs.shortest.StartLaws.{Searched}
use Rattle.check_list.proofs.shortest.starts.latest_start.Given as goal

abbrev pub invariant-loop-i : goal.invariant-loop-i
invariant-loop-i l = Searched (context_of l.s) (records_of l.s l.list) l.rule l.j (shortest_start (context_of l.s) (records_of l.s l.list) l.rule l.j) l.i l.early

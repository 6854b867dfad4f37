-- `check_shortest` meets its contract: the verdict and its start are the definition's two parts.
use Rattle.spec_rules.specs.Neighbour.{context_of}
use Rattle.spec_check.specs.Shortest.{shortest_answer}
use Rattle.check_list.proofs.shortest.check_shortest.Goals as goal

pub returns : goal.returns
unfolding shortest_answer context_of
returns c = rw (c.start_of-start.ensures, c.check_list-judged.ensures)

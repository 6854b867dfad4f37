-- `row_opens` meets its contract: by the command.
use Rattle.spec_rules.specs.Packets.{row_traits}
use borrow.Author.Rules.{rules}
use Rattle.check_list.proofs.shortest.starts.row_opens.Goals as goal

pub returns-in-Act : goal.returns-in-Act
unfolding row_traits
returns-in-Act c = search rules

pub returns-in-Prer : goal.returns-in-Prer
unfolding row_traits
returns-in-Prer c = search rules

pub returns-in-Refa : goal.returns-in-Refa
unfolding row_traits
returns-in-Refa c = search rules

pub returns-in-Refp : goal.returns-in-Refp
unfolding row_traits
returns-in-Refp c = search rules

-- `opens` meets its contract: COL packets and data open no bank.
use mathlib.Core.Path.{sym}
use Rattle.spec_rules.specs.Packets.{traits}
use Rattle.check_list.proofs.shortest.RunLaws.{col-opens}
use borrow.Author.Rules.{rules}
use Rattle.check_list.proofs.shortest.starts.opens.Goals as goal

pub returns-in-RowAt : goal.returns-in-RowAt
unfolding traits
returns-in-RowAt c = rw c.in-RowAt.is c.row_opens.ensures

pub returns-in-ColAt : goal.returns-in-ColAt
returns-in-ColAt c = rw c.in-ColAt.is (sym (col-opens _ _))

pub returns-in-DataOf : goal.returns-in-DataOf
unfolding traits
returns-in-DataOf c = search rules

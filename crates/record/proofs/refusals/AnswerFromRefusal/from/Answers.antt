-- A refusal in numbers meets its contract: each arm is a case of the definition.
use Rattle.record.specs.Refusal.{answer_of}
use Rattle.record.proofs.refusals.AnswerFromRefusal.from.Goals as goal

pub returns-in-Settings : goal.returns-in-Settings
unfolding answer_of
returns-in-Settings c = rw c.in-Settings.is c.numbers.ensures

pub returns-in-Kind : goal.returns-in-Kind
unfolding answer_of
returns-in-Kind c = rw c.in-Kind.is c.numbers-in-Kind.ensures

pub returns-in-Spare : goal.returns-in-Spare
unfolding answer_of
returns-in-Spare c = rw c.in-Spare.is c.numbers-in-Spare.ensures

pub returns-in-Bank : goal.returns-in-Bank
unfolding answer_of
returns-in-Bank c = rw c.in-Bank.is c.numbers-in-Bank.ensures

pub returns-in-Row : goal.returns-in-Row
unfolding answer_of
returns-in-Row c = rw c.in-Row.is c.numbers-in-Row.ensures

pub returns-in-Column : goal.returns-in-Column
unfolding answer_of
returns-in-Column c = rw c.in-Column.is c.numbers-in-Column.ensures

pub returns-in-Horizon : goal.returns-in-Horizon
unfolding answer_of
returns-in-Horizon c = rw c.in-Horizon.is c.numbers-in-Horizon.ensures

pub returns-in-Full : goal.returns-in-Full
unfolding answer_of
returns-in-Full c = rw c.in-Full.is c.numbers-in-Full.ensures

pub returns-in-Store : goal.returns-in-Store
unfolding answer_of
returns-in-Store c = rw c.in-Store.is c.numbers-in-Store.ensures

pub returns-in-Word : goal.returns-in-Word
unfolding answer_of
returns-in-Word c = rw c.in-Word.is c.numbers-in-Word.ensures

pub returns-in-Rule : goal.returns-in-Rule
unfolding answer_of
returns-in-Rule c = rw c.in-Rule.is c.numbers-in-Rule.ensures

pub returns-in-Block : goal.returns-in-Block
unfolding answer_of
returns-in-Block c = rw c.in-Block.is c.numbers-in-Block.ensures

pub returns-in-Length : goal.returns-in-Length
unfolding answer_of
returns-in-Length c = rw c.in-Length.is c.numbers-in-Length.ensures

pub returns-in-Unretired : goal.returns-in-Unretired
unfolding answer_of
returns-in-Unretired c = rw c.in-Unretired.is c.numbers-in-Unretired.ensures

pub returns-in-Stamp : goal.returns-in-Stamp
unfolding answer_of
returns-in-Stamp c = rw c.in-Stamp.is c.numbers-in-Stamp.ensures

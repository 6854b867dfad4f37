-- `Settings::valid` meets its contract: the tests are the definition's, in another order.
use Rattle.settings.proofs.NumberLaws.{valid-numbers}
use Rattle.settings.proofs.Settings.valid.Goals as goal

pub returns : goal.returns
returns c = rw (c.rest_right.ensures, c.figures_right.ensures, c.figures.ensures) (valid-numbers c.args.self)

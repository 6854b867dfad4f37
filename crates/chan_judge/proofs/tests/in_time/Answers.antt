-- `chan_judge::tests::in_time` meets its contract: by whether there is an arrival.
use Rattle.std.specs.Prelude.{None, Option, Some}
use Rattle.std.specs.Option.{is_some}
use mathlib.Core.Path.{◌≡◌, refl, ◌∙◌}
use Rattle.settings.specs.declared.DataAt.{DataAt}
use Rattle.chan_judge.specs.Form.Tests.{in_time}
use Rattle.chan_judge.proofs.tests.in_time.Goals as goal

arrives : (a : Option DataAt) → is_some a ≡ in_time a
unfolding in_time
arrives None = refl
arrives (Some t) = refl

pub returns : goal.returns
returns c = c.is_some.ensures ∙ arrives c.args.a

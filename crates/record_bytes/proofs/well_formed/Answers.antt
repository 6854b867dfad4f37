-- `well_formed` meets its contract.
use Rattle.std.specs.Prelude.{◌≡◌, None, Some, Option, is_some}
use Rattle.std.proofs.Common.{refl, ap, ◌∙◌}
use Rattle.record.specs.declared.Record.{Record}
use Rattle.record.specs.Record.{well_formed, is_known}
use Rattle.record_bytes.proofs.well_formed.Goals as goal

same : (r : Option Record) → is_some r ≡ is_known r
unfolding is_known
same None = refl
same (Some x) = refl

pub returns : goal.returns
unfolding well_formed
returns c = c.is_some.ensures ∙ same c.read_record.result ∙ ap is_known c.read_record.ensures

-- `in_place` meets its contract.
use Rattle.std.proofs.Common.{ltb-true}
use Rattle.settings.proofs.SettingsLaws.{both_true}
use Rattle.record_bytes.proofs.requests.in_place.Goals as goal

pub returns : goal.returns
returns c =
    λ e.
    let x = both_true e in
    let y = both_true x.0 in
    (ltb-true _ _ y.0, ltb-true _ _ y.1, ltb-true _ _ x.1)

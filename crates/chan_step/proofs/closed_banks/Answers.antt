-- `chan_step::closed_banks` meets its contract: the bank that is named, then those beside it.
use mathlib.Core.Path.{◌≡◌, ap}
use mathlib.Core.List.{List}
use Rattle.spec_rules.specs.declared.BankTrack.{BankTrack}
use Rattle.chan_view.specs.Form.Beside.{low_of, high_of}
use Rattle.chan_step.specs.Form.Banks.{prer_track, side_track, changed}
use Rattle.chan_step.proofs.closed_banks.Goals as goal

pub returns : goal.returns
unfolding changed
returns c =
    let own-closed : let a = c.args in c.put_bank-own.result ≡ changed (prer_track a.at) a.b a.banks = rw (c.put_bank-own.ensures, c.closed_track.ensures, c.bank_at.ensures) in
    let a = c.args in
    rw (c.side_banks-2.ensures, c.side_banks.ensures, c.low_of.ensures, c.high_of.ensures)
    (ap (λ (l : List BankTrack). changed (side_track a.at) (high_of a.s a.b) (changed (side_track a.at) (low_of a.s a.b) l)) (own-closed))

-- Which states of the channel a planner or a model may be in (document 01, "What is turned back"): "A planner or model state with
-- a field out of its range is refused under 1. So is one in which two neighbours are both not closed, or the bank of a waiting
-- write is not open by ACT".
-- Assumes nothing.
use Rattle.std.specs.Prelude.{ℕ, Bool, true, false, not, ◌&&◌, ◌||◌, eqb, ltb, length}
use Rattle.num.specs.Search.{all_up_to}
use Rattle.settings.specs.Instants.{is_instant}
use Rattle.spec_rules.specs.declared.Bank.{Bank}
use Rattle.spec_rules.specs.declared.Bank.TheVariants.{Closed, Open, Refresh}
use Rattle.spec_rules.specs.declared.BankTrack.{BankTrack}
use Rattle.spec_rules.specs.declared.Write.{Write}
use Rattle.spec_rules.specs.declared.Channel.{Channel}
use Rattle.spec_rules.specs.Neighbour.{bank_count, Context}
use Rattle.spec_rules.specs.History.{is_closed, is_open, any_write, all_writes}
use Rattle.spec_rules.specs.Channel.{track_of, state_of, waiting_of}

-- ---- ranges

-- a last instant: 0 where there was none
abbrev pub is_stamp : ℕ → Bool
is_stamp t = eqb t 0 || is_instant t

-- an open row is below rows
unfoldable pub bank_valid : Context → Bank → Bool
bank_valid cx Closed = true
bank_valid cx (Open r) = ltb r cx.settings.rows
bank_valid cx Refresh = true

unfoldable pub track_valid : Context → BankTrack → Bool
track_valid cx k =
    bank_valid cx k.bank
    && (is_stamp k.opened.0 && (is_stamp k.act.0 && (is_stamp k.pre.0 && (is_stamp k.rd.0 && is_stamp k.retire.0))))

-- a waiting write has a bank, a column and the instant of its WR
unfoldable pub write_valid : Context → Write → Bool
write_valid cx w = ltb w.bank bank_count && (ltb w.column cx.settings.columns && is_instant w.at.0)

unfoldable pub lasts_valid : Channel → Bool
lasts_valid ch =
    is_stamp ch.lasts.packet.0 && (is_stamp ch.lasts.row.0 && (is_stamp ch.lasts.col.0 && (is_stamp ch.lasts.pre.0 && (is_stamp ch.lasts.rd.0 && is_stamp ch.lasts.implied.0))))

-- ---- what the fields are to each other

-- of two neighbours one is closed
unfoldable pub apart : Context → (ℕ → Bank) → Bool
apart cx state = all_up_to (λ x. all_up_to (λ y. not (cx.nbr x y) || (is_closed (state x) || is_closed (state y))) bank_count) bank_count

-- a state of the channel that is not refused; data are due only of a write that waits
unfoldable pub channel_valid : Context → Channel → Bool
channel_valid cx ch =
    (eqb (length ch.banks) bank_count && (all_up_to (λ x. track_valid cx (track_of ch x)) bank_count && (lasts_valid ch && all_writes (write_valid cx) (waiting_of ch.buffer))))
    && (apart cx (state_of ch) && (all_writes (λ w. is_open (state_of ch w.bank)) (waiting_of ch.buffer) && (not ch.due || any_write (λ w. true) (waiting_of ch.buffer))))

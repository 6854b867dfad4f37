-- The least instant that the rules allow a packet in a state (document 01, "Planner"): "Each ROW or COL packet takes the least
-- instant, not before now, that the rules allow."
-- Assumes nothing.
use Rattle.std.specs.Prelude.{ℕ, ◌+◌, ◌-◌, max, Bool, not, ◌&&◌, ◌||◌, cond, List, [], ◌∷◌, leb, Option, None, Some}
use Rattle.settings.specs.Instants.{horizon}
use Rattle.packet.specs.declared.ColPacket.{ColPacket}
use Rattle.packet.specs.declared.ColPacket.TheVariants.{Nocop, Wr, Rd}
use Rattle.record.specs.declared.Record.{Record}
use Rattle.record.specs.declared.Record.TheVariants.{RowAt, ColAt, DataOf}
use Rattle.spec_rules.specs.declared.Bank.{Bank}
use Rattle.spec_rules.specs.declared.Write.{Write}
use Rattle.spec_rules.specs.declared.Channel.{Channel}
use Rattle.spec_rules.specs.Neighbour.{Context}
use Rattle.spec_rules.specs.Packets.{traits, retire_traits, implied_traits}
use Rattle.spec_rules.specs.History.{rest, any_write, retire_implies, closed_by, has}
use Rattle.spec_rules.specs.Rules.{free_for, open_for, implied_delay, stays, loses_none, data_in_place}
use Rattle.spec_rules.specs.Channel.{state_of, waiting_of, due_of}
use Rattle.spec_rules.specs.Checks.{bound_of, bounds}

-- a record at another instant
unfoldable pub placed_at : ℕ → Record → Record
placed_at t (RowAt u p) = RowAt (record { 0 = t }) p
placed_at t (ColAt u p) = ColAt (record { 0 = t }) p
placed_at t (DataOf u d) = DataOf (record { 0 = t }) d

-- a COL packet under another mask
abbrev pub col_under : ℕ → ColPacket → ColPacket
col_under m (Nocop n) = Nocop m
col_under m (Wr b c n x) = Wr b c m x
col_under m (Rd b c n x) = Rd b c m x

unfoldable pub under : ℕ → Record → Record
under m (RowAt t p) = RowAt t p
under m (ColAt t p) = ColAt t (col_under m p)
under m (DataOf t d) = DataOf t d

module _ (cx : Context) (ch : Channel) where
  module _ (r : Record) where
    -- the tests that neither the instant of a packet nor a retire alters: rules 4, 9, 14 and 15
    unfoldable pub fits : Bool
    fits =
        free_for cx (state_of ch) (traits r).opens
        && ((open_for (state_of ch) (traits r).reads && open_for (state_of ch) (traits r).writes)
        && (loses_none cx (state_of ch) (traits r).precharges (waiting_of ch.buffer)
        && (loses_none cx (state_of ch) (traits r).implies (waiting_of ch.buffer) && data_in_place (due_of cx ch) r)))

    -- what the table asks of an implied PRER to this bank, where there is one
    abbrev pub bound_implied : Option ℕ → ℕ
    bound_implied o = bound_of o (λ b. bounds cx ch (implied_traits b))

    -- what the table asks of a packet and, tOFFP later, of the PRER that it implies; and 4
    unfoldable pub earliest : ℕ
    earliest = max 4 (max (bounds cx ch (traits r)) (bound_implied (traits r).implies - cx.settings.offp))

    -- rule 17 where these writes are left waiting
    abbrev pub still_left : List Write → Bool
    still_left ws = not (any_write (λ w. w.close) ws) || not ((traits r).row || has (traits r).writes)

    -- rules 12 and 17 of a packet that leaves the waiting writes
    abbrev pub may_stay : List Write → Bool
    may_stay ws = stays ws (traits r) && still_left ws

    -- the states once this write has left
    abbrev pub state_left : Option Write → ℕ → Bank
    state_left o x = closed_by cx (retire_implies o) x (state_of ch x)

    -- rules 9, 14 and 17 of a retire of the older write
    abbrev pub retire_fits : Write → List Write → Bool
    retire_fits w ws =
        open_for (state_of ch) (Some w.bank)
        && ((open_for (state_left (Some w)) (traits r).reads && open_for (state_left (Some w)) (traits r).writes)
        && (loses_none cx (state_of ch) (retire_implies (Some w)) ws && still_left ws))

    -- what the table asks of a retire and, tOFFP later, of the PRER that it implies
    abbrev pub retire_least : Write → ℕ
    retire_least w = max (bounds cx ch (retire_traits w.bank)) (bound_implied (retire_implies (Some w)) - cx.settings.offp)

    -- the least instant of a retire of this write: rule 12 and the table
    abbrev pub retire_bound : Write → ℕ
    retire_bound w = max (w.at.0 + cx.settings.rtr) (retire_least w)

    -- rules 9, 10, 12, 14, 16 and 17 by what leaves: a packet retires the older write, or may leave the waiting ones and then has M = 0
    abbrev pub leaves_right : List Write → Option Write → ℕ → Bool
    leaves_right ws None t = may_stay ws && not (traits r).masked
    leaves_right ws (Some w) t = retire_fits w (rest ws) && (leb (retire_least w) t && leb (t + implied_delay cx (Some w)) horizon)

    -- from instant t on, the least at which the packet may leave the waiting writes or may retire the older one
    abbrev pub slot_from : ℕ → List Write → ℕ
    slot_from t [] = t
    slot_from t (w ∷ ws) = cond ((traits r).not_read && (not (may_stay (w ∷ ws)) || leb (w.at.0 + cx.settings.rtr) t)) (max t (retire_bound w)) t

    -- the least instant from now on: of the packet itself, and of the retire that it makes
    abbrev pub soonest : ℕ → ℕ
    soonest now = max now earliest

    unfoldable pub least_from : ℕ → ℕ
    least_from now = slot_from (soonest now) (waiting_of ch.buffer)

-- What earlier records did, read off the list. Lists of earlier records have the newest first.
-- Assumes nothing.
use Rattle.std.specs.Prelude.{ℕ, ◌+◌, Bool, true, false, not, ◌&&◌, ◌||◌, cond, List, [], ◌∷◌, eqb, leb, Option, None, Some}
use Rattle.packet.specs.declared.RowPacket.{RowPacket}
use Rattle.packet.specs.declared.RowPacket.TheVariants.{Act, Prer, Refa, Refp}
use Rattle.packet.specs.declared.ColPacket.{ColPacket}
use Rattle.packet.specs.declared.ColPacket.TheVariants.{Nocop, Wr, Rd}
use Rattle.record.specs.declared.Record.{Record}
use Rattle.record.specs.declared.Record.TheVariants.{RowAt, ColAt, DataOf}
use Rattle.spec_rules.specs.declared.Bank.{Bank}
use Rattle.spec_rules.specs.declared.Bank.TheVariants.{Closed, Open, Refresh}
use Rattle.spec_rules.specs.declared.Write.{Write}
use Rattle.spec_rules.specs.Neighbour.{Context, near}
use Rattle.spec_rules.specs.Packets.{Traits, traits, retire_traits, implied_traits, instant}

-- ---- banks

-- "PRER to a bank closes that bank and any neighbour that is open or under refresh. REFA acts as ACT but opens nothing to
-- columns; REFP acts as PRER."
unfoldable pub bank_by : Context → RowPacket → ℕ → Bank → Bank
bank_by cx (Act b r) x before = cond (eqb x b) (Open r) before
bank_by cx (Prer b) x before = cond (near cx b x) Closed before
bank_by cx (Refa b) x before = cond (eqb x b) Refresh before
bank_by cx (Refp b) x before = cond (near cx b x) Closed before

-- bank x where a PRER to this bank is implied
abbrev pub closed_by : Context → Option ℕ → ℕ → Bank → Bank
closed_by cx None x before = before
closed_by cx (Some b) x before = cond (near cx b x) Closed before

unfoldable pub is_closed : Bank → Bool
is_closed Closed = true
is_closed (Open r) = false
is_closed Refresh = false

-- open by ACT
unfoldable pub is_open : Bank → Bool
is_open Closed = false
is_open (Open r) = true
is_open Refresh = false

-- ---- the write buffer

-- "Two may wait, in order": the writes that wait are a list of at most two, oldest first
abbrev pub first : List Write → Option Write
first [] = None
first (w ∷ ws) = Some w

abbrev pub rest : List Write → List Write
rest [] = []
rest (w ∷ ws) = ws

abbrev pub only_write : Bool → Option Write → Option Write
only_write true o = o
only_write false o = None

-- whether tRTR has passed since the WR of a write, where there is one
abbrev pub passed : Context → Option Write → ℕ → Bool
passed cx None t = false
passed cx (Some w) t = leb (w.at.0 + cx.settings.rtr) t

-- "A COL packet other than RD retires the older write if tRTR has passed since its WR": the write that a record retires, where
-- these wait
unfoldable pub leaving : Context → List Write → Record → Option Write
leaving cx ws r = only_write ((traits r).not_read && passed cx (first ws) (instant r)) (first ws)

-- the writes that a record leaves
abbrev pub left : Option Write → List Write → List Write
left None ws = ws
left (Some w) ws = rest ws

-- "WR loads it."
abbrev pub col_loads : ℕ → ColPacket → Option Write
col_loads t (Nocop m) = None
col_loads t (Wr b c m x) = Some (record { bank = b; column = c; at = record { 0 = t }; close = x })
col_loads t (Rd b c m x) = None

unfoldable pub loads : Record → Option Write
loads (RowAt t p) = None
loads (ColAt t p) = col_loads t.0 p
loads (DataOf t d) = None

-- a write behind the oldest that waits: where two wait, rule 12 has no WR that retires none
abbrev pub queued : List Write → Write → List Write
queued [] w = w ∷ []
queued (x ∷ ws) w = x ∷ w ∷ []

abbrev pub joined : Option Write → List Write → List Write
joined None ws = ws
joined (Some w) ws = queued ws w

-- the writes that wait after a record: one may leave, then one may join
unfoldable pub waiting_next : Context → Record → List Write → List Write
waiting_next cx r ws = joined (loads r) (left (leaving cx ws r) ws)

-- the writes that wait after these records; a fresh buffer is empty
unfoldable pub waiting_after : Context → List Record → List Write
waiting_after cx [] = []
waiting_after cx (r ∷ es) = waiting_next cx r (waiting_after cx es)

abbrev pub bank_of : Option Write → Option ℕ
bank_of None = None
bank_of (Some w) = Some w.bank

abbrev pub only : Bool → Option ℕ → Option ℕ
only true o = o
only false o = None

abbrev pub has : Option ℕ → Bool
has None = false
has (Some b) = true

-- a test on the bank of some waiting write, of each
abbrev pub any_write : (Write → Bool) → List Write → Bool
any_write q [] = false
any_write q (w ∷ ws) = q w || any_write q ws

abbrev pub all_writes : (Write → Bool) → List Write → Bool
all_writes q [] = true
all_writes q (w ∷ ws) = q w && all_writes q ws

-- the bank that the retire of a WRA closes
abbrev pub retire_implies : Option Write → Option ℕ
retire_implies None = None
retire_implies (Some w) = only w.close (Some w.bank)

-- bank x once the write has left that a record retires
abbrev pub bank_retired : Context → List Write → Record → ℕ → Bank → Bank
bank_retired cx ws r x before = closed_by cx (retire_implies (leaving cx ws r)) x before

-- bank x after these records; "A fresh model or checker has every bank closed". "from there the bank counts as closed": after the
-- retire of a WRA, and after an RDA
unfoldable pub bank_after : Context → List Record → ℕ → Bank
bank_after cx [] x = Closed
bank_after cx (RowAt t p ∷ es) x = bank_by cx p x (bank_after cx es x)
bank_after cx (ColAt t p ∷ es) x = closed_by cx (traits (ColAt t p)).implies x (bank_retired cx (waiting_after cx es) (ColAt t p) x (bank_after cx es x))
bank_after cx (DataOf t d ∷ es) x = bank_after cx es x

-- whether two wait
abbrev pub two : List Write → Bool
two [] = false
two (x ∷ []) = false
two (x ∷ y ∷ ws) = true

-- ---- deeds and events

-- what a record does: its instant and what it is
pub record Deed : Type 0 where
  pub at : ℕ
  pub traits : Traits

-- a retire; and after other deeds a PRER that is implied
abbrev pub retire_deeds : ℕ → Option Write → List Deed
retire_deeds t None = []
retire_deeds t (Some w) = record { at = t; traits = retire_traits w.bank } ∷ []

abbrev pub implied_deeds : ℕ → Option ℕ → List Deed → List Deed
implied_deeds t None l = l
implied_deeds t (Some b) l = record { at = t; traits = implied_traits b } ∷ l

-- the deeds of a record, newest first, where these writes wait: "the implied PRER stands directly after its RDA or retire"; data are none
unfoldable pub deeds : Context → List Write → Record → List Deed
deeds cx ws (RowAt t p) = record { at = t.0; traits = traits (RowAt t p) } ∷ []
deeds cx ws (ColAt t p) =
    let o : Option Write = leaving cx ws (ColAt t p) in
    implied_deeds (t.0 + cx.settings.offp) (traits (ColAt t p)).implies
    (record { at = t.0; traits = traits (ColAt t p) } ∷ implied_deeds (t.0 + cx.settings.offp) (retire_implies o) (retire_deeds t.0 o))
deeds cx ws (DataOf t d) = []

-- a deed that is done, with the banks that it closed
pub record Event : Type 0 where
  pub at : ℕ
  pub traits : Traits
  pub closed : ℕ → Bool

-- whether a PRER or REFP to a bank reaches bank x
abbrev pub reaches : Context → Option ℕ → ℕ → Bool
reaches cx None x = false
reaches cx (Some b) x = near cx b x

-- whether a PRER to this bank, where there is one, closes bank x, which was in this state
abbrev pub closes_bank : Context → (ℕ → Bank) → Option ℕ → ℕ → Bool
closes_bank cx before o x = reaches cx o x && not (is_closed (before x))

abbrev pub closes : Context → (ℕ → Bank) → Record → ℕ → Bool
closes cx before r x = closes_bank cx before (traits r).precharges x

-- whether an event is an implied PRER
abbrev pub is_implied : Traits → Bool
is_implied k = has k.precharges && not k.row

-- bank x after these deeds, newest first: PRERs close it
abbrev pub after_deeds : Context → (ℕ → Bank) → List Deed → ℕ → Bank
after_deeds cx before [] x = before x
after_deeds cx before (d ∷ l) x = closed_by cx d.traits.precharges x (after_deeds cx before l x)

abbrev pub event_of : Context → (ℕ → Bank) → Deed → Event
event_of cx before x = record { at = x.at; traits = x.traits; closed = closes_bank cx before x.traits.precharges }

-- deeds of one record, done where the banks were in these states, before earlier events
abbrev pub done : Context → (ℕ → Bank) → List Deed → List Event → List Event
done cx before [] h = h
done cx before (x ∷ l) h = event_of cx (after_deeds cx before l) x ∷ done cx before l h

-- the events of earlier records
unfoldable pub events : Context → List Record → List Event
events cx [] = []
events cx (r ∷ es) = done cx (bank_after cx es) (deeds cx (waiting_after cx es) r) (events cx es)

-- ---- distances

-- a distance that a rule asks of a pair, or none
abbrev pub spaced : Option ℕ → ℕ → ℕ → Bool
spaced None earlier later = true
spaced (Some gap) earlier later = leb (earlier + gap) later

-- the distance from every earlier event to a packet at t
unfoldable pub keeps : (Event → Option ℕ) → ℕ → List Event → Bool
keeps gap t [] = true
keeps gap t (e ∷ h) = spaced (gap e) e.at t && keeps gap t h

-- a distance between the banks of two packets, where both have one
abbrev pub over : Option ℕ → (ℕ → Option ℕ) → Option ℕ
over None f = None
over (Some b) f = f b

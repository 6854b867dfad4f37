-- The seventeen rules (document 01, "Rules over every earlier and later record"; 17 by document 02 f): of a record r after the earlier
-- records es, newest first. The distances stand in a table.
-- Assumes nothing.
use Rattle.std.specs.Prelude.{ℕ, ◌+◌, max, Bool, true, not, ◌&&◌, ◌||◌, cond, List, [], ◌∷◌, eqb, leb, Option, None, Some}
use Rattle.num.specs.Search.{all_up_to}
use Rattle.settings.specs.Instants.{horizon, is_instant}
use Rattle.packet.specs.declared.ColPacket.{ColPacket}
use Rattle.packet.specs.declared.ColPacket.TheVariants.{Nocop, Wr, Rd}
use Rattle.record.specs.declared.Record.{Record}
use Rattle.record.specs.declared.Record.TheVariants.{RowAt, ColAt, DataOf}
use Rattle.spec_rules.specs.declared.Bank.{Bank}
use Rattle.spec_rules.specs.declared.Write.{Write}
use Rattle.spec_rules.specs.Neighbour.{bank_count, Context, near}
use Rattle.spec_rules.specs.Packets.{Traits, traits, instant, is_packet}
use Rattle.spec_rules.specs.History.{bank_after, is_closed, is_open, left, leaving, waiting_after, bank_of, any_write, retire_implies, bank_retired, closes_bank, deeds, events, has}
use Rattle.spec_rules.specs.Distances.{holds}

-- ---- tests on banks

-- "bank and neighbours closed"
abbrev pub free_for : Context → (ℕ → Bank) → Option ℕ → Bool
free_for cx state None = true
free_for cx state (Some b) = all_up_to (λ x. not (near cx b x) || is_closed (state x)) bank_count

-- "need the bank open by ACT"
abbrev pub open_for : (ℕ → Bank) → Option ℕ → Bool
open_for state None = true
open_for state (Some b) = is_open (state b)

-- how long after a packet the last of what it sets itself comes: the data of RD and WR, the PRER that an RDA implies
abbrev pub col_delay : Context → ColPacket → ℕ
col_delay cx (Nocop m) = 0
col_delay cx (Wr b c m x) = cx.settings.cwd
col_delay cx (Rd b c m x) = cond x (max cx.settings.cac cx.settings.offp) cx.settings.cac

unfoldable pub longest_delay : Context → Record → ℕ
longest_delay cx (RowAt t p) = 0
longest_delay cx (ColAt t p) = col_delay cx p
longest_delay cx (DataOf t d) = 0

-- the instant at which the data of the record before must come, where that record is a WR
abbrev pub due_by : Context → ℕ → ColPacket → Option ℕ
due_by cx t (Nocop m) = None
due_by cx t (Wr b c m x) = Some (t + cx.settings.cwd)
due_by cx t (Rd b c m x) = None

unfoldable pub due_after : Context → List Record → Option ℕ
due_after cx [] = None
due_after cx (RowAt t p ∷ es) = None
due_after cx (ColAt t p ∷ es) = due_by cx t.0 p
due_after cx (DataOf t d ∷ es) = None

-- how long after a packet the PRER comes that its retire implies
abbrev pub implied_delay : Context → Option Write → ℕ
implied_delay cx o = cond (has (retire_implies o)) cx.settings.offp 0

-- ---- the rules

-- rules 2, 3, 5 to 8, 10, 11, 13 and the end of 17: the distances in the table, from every deed of the earlier records to each deed of r. The deeds of
-- r itself are not among the earlier ones: of an implied PRER "its own read or retire is exempt from 13"
unfoldable pub rule_of : Context → List Record → Record → ℕ → Bool
rule_of cx es r n = holds cx (events cx es) n (deeds cx (waiting_after cx es) r)

-- "1. ROW and COL instants, both kinds together in list order, never fall; all instants, the data instants of RD and WR
-- included, stay in range."; "An implied instant past the limit [..] breaks rule 1 in a list."
unfoldable pub rule1 : Context → List Record → Record → Bool
rule1 cx es r =
    (is_instant (instant r)
    && (leb (instant r + longest_delay cx r) horizon && leb (instant r + implied_delay cx (leaving cx (waiting_after cx es) r)) horizon))
    && rule_of cx es r 1

-- "4. ACT or REFA: bank and neighbours closed."
unfoldable pub rule4 : Context → List Record → Record → Bool
rule4 cx es r = free_for cx (bank_after cx es) (traits r).opens

-- "9. RD, WR and retire need the bank open by ACT."; after an implied PRER "the bank counts as closed: RD, WR (the one that retires the
-- WRA too) or retire there breaks rule 9"
unfoldable pub rule9 : Context → List Record → Record → Bool
rule9 cx es r =
    let then : ℕ → Bank = λ x. bank_retired cx (waiting_after cx es) r x (bank_after cx es x) in
    open_for then (traits r).reads && (open_for then (traits r).writes && open_for (bank_after cx es) (bank_of (leaving cx (waiting_after cx es) r)))

-- whether a packet may leave the waiting writes as they are (document 02 a): "Rule 12 becomes this: a not-RD COL packet before that
-- moment must be a WR with one write waiting. With two waiting, RD is a breach of rule 12."
abbrev pub stays : List Write → Traits → Bool
stays [] k = true
stays (x ∷ []) k = not k.not_read || has k.writes
stays (x ∷ y ∷ ws) k = not k.col

-- "12." it retires the older write, or it may leave them
unfoldable pub rule12 : Context → List Record → Record → Bool
rule12 cx es r = has (bank_of (leaving cx (waiting_after cx es) r)) || stays (waiting_after cx es) (traits r)

-- no waiting write is in a bank that a PRER to this bank closes
abbrev pub loses_none : Context → (ℕ → Bank) → Option ℕ → List Write → Bool
loses_none cx state o ws = not (any_write (λ w. closes_bank cx state o w.bank) ws)

-- "14. PRER must not close the bank of an unretired write.": a PRER or REFP, the one that a retire implies and the one that an RDA
-- implies, each where the banks are as the deeds before it left them
abbrev pub all_lose_none : Context → (ℕ → Bank) → List Write → Record → Bool
all_lose_none cx state ws r =
    let o : Option Write = leaving cx ws r in
    loses_none cx state (traits r).precharges ws
    && (loses_none cx state (retire_implies o) (left o ws) && loses_none cx (λ x. bank_retired cx ws r x (state x)) (traits r).implies (left o ws))

unfoldable pub rule14 : Context → List Record → Record → Bool
rule14 cx es r = all_lose_none cx (bank_after cx es) (waiting_after cx es) r

-- whether a record is the data that are due, or data are not due and it is none
abbrev pub data_in_place : Option ℕ → Record → Bool
data_in_place None r = is_packet r
data_in_place (Some t) r = not (is_packet r) && eqb (instant r) t

-- "15. Each WR is followed in the list by its data record D, at WR + tCWD; no D elsewhere. A list may end before the D;
-- otherwise the record in its place is the bad one."
unfoldable pub rule15 : Context → List Record → Record → Bool
rule15 cx es r = data_in_place (due_after cx es) r

-- "16. M = 1 only on a retiring packet."
unfoldable pub rule16 : Context → List Record → Record → Bool
rule16 cx es r = not (traits r).masked || has (bank_of (leaving cx (waiting_after cx es) r))

-- a record that leaves a WRA waiting is neither a ROW packet nor a WR
abbrev pub fits_between : Context → List Write → Record → Bool
fits_between cx ws r = not (any_write (λ w. w.close) (left (leaving cx ws r) ws)) || not ((traits r).row || has (traits r).writes)

-- "Rule 17 (House): between a WRA and its retire come only its D, NOCOP and RD, and no ROW packet comes before an implied PRER still
-- due."
unfoldable pub rule17 : Context → List Record → Record → Bool
rule17 cx es r = fits_between cx (waiting_after cx es) r && rule_of cx es r 17

-- the seventeen in their order
unfoldable pub rules : Context → List Record → Record → List Bool
rules cx es r =
    let by_table : ℕ → Bool = rule_of cx es r in
    rule1 cx es r ∷ by_table 2 ∷ by_table 3 ∷ rule4 cx es r ∷ by_table 5 ∷ by_table 6 ∷ by_table 7 ∷ by_table 8
    ∷ rule9 cx es r ∷ by_table 10 ∷ by_table 11 ∷ rule12 cx es r ∷ by_table 13 ∷ rule14 cx es r ∷ rule15 cx es r ∷ rule16 cx es r
    ∷ rule17 cx es r ∷ []

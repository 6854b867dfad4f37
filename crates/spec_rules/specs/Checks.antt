-- The rules as tests on the tracked state: each distance is asked of the last instants alone.
-- Assumes nothing.
use Rattle.std.specs.Prelude.{ℕ, zero, suc, ◌+◌, max, Bool, not, ◌&&◌, ◌||◌, cond, List, [], ◌∷◌, eqb, leb, length, Option, None, Some}
use Rattle.num.specs.Search.{first_false}
use Rattle.settings.specs.Instants.{horizon, is_instant}
use Rattle.record.specs.declared.Record.{Record}
use Rattle.spec_rules.specs.declared.Bank.{Bank}
use Rattle.spec_rules.specs.declared.BankTrack.{BankTrack}
use Rattle.spec_rules.specs.declared.Channel.{Channel}
use Rattle.spec_rules.specs.Neighbour.{bank_count, Context, near}
use Rattle.spec_rules.specs.Packets.{Traits, traits, instant}
use Rattle.spec_rules.specs.History.{bank_of, only, bank_retired, deeds, has}
use Rattle.spec_rules.specs.Distances.{Kind, packet, ROW, COL, ACT, only_act, PRER, RD, WR, retire, implied, bank_as, Banks, any, same, same_or_neighbour, others, same_neighbour_or_closed, Distance, distances, each, of_rule}
use Rattle.spec_rules.specs.Rules.{free_for, open_for, longest_delay, implied_delay, stays, all_lose_none, fits_between, data_in_place}
use Rattle.spec_rules.specs.Broken.{lowest, record_in}
use Rattle.spec_rules.specs.Channel.{fresh, track_of, state_of, waiting_of, due_of, leaving_of, after}

-- the instant that a last one and a distance ask of the next; none asks nothing
abbrev pub since : ℕ → ℕ → ℕ
since last gap = cond (eqb last 0) 0 (last + gap)

abbrev pub asks : Option ℕ → ℕ → ℕ
asks None last = 0
asks (Some gap) last = since last gap

-- the largest of f x over x < n
unfoldable pub max_up_to : (ℕ → ℕ) → ℕ → ℕ
max_up_to f zero = 0
max_up_to f (suc n) = max (max_up_to f n) (f n)

-- a bound where there is a bank
abbrev pub bound_of : Option ℕ → (ℕ → ℕ) → ℕ
bound_of None f = 0
bound_of (Some b) f = f b

-- the largest of f d over the lines of a table
abbrev pub max_line : (Distance → ℕ) → List Distance → ℕ
max_line f [] = 0
max_line f (d ∷ l) = max (f d) (max_line f l)

-- ---- the last instants by kind; 0 stands too where none is apart, of a kind that no line of the table asks for in this way

-- of the whole channel
abbrev pub last_on : Channel → Kind → ℕ
last_on ch packet = ch.lasts.packet.0
last_on ch ROW = ch.lasts.row.0
last_on ch COL = ch.lasts.col.0
last_on ch ACT = 0
last_on ch only_act = 0
last_on ch PRER = ch.lasts.pre.0
last_on ch RD = ch.lasts.rd.0
last_on ch WR = 0
last_on ch retire = 0
last_on ch implied = ch.lasts.implied.0

-- of bank x
abbrev pub last_at : BankTrack → Kind → ℕ
last_at k packet = 0
last_at k ROW = 0
last_at k COL = 0
last_at k ACT = k.opened.0
last_at k only_act = k.act.0
last_at k PRER = k.pre.0
last_at k RD = k.rd.0
last_at k WR = 0
last_at k retire = k.retire.0
last_at k implied = 0

module _ (cx : Context) (ch : Channel) where
  -- what the banks ask of a deed at bank b, by those that it counts
  abbrev pub bound_banks : (ℕ → ℕ → Bool) → Kind → ℕ → ℕ → ℕ
  bound_banks counts from gap b = max_up_to (λ x. asks (only (counts b x) (Some gap)) (last_at (track_of ch x) from)) bank_count

  -- a PRER counts at the banks that it closed, so they need no case of their own
  abbrev pub bound_by : Banks → Kind → ℕ → ℕ → ℕ
  bound_by any from gap b = since (last_on ch from) gap
  bound_by same from gap b = bound_banks (λ b x. eqb x b) from gap b
  bound_by same_or_neighbour from gap b = bound_banks (near cx) from gap b
  bound_by others from gap b = bound_banks (λ b x. not (near cx b x)) from gap b
  bound_by same_neighbour_or_closed from gap b = bound_banks (near cx) from gap b

  -- what a line of the table asks of a deed
  abbrev pub bound : Distance → Traits → ℕ
  bound d k = bound_of (bank_as d.later k) (bound_by d.banks d.earlier d.cycles)

  -- what the whole table asks of a deed
  unfoldable pub bounds : Traits → ℕ
  bounds k = max_line (λ d. bound d k) (distances cx.settings)

  module _ (r : Record) where
    -- rule n of the table
    unfoldable pub check_of : ℕ → Bool
    check_of n = of_rule n (λ d. each (λ x. leb (bound d x.traits) x.at) (deeds cx (waiting_of ch.buffer) r)) (distances cx.settings)

    -- the states once the write has left that the record retires
    abbrev pub then_state : ℕ → Bank
    then_state x = bank_retired cx (waiting_of ch.buffer) r x (state_of ch x)

    -- the seventeen tests in their order
    unfoldable pub checks : List Bool
    checks =
        ((is_instant (instant r) && (leb (instant r + longest_delay cx r) horizon && leb (instant r + implied_delay cx (leaving_of cx ch r)) horizon)) && check_of 1)
        ∷ check_of 2
        ∷ check_of 3
        ∷ free_for cx (state_of ch) (traits r).opens
        ∷ check_of 5
        ∷ check_of 6
        ∷ check_of 7
        ∷ check_of 8
        ∷ (open_for then_state (traits r).reads && (open_for then_state (traits r).writes && open_for (state_of ch) (bank_of (leaving_of cx ch r))))
        ∷ check_of 10
        ∷ check_of 11
        ∷ (has (bank_of (leaving_of cx ch r)) || stays (waiting_of ch.buffer) (traits r))
        ∷ check_of 13
        ∷ all_lose_none cx (state_of ch) (waiting_of ch.buffer) r
        ∷ data_in_place (due_of cx ch) r
        ∷ (not (traits r).masked || has (bank_of (leaving_of cx ch r)))
        ∷ (fits_between cx (waiting_of ch.buffer) r && check_of 17)
        ∷ []

-- the lowest rule that a record breaks in a state, or 0
unfoldable pub judged : Context → Channel → Record → ℕ
judged cx ch r = lowest 1 (checks cx ch r)

-- the state after the first n records of a list, from a fresh one
unfoldable pub channel_after : Context → List Record → ℕ → Channel
channel_after cx l zero = fresh
channel_after cx l (suc n) = after cx (channel_after cx l n) (record_in l n)

-- the rule that is found at record n of a list, by the state before it
abbrev pub found_at : Context → List Record → ℕ → ℕ
found_at cx l n = judged cx (channel_after cx l n) (record_in l n)

-- the first record of a list at which one is found, or its length
unfoldable pub first_found : Context → List Record → ℕ
first_found cx l = first_false (λ n. eqb (found_at cx l n) 0) (length l)

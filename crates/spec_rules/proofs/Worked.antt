-- Short lists under set H (document 01, "Bench runs"): which record is the first bad one and which rules it breaks, by the rules
-- over all earlier records and by the tests on the tracked state.
-- Assumes nothing.
use Prim.Native.Nat.{ℕ, suc}
use mathlib.Core.Path.{◌≡◌, refl}
use mathlib.Core.Bool.{Bool, true, false, cond}
use mathlib.Core.List.{List, [], ◌∷◌, map}
use lib.Dec.{ltb}
use lib.ListN.{length}
use Rattle.num.specs.Search.{all_up_to, first_false}
use Rattle.settings.specs.Bench.{set_of}
use Rattle.packet.specs.declared.RowPacket.{RowPacket}
use Rattle.packet.specs.declared.RowPacket.TheVariants.{Act, Prer, Refa, Refp}
use Rattle.packet.specs.declared.ColPacket.{ColPacket}
use Rattle.packet.specs.declared.ColPacket.TheVariants.{Nocop, Wr, Rd}
use Rattle.record.specs.declared.Record.{Record}
use Rattle.record.specs.declared.Record.TheVariants.{RowAt, ColAt, DataOf}
use Rattle.spec_rules.specs.Neighbour.{bank_count, Context, run_of, in_runs, context_of}
use Rattle.spec_rules.specs.Packets.{row_traits, col_traits, traits, retire_traits, implied_traits, instant, is_packet}
use Rattle.spec_rules.specs.History.{bank_by, bank_after, is_closed, is_open, leaving, loads, waiting_next, waiting_after, deeds, events, keeps}
use Rattle.spec_rules.specs.Rules.{longest_delay, due_after, rules}
use Rattle.spec_rules.specs.Distances.{distances}
use Rattle.spec_rules.specs.Rules.{rule_of, rule1, rule4, rule9, rule12, rule14, rule15, rule16, rule17}
use Rattle.spec_rules.specs.Broken.{earlier, record_in, lowest, lowest_rule, rule_at, first_broken, every_rule}
use Rattle.spec_rules.specs.Channel.{fresh, waiting_of, buffer_of, due_of, bank_next, track_next, after_packet, track_retired, after_retire, track_implied, after_implied, after_data, after}
use Rattle.spec_rules.specs.Checks.{max_up_to, check_of, checks, judged, channel_after, found_at, first_found}

-- a packet at an instant, and data
abbrev pub row : ℕ → RowPacket → Record
row t p = RowAt (record { 0 = t }) p

abbrev pub col : ℕ → ColPacket → Record
col t p = ColAt (record { 0 = t }) p

abbrev pub dat : ℕ → Record
dat t = DataOf (record { 0 = t }) (record { dqa = 0; dqb = 0 })

abbrev pub full : ℕ
full = 0xFFFF

-- the numbers of the tests that fail
pub numbers : ℕ → List Bool → List ℕ
numbers n [] = []
numbers n (b ∷ l) = cond b (numbers (suc n) l) (n ∷ numbers (suc n) l)

-- the first bad record; where there is one, also the lowest rule that it breaks and then all of them
pub verdict : ℕ → ℕ → ℕ → List Bool → List ℕ
verdict place size lowest tests = cond (ltb place size) (place ∷ lowest ∷ numbers 1 tests) (place ∷ [])

-- under set H with a core form
pub set_core : ℕ → Context
set_core core = context_of (set_of 2 4 core)

pub by_rules : ℕ → List Record → List ℕ
by_rules core l =
    let j : ℕ = first_broken (set_core core) l in
    verdict j (length l) (rule_at (set_core core) l j) (rules (set_core core) (earlier l j) (record_in l j))

pub by_tests : ℕ → List Record → List ℕ
by_tests core l =
    let j : ℕ = first_found (set_core core) l in
    verdict j (length l) (found_at (set_core core) l j) (checks (set_core core) (channel_after (set_core core) l j) (record_in l j))

pub lists : List (List Record)
lists =
    -- run 1
    (row 4 (Act 0 0) ∷ col 13 (Rd 0 1 full false) ∷ col 19 (Wr 0 1 full false) ∷ dat 25 ∷ col 27 (Nocop 3) ∷ col 31 (Rd 0 1 full false) ∷ row 35 (Prer 0)
    ∷ row 43 (Act 1 0) ∷ col 52 (Rd 1 0 full false) ∷ row 63 (Prer 1) ∷ [])
    -- "ACT at 4, RD at 12: refusal 11, rule 10, record 1"
    ∷ (row 4 (Act 0 0) ∷ col 12 (Rd 0 1 full false) ∷ [])
    -- a packet in the place of a D: judged by all rules
    ∷ (row 4 (Act 0 0) ∷ col 5 (Wr 0 0 full false) ∷ col 6 (Nocop full) ∷ [])
    -- each rule alone: 1 by order, by range, and by the instant of the data
    ∷ (row 8 (Act 0 0) ∷ col 7 (Nocop full) ∷ [])
    ∷ (row 3 (Act 0 0) ∷ [])
    ∷ (row 4 (Act 0 0) ∷ col 999999993 (Rd 0 0 full false) ∷ [])
    ∷ (row 4 (Act 0 0) ∷ row 7 (Prer 5) ∷ [])
    ∷ (col 4 (Nocop full) ∷ col 7 (Nocop full) ∷ [])
    ∷ (row 4 (Act 0 0) ∷ row 32 (Act 1 0) ∷ [])
    ∷ (row 4 (Act 0 0) ∷ row 8 (Act 2 0) ∷ [])
    ∷ (row 4 (Refa 0) ∷ row 23 (Prer 1) ∷ [])
    -- 7 by the bank, and by a neighbour of a bank that the PRER closed
    ∷ (row 4 (Act 0 0) ∷ row 28 (Prer 0) ∷ row 35 (Act 0 1) ∷ [])
    ∷ (row 4 (Act 1 0) ∷ row 28 (Prer 0) ∷ row 35 (Act 2 0) ∷ [])
    ∷ (row 4 (Refp 0) ∷ row 11 (Prer 5) ∷ [])
    ∷ (row 4 (Refa 0) ∷ col 13 (Rd 0 0 full false) ∷ [])
    ∷ (row 4 (Act 0 0) ∷ col 4 (Wr 0 0 full false) ∷ [])
    ∷ (row 4 (Act 0 0) ∷ col 13 (Rd 0 0 full false) ∷ col 18 (Wr 0 0 full false) ∷ [])
    ∷ (row 4 (Act 0 0) ∷ col 10 (Wr 0 0 full false) ∷ dat 16 ∷ col 17 (Nocop full) ∷ [])
    -- 13 by an RD, and by a retire
    ∷ (row 4 (Act 0 0) ∷ col 21 (Rd 0 0 full false) ∷ row 24 (Prer 1) ∷ [])
    ∷ (row 4 (Act 0 0) ∷ col 13 (Wr 0 0 full false) ∷ dat 19 ∷ col 21 (Nocop full) ∷ row 24 (Prer 0) ∷ [])
    ∷ (row 4 (Act 0 0) ∷ col 5 (Wr 0 0 full false) ∷ dat 11 ∷ row 24 (Prer 1) ∷ [])
    -- 15 by a packet in the place of the D, by its instant, and by a D elsewhere
    ∷ (row 4 (Act 0 0) ∷ col 5 (Wr 0 0 full false) ∷ col 13 (Nocop full) ∷ [])
    ∷ (row 4 (Act 0 0) ∷ col 5 (Wr 0 0 full false) ∷ dat 12 ∷ [])
    ∷ (dat 4 ∷ [])
    -- 16 with nothing buffered, and on an RD
    ∷ (col 4 (Nocop 3) ∷ [])
    ∷ (row 4 (Act 0 0) ∷ col 5 (Wr 0 0 full false) ∷ dat 11 ∷ col 13 (Rd 0 1 3 false) ∷ [])
    -- no rule broken: banks 15 and 16, a ROW and a COL packet at one instant, a packet before the instant of the D before it
    ∷ (row 4 (Act 15 0) ∷ row 12 (Act 16 0) ∷ col 12 (Wr 15 0 full false) ∷ dat 18 ∷ row 16 (Prer 3) ∷ [])
    -- document 02 a, two waiting writes: the two-writes run, the older retired first; M = 1 on a WR that retires none; RD with two waiting, and
    -- with one left; a NOCOP too early is no retire, so 12 alone; a WR and a NOCOP too early beside two; 14 of each waiting write
    ∷ (row 4 (Act 0 0) ∷ col 5 (Wr 0 0 full false) ∷ dat 11 ∷ col 9 (Wr 0 0 full false) ∷ dat 15 ∷ col 13 (Nocop 3) ∷ col 17 (Nocop 5) ∷ [])
    ∷ (row 4 (Act 0 0) ∷ col 5 (Wr 0 0 full false) ∷ dat 11 ∷ col 9 (Wr 0 0 3 false) ∷ [])
    ∷ (row 4 (Act 0 0) ∷ col 5 (Wr 0 0 full false) ∷ dat 11 ∷ col 9 (Wr 0 0 full false) ∷ dat 15 ∷ col 13 (Rd 0 1 full false) ∷ [])
    ∷ (row 4 (Act 0 0) ∷ col 5 (Wr 0 0 full false) ∷ dat 11 ∷ col 9 (Wr 0 0 full false) ∷ dat 15 ∷ col 13 (Nocop 3) ∷ col 17 (Rd 0 1 full false) ∷ [])
    ∷ (row 4 (Act 0 0) ∷ col 5 (Wr 0 0 full false) ∷ dat 11 ∷ col 12 (Nocop full) ∷ [])
    ∷ (row 4 (Act 0 0) ∷ col 5 (Wr 0 0 full false) ∷ dat 11 ∷ col 12 (Nocop 3) ∷ [])
    ∷ (row 4 (Act 0 0) ∷ col 6 (Wr 0 0 full false) ∷ dat 12 ∷ col 10 (Wr 0 0 full false) ∷ dat 16 ∷ col 14 (Wr 0 1 full false) ∷ dat 20 ∷ col 17 (Wr 0 2 full false) ∷ [])
    ∷ (row 4 (Act 0 0) ∷ col 7 (Wr 0 0 full false) ∷ dat 13 ∷ col 14 (Wr 0 0 full false) ∷ dat 20 ∷ col 18 (Wr 0 1 full false) ∷ dat 24 ∷ col 22 (Nocop full) ∷ [])
    ∷ (row 4 (Act 0 0) ∷ col 7 (Wr 0 0 full false) ∷ dat 13 ∷ col 14 (Wr 0 0 full false) ∷ dat 20 ∷ col 18 (Wr 0 1 full false) ∷ dat 24 ∷ col 21 (Nocop full) ∷ [])
    ∷ (row 4 (Act 0 0) ∷ col 5 (Wr 0 0 full false) ∷ dat 11 ∷ col 9 (Wr 0 0 full false) ∷ dat 15 ∷ row 24 (Prer 1) ∷ [])
    ∷ (row 4 (Act 0 0) ∷ row 12 (Act 4 0) ∷ col 13 (Wr 0 0 full false) ∷ dat 19 ∷ col 17 (Wr 4 0 full false) ∷ dat 23 ∷ row 32 (Prer 4) ∷ [])
    ∷ (row 4 (Act 0 0) ∷ row 12 (Act 4 0) ∷ col 13 (Wr 0 0 full false) ∷ dat 19 ∷ col 17 (Wr 4 0 full false) ∷ dat 23 ∷ row 32 (Prer 0) ∷ [])
    ∷ (row 4 (Act 0 0) ∷ row 12 (Act 4 0) ∷ col 13 (Wr 0 0 full false) ∷ dat 19 ∷ col 17 (Wr 4 0 full false) ∷ dat 23 ∷ col 21 (Nocop 3) ∷ row 32 (Prer 0) ∷ row 40 (Prer 4) ∷ [])
    -- the distances to the cycle, one short and in full where the lists above have only one: 2, 3, 5 (tRC in the bank and in a neighbour,
    -- tRR), 6, 7 after a REFP, 8, 10 (WR), 12, 13 (RD; retire, in the bank and in a neighbour)
    ∷ (row 4 (Act 0 0) ∷ row 8 (Prer 5) ∷ [])
    ∷ (col 4 (Nocop full) ∷ col 8 (Nocop full) ∷ [])
    ∷ (row 4 (Act 0 0) ∷ row 24 (Prer 0) ∷ row 31 (Act 0 0) ∷ [])
    ∷ (row 4 (Act 0 0) ∷ row 24 (Prer 0) ∷ row 31 (Act 1 0) ∷ [])
    ∷ (row 4 (Act 0 0) ∷ row 24 (Prer 0) ∷ row 32 (Act 1 0) ∷ [])
    ∷ (row 4 (Act 0 0) ∷ row 11 (Act 2 0) ∷ [])
    ∷ (row 4 (Act 0 0) ∷ row 23 (Prer 0) ∷ [])
    ∷ (row 4 (Refp 0) ∷ row 11 (Act 0 0) ∷ [])
    ∷ (row 4 (Refp 0) ∷ row 12 (Act 1 0) ∷ [])
    ∷ (row 4 (Refp 0) ∷ row 12 (Prer 5) ∷ [])
    ∷ (row 4 (Act 0 0) ∷ col 5 (Wr 0 0 full false) ∷ dat 11 ∷ col 13 (Nocop 3) ∷ [])
    ∷ (row 4 (Act 0 0) ∷ col 10 (Wr 0 0 full false) ∷ dat 16 ∷ col 18 (Nocop full) ∷ [])
    ∷ (row 4 (Act 0 0) ∷ col 21 (Rd 0 0 full false) ∷ row 25 (Prer 1) ∷ [])
    ∷ (row 4 (Act 0 0) ∷ col 13 (Wr 0 0 full false) ∷ dat 19 ∷ col 21 (Nocop full) ∷ row 25 (Prer 0) ∷ [])
    ∷ (row 4 (Act 0 0) ∷ col 13 (Wr 0 0 full false) ∷ dat 19 ∷ col 21 (Nocop full) ∷ row 24 (Prer 1) ∷ [])
    -- 1 by the instant of a WR's data; 14 by a REFP; a PRER that does not close the bank of the waiting write
    ∷ (row 4 (Act 0 0) ∷ col 999999995 (Wr 0 0 full false) ∷ [])
    ∷ (row 4 (Act 0 0) ∷ col 999999994 (Wr 0 0 full false) ∷ dat 1000000000 ∷ [])
    ∷ (row 4 (Act 0 0) ∷ col 5 (Wr 0 0 full false) ∷ dat 11 ∷ row 24 (Refp 1) ∷ [])
    ∷ (row 4 (Act 0 0) ∷ col 5 (Wr 0 0 full false) ∷ dat 11 ∷ row 24 (Prer 2) ∷ [])
    -- RDA at 20 and 19 (6); then ACT of the same bank at 32 and 31 (7), of another at 24 and 23 (17)
    ∷ (row 4 (Act 0 0) ∷ col 20 (Rd 0 0 full true) ∷ row 32 (Act 0 1) ∷ [])
    ∷ (row 4 (Act 0 0) ∷ col 19 (Rd 0 0 full true) ∷ [])
    ∷ (row 4 (Act 0 0) ∷ col 20 (Rd 0 0 full true) ∷ row 31 (Act 0 1) ∷ [])
    ∷ (row 4 (Act 0 0) ∷ col 20 (Rd 0 0 full true) ∷ row 24 (Act 5 0) ∷ [])
    ∷ (row 4 (Act 0 0) ∷ col 20 (Rd 0 0 full true) ∷ row 23 (Act 5 0) ∷ [])
    -- after an RDA the bank counts as closed (9)
    ∷ (row 4 (Act 0 0) ∷ col 20 (Rd 0 0 full true) ∷ col 24 (Rd 0 1 full false) ∷ [])
    -- WRA: its NOCOP at 20 and 19 (6); a ROW packet between them (17); a WR that retires it, to the bank (9)
    ∷ (row 4 (Act 0 0) ∷ col 5 (Wr 0 0 full true) ∷ dat 11 ∷ col 20 (Nocop full) ∷ [])
    ∷ (row 4 (Act 0 0) ∷ col 5 (Wr 0 0 full true) ∷ dat 11 ∷ col 19 (Nocop full) ∷ [])
    ∷ (row 4 (Act 0 0) ∷ col 5 (Wr 0 0 full true) ∷ dat 11 ∷ row 12 (Act 5 0) ∷ [])
    ∷ (row 4 (Act 0 0) ∷ col 5 (Wr 0 0 full true) ∷ dat 11 ∷ col 20 (Wr 0 1 full false) ∷ [])
    -- an RDA with a write waiting in its bank (14)
    ∷ (row 4 (Act 0 0) ∷ col 5 (Wr 0 0 full false) ∷ dat 11 ∷ col 20 (Rd 0 1 full true) ∷ [])
    -- an RDA to another bank between a WRA and its retire
    ∷ (row 4 (Act 0 0) ∷ row 12 (Act 5 0) ∷ col 14 (Wr 0 0 full true) ∷ dat 20 ∷ col 28 (Rd 5 0 full true) ∷ col 36 (Nocop full) ∷ [])
    -- an early WR beside one waiting WRA (17)
    ∷ (row 4 (Act 0 0) ∷ row 12 (Act 5 0) ∷ col 14 (Wr 0 0 full true) ∷ dat 20 ∷ col 18 (Wr 5 0 full false) ∷ [])
    ∷ []

pub verdicts : List (List ℕ)
verdicts =
    (10 ∷ [])
    ∷ (1 ∷ 10 ∷ 10 ∷ [])
    ∷ (2 ∷ 3 ∷ 3 ∷ 12 ∷ 15 ∷ [])
    ∷ (1 ∷ 1 ∷ 1 ∷ [])
    ∷ (0 ∷ 1 ∷ 1 ∷ [])
    ∷ (1 ∷ 1 ∷ 1 ∷ [])
    ∷ (1 ∷ 2 ∷ 2 ∷ [])
    ∷ (1 ∷ 3 ∷ 3 ∷ [])
    ∷ (1 ∷ 4 ∷ 4 ∷ [])
    ∷ (1 ∷ 5 ∷ 5 ∷ [])
    ∷ (1 ∷ 6 ∷ 6 ∷ [])
    ∷ (2 ∷ 7 ∷ 7 ∷ [])
    ∷ (2 ∷ 7 ∷ 7 ∷ [])
    ∷ (1 ∷ 8 ∷ 8 ∷ [])
    ∷ (1 ∷ 9 ∷ 9 ∷ [])
    ∷ (1 ∷ 10 ∷ 10 ∷ [])
    ∷ (2 ∷ 11 ∷ 11 ∷ [])
    ∷ (3 ∷ 12 ∷ 12 ∷ [])
    ∷ (2 ∷ 13 ∷ 13 ∷ [])
    ∷ (4 ∷ 13 ∷ 13 ∷ [])
    ∷ (3 ∷ 14 ∷ 14 ∷ [])
    ∷ (2 ∷ 15 ∷ 15 ∷ [])
    ∷ (2 ∷ 15 ∷ 15 ∷ [])
    ∷ (0 ∷ 15 ∷ 15 ∷ [])
    ∷ (0 ∷ 16 ∷ 16 ∷ [])
    ∷ (3 ∷ 16 ∷ 16 ∷ [])
    ∷ (5 ∷ [])
    ∷ (7 ∷ [])
    ∷ (3 ∷ 16 ∷ 16 ∷ [])
    ∷ (5 ∷ 12 ∷ 12 ∷ [])
    ∷ (7 ∷ [])
    ∷ (3 ∷ 12 ∷ 12 ∷ [])
    ∷ (3 ∷ 12 ∷ 12 ∷ 16 ∷ [])
    ∷ (7 ∷ 3 ∷ 3 ∷ 12 ∷ [])
    ∷ (8 ∷ [])
    ∷ (7 ∷ 3 ∷ 3 ∷ 12 ∷ [])
    ∷ (5 ∷ 14 ∷ 14 ∷ [])
    ∷ (6 ∷ 14 ∷ 14 ∷ [])
    ∷ (6 ∷ 14 ∷ 14 ∷ [])
    ∷ (8 ∷ 14 ∷ 14 ∷ [])
    ∷ (2 ∷ [])
    ∷ (2 ∷ [])
    ∷ (2 ∷ 5 ∷ 5 ∷ 7 ∷ [])
    ∷ (2 ∷ 5 ∷ 5 ∷ 7 ∷ [])
    ∷ (3 ∷ [])
    ∷ (1 ∷ 5 ∷ 5 ∷ [])
    ∷ (1 ∷ 6 ∷ 6 ∷ [])
    ∷ (1 ∷ 7 ∷ 7 ∷ [])
    ∷ (2 ∷ [])
    ∷ (2 ∷ [])
    ∷ (4 ∷ [])
    ∷ (4 ∷ [])
    ∷ (3 ∷ [])
    ∷ (5 ∷ [])
    ∷ (4 ∷ 13 ∷ 13 ∷ [])
    ∷ (1 ∷ 1 ∷ 1 ∷ [])
    ∷ (3 ∷ [])
    ∷ (3 ∷ 14 ∷ 14 ∷ [])
    ∷ (4 ∷ [])
    ∷ (3 ∷ [])
    ∷ (1 ∷ 6 ∷ 6 ∷ [])
    ∷ (2 ∷ 5 ∷ 5 ∷ 7 ∷ [])
    ∷ (3 ∷ [])
    ∷ (2 ∷ 17 ∷ 17 ∷ [])
    ∷ (2 ∷ 9 ∷ 9 ∷ [])
    ∷ (4 ∷ [])
    ∷ (3 ∷ 6 ∷ 6 ∷ [])
    ∷ (3 ∷ 17 ∷ 17 ∷ [])
    ∷ (3 ∷ 9 ∷ 9 ∷ [])
    ∷ (3 ∷ 14 ∷ 14 ∷ [])
    ∷ (6 ∷ [])
    ∷ (4 ∷ 17 ∷ 17 ∷ [])
    ∷ []

pub worked : (map (by_rules 0) lists ≡ verdicts) × (map (by_tests 0) lists ≡ verdicts)
unfolding set_of set_core numbers verdict by_rules by_tests lists verdicts run_of in_runs context_of row_traits col_traits traits instant is_packet bank_by bank_after is_closed is_open leaving loads waiting_next waiting_after deeds events retire_traits implied_traits keeps bank_count longest_delay due_after distances rule_of rules rule1 rule4 rule9 rule12 rule14 rule15 rule16 rule17 lowest lowest_rule first_broken every_rule fresh waiting_of buffer_of due_of bank_next track_next after_packet track_retired after_retire track_implied after_implied after_data after max_up_to check_of checks judged channel_after first_found all_up_to first_false
worked = (refl, refl)

-- ---- the three core forms

-- "Form 1 makes 15 and 16 neighbours; form 2 has no neighbours": ACT beside an open bank; PRER beside a bank that opened less than tRAS
-- before; PRER beside the bank of a waiting write
pub core_lists : List (List Record)
core_lists =
    (row 4 (Act 15 0) ∷ row 32 (Act 16 0) ∷ [])
    ∷ (row 4 (Act 0 0) ∷ row 32 (Act 1 0) ∷ [])
    ∷ (row 4 (Act 0 0) ∷ row 23 (Prer 1) ∷ [])
    ∷ (row 4 (Act 15 0) ∷ col 13 (Wr 15 0 full false) ∷ dat 19 ∷ row 40 (Prer 16) ∷ [])
    ∷ []

pub core_verdicts : List (List (List ℕ))
core_verdicts =
    ((2 ∷ []) ∷ (1 ∷ 4 ∷ 4 ∷ []) ∷ (1 ∷ 6 ∷ 6 ∷ []) ∷ (4 ∷ []) ∷ [])
    ∷ ((1 ∷ 4 ∷ 4 ∷ []) ∷ (1 ∷ 4 ∷ 4 ∷ []) ∷ (1 ∷ 6 ∷ 6 ∷ []) ∷ (3 ∷ 14 ∷ 14 ∷ []) ∷ [])
    ∷ ((2 ∷ []) ∷ (2 ∷ []) ∷ (2 ∷ []) ∷ (4 ∷ []) ∷ [])
    ∷ []

pub core-worked : (map (λ (core : ℕ). map (by_rules core) core_lists) (0 ∷ 1 ∷ 2 ∷ []) ≡ core_verdicts) × (map (λ (core : ℕ). map (by_tests core) core_lists) (0 ∷ 1 ∷ 2 ∷ []) ≡ core_verdicts)
unfolding set_of set_core numbers verdict by_rules by_tests core_lists core_verdicts run_of in_runs context_of row_traits col_traits traits instant is_packet bank_by bank_after is_closed is_open leaving loads waiting_next waiting_after deeds events retire_traits implied_traits keeps bank_count longest_delay due_after distances rule_of rules rule1 rule4 rule9 rule12 rule14 rule15 rule16 rule17 lowest lowest_rule first_broken every_rule fresh waiting_of buffer_of due_of bank_next track_next after_packet track_retired after_retire track_implied after_implied after_data after max_up_to check_of checks judged channel_after first_found all_up_to first_false
core-worked = (refl, refl)

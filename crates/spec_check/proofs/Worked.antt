-- Short lists under set H (document 01, "Bench runs"), with the starts whose runs still break the rule and the one that is answered.
-- Assumes nothing.
use Prim.Native.Nat.{ℕ, zero, suc}
use mathlib.Core.Path.{◌≡◌, refl}
use mathlib.Core.Bool.{false, cond}
use mathlib.Core.List.{List, [], ◌∷◌, map, ◌++◌}
use lib.Dec.{ltb}
use lib.ListN.{length}
use Rattle.num.specs.Search.{all_up_to, first_false}
use Rattle.settings.specs.Bench.{set_of}
use Rattle.packet.specs.declared.RowPacket.TheVariants.{Act, Prer}
use Rattle.packet.specs.declared.ColPacket.TheVariants.{Nocop, Wr, Rd}
use Rattle.record.specs.declared.Record.{Record}
use Rattle.spec_rules.specs.Neighbour.{bank_count, Context, run_of, in_runs, context_of}
use Rattle.spec_rules.specs.Packets.{row_traits, col_traits, traits, retire_traits, implied_traits, instant, is_packet}
use Rattle.spec_rules.specs.History.{bank_by, bank_after, is_closed, is_open, leaving, loads, waiting_next, waiting_after, deeds, events, keeps}
use Rattle.spec_rules.specs.Distances.{distances}
use Rattle.spec_rules.specs.Rules.{longest_delay, due_after, rules, rule_of, rule1, rule4, rule9, rule12, rule14, rule15, rule16, rule17}
use Rattle.spec_rules.specs.Broken.{lowest, lowest_rule, rule_at, first_broken}
use Rattle.spec_rules.proofs.Worked.{row, col, dat, full}
use Rattle.spec_check.specs.Shortest.{still_breaks, last_true, shortest_start}

pub set_h : Context
set_h = context_of (set_of 2 4 0)

-- the starts up to j whose runs break rule n at record j
pub starts : List Record → ℕ → ℕ → ℕ → List ℕ
starts rs n j zero = cond (still_breaks set_h rs n j 0) (0 ∷ []) []
starts rs n j (suc i) = starts rs n j i ++ cond (still_breaks set_h rs n j (suc i)) (suc i ∷ []) []

-- the first bad record; where there is one, its rule, the start that is answered, and then all starts
pub found : List Record → List ℕ
found rs =
    let j : ℕ = first_broken set_h rs in
    let n : ℕ = rule_at set_h rs j in
    cond (ltb j (length rs)) (j ∷ n ∷ shortest_start set_h rs n j ∷ starts rs n j j) (j ∷ [])

pub lists : List (List Record)
lists =
    -- a list that passes
    (row 4 (Act 0 0) ∷ col 13 (Rd 0 1 full false) ∷ [])
    -- "ACT at 4, RD at 12: refusal 11, rule 10, record 1": the RD alone breaks another rule, 9
    ∷ (row 4 (Act 0 0) ∷ col 12 (Rd 0 1 full false) ∷ [])
    -- one record alone: an RD to a closed bank, a D after no WR
    ∷ (row 4 (Act 5 0) ∷ col 13 (Rd 5 0 full false) ∷ col 17 (Rd 0 1 full false) ∷ [])
    ∷ (row 4 (Act 5 0) ∷ dat 12 ∷ [])
    -- starts that have the property are not all in one piece: two PRERs, and before them an RD, which is refused where it comes first
    ∷ (row 4 (Act 0 0) ∷ col 13 (Rd 0 1 full false) ∷ row 35 (Prer 5) ∷ row 38 (Prer 9) ∷ [])
    -- an ACT beside an open bank, with reads of that bank and of an earlier one between
    ∷ (row 4 (Act 5 0) ∷ row 12 (Act 0 0) ∷ col 21 (Rd 0 1 full false) ∷ col 25 (Rd 0 0 full false) ∷ row 40 (Act 1 0) ∷ [])
    ∷ (row 4 (Act 5 0) ∷ row 12 (Act 0 0) ∷ col 21 (Rd 0 1 full false) ∷ col 25 (Rd 5 0 full false) ∷ row 40 (Act 1 0) ∷ [])
    -- a packet in the place of the second write's D: the run needs the ACT, and a start between names 9 first
    ∷ (row 4 (Act 0 0) ∷ col 5 (Wr 0 0 full false) ∷ dat 11 ∷ col 9 (Wr 0 1 full false) ∷ col 17 (Nocop full) ∷ [])
    -- M = 1 on a packet that retires none breaks 16 alone, and so does the run of it alone
    ∷ (row 4 (Act 0 0) ∷ col 5 (Wr 0 0 full false) ∷ dat 11 ∷ col 13 (Nocop 3) ∷ col 17 (Nocop 3) ∷ [])
    -- the record after the bad one is not looked at
    ∷ (row 4 (Prer 0) ∷ row 11 (Prer 9) ∷ dat 12 ∷ [])
    ∷ []

pub worked : map found lists
    ≡ ((2 ∷ [])
    ∷ (1 ∷ 10 ∷ 0 ∷ 0 ∷ [])
    ∷ (2 ∷ 9 ∷ 2 ∷ 0 ∷ 2 ∷ [])
    ∷ (1 ∷ 15 ∷ 1 ∷ 0 ∷ 1 ∷ [])
    ∷ (3 ∷ 2 ∷ 2 ∷ 0 ∷ 2 ∷ [])
    ∷ (4 ∷ 4 ∷ 1 ∷ 0 ∷ 1 ∷ [])
    ∷ (4 ∷ 4 ∷ 0 ∷ 0 ∷ [])
    ∷ (4 ∷ 15 ∷ 0 ∷ 0 ∷ [])
    ∷ (4 ∷ 16 ∷ 4 ∷ 0 ∷ 4 ∷ [])
    ∷ (1 ∷ 8 ∷ 0 ∷ 0 ∷ [])
    ∷ [])
unfolding set_h starts found lists set_of run_of in_runs context_of row_traits col_traits traits instant is_packet bank_by bank_after is_closed is_open leaving loads waiting_next waiting_after deeds events retire_traits implied_traits keeps bank_count longest_delay due_after distances rule_of rules rule1 rule4 rule9 rule12 rule14 rule15 rule16 rule17 lowest lowest_rule first_broken all_up_to first_false still_breaks last_true shortest_start
worked = refl

-- The rules that ask a distance from an earlier deed to a later one, as one table (document 01, "Rules over every earlier and
-- later record").
-- Assumes nothing.
use Rattle.std.specs.Prelude.{ℕ, ◌+◌, ◌-◌, Bool, true, not, ◌&&◌, ◌||◌, List, [], ◌∷◌, eqb, Option, None, Some}
use Rattle.num.specs.Search.{all_up_to}
use Rattle.settings.specs.declared.Settings.{Settings}
use Rattle.spec_rules.specs.Neighbour.{Context, near, bank_count}
use Rattle.spec_rules.specs.Packets.{Traits, on_pins}
use Rattle.spec_rules.specs.History.{Deed, Event, only, is_implied, over, keeps}

-- what a deed is to a distance: any packet, a ROW packet, a COL packet; an ACT, where REFA counts as one, and an ACT alone; a PRER or
-- REFP; an RD, a WR, a retire; an implied PRER
pub data Kind : Type 0 where
  packet : Kind
  ROW : Kind
  COL : Kind
  ACT : Kind
  only_act : Kind
  PRER : Kind
  RD : Kind
  WR : Kind
  retire : Kind
  implied : Kind

-- the bank of a deed of this kind; a packet, a ROW and a COL packet count as of bank 0, for no distance between them asks for banks
abbrev pub bank_as : Kind → Traits → Option ℕ
bank_as packet k = only (on_pins k) (Some 0)
bank_as ROW k = only k.row (Some 0)
bank_as COL k = only k.col (Some 0)
bank_as ACT k = k.opens
bank_as only_act k = k.acts
bank_as PRER k = k.precharges
bank_as RD k = k.reads
bank_as WR k = k.writes
bank_as retire k = k.retires
bank_as implied k = only (is_implied k) (Some 0)

-- which banks the two deeds must have
pub data Banks : Type 0 where
  any : Banks
  same : Banks
  same_or_neighbour : Banks
  others : Banks
  same_neighbour_or_closed : Banks

-- whether some bank has it
abbrev pub some_bank : (ℕ → Bool) → Bool
some_bank p = not (all_up_to (λ x. not (p x)) bank_count)

-- bank b of the later deed, bank p of the earlier one e
abbrev pub within : Context → Banks → Event → ℕ → ℕ → Bool
within cx any e b p = true
within cx same e b p = eqb p b
-- "same or neighbour", and else
within cx same_or_neighbour e b p = near cx b p
within cx others e b p = not (near cx b p)
-- "same or neighbour, and [..] a neighbour of any bank which that PRER closed"
within cx same_neighbour_or_closed e b p = near cx b p || some_bank (λ x. cx.nbr b x && e.closed x)

pub record Distance : Type 0 where
  pub rule : ℕ
  pub earlier : Kind
  pub later : Kind
  pub banks : Banks
  pub cycles : ℕ

infix 20 rule◌from◌to◌for◌is◌
abbrev pub rule◌from◌to◌for◌is◌ : ℕ → Kind → Kind → Banks → ℕ → Distance
rule n from a to b for c is d = record { rule = n; earlier = a; later = b; banks = c; cycles = d }

-- "In 5 to 8 REFA counts as ACT, REFP as PRER; so too in 13 and 14."
unfoldable pub distances : Settings → List Distance
distances s =
    -- "1. ROW and COL instants, both kinds together in list order, never fall"
    (rule 1 from packet to packet for any is 0)
    -- "2. ROW to ROW: 4."
    ∷ (rule 2 from ROW to ROW for any is 4)
    -- "3. COL to COL: tCC."
    ∷ (rule 3 from COL to COL for any is s.cc)
    -- "5. ACT to ACT: tRC for same or neighbour, else tRR."
    ∷ (rule 5 from ACT to ACT for same_or_neighbour is s.rc)
    ∷ (rule 5 from ACT to ACT for others is s.rr)
    -- "6. ACT to PRER, same or neighbour: tRAS."
    ∷ (rule 6 from ACT to PRER for same_or_neighbour is s.ras)
    -- "7. PRER to ACT: tRP for same or neighbour, and for a neighbour of any bank which that PRER closed."
    ∷ (rule 7 from PRER to ACT for same_neighbour_or_closed is s.rp)
    -- "8. PRER to PRER: tPP."
    ∷ (rule 8 from PRER to PRER for any is s.pp)
    -- "10. ACT to RD or retire, same bank: tRCD; to WR: the larger of 0 and tRCD − tRTR (House)."
    ∷ (rule 10 from only_act to RD for same is s.rcd)
    ∷ (rule 10 from only_act to retire for same is s.rcd)
    ∷ (rule 10 from only_act to WR for same is s.rcd - s.rtr)
    -- "11. RD to WR: tCC + tCAC − tCWD."
    ∷ (rule 11 from RD to WR for any is s.cc + s.cac - s.cwd)
    -- "13. To PRER, same or neighbour: RD + tRDP, retire + tRTP."
    ∷ (rule 13 from RD to PRER for same_or_neighbour is s.rdp)
    ∷ (rule 13 from retire to PRER for same_or_neighbour is s.rtp)
    -- "Rule 17 (House): [..] no ROW packet comes before an implied PRER still due."
    ∷ (rule 17 from implied to ROW for any is 0)
    ∷ []

-- ---- what the table says

-- the distance that a line of the table asks from an earlier deed to a later one, or none
abbrev pub asked : Context → Distance → Traits → Event → Option ℕ
asked cx d k e =
    over (bank_as d.later k) (λ b. over (bank_as d.earlier e.traits) (λ p. only (within cx d.banks e b p) (Some d.cycles)))

module _ {A : Type 0} where
  -- a test of all in a list
  abbrev pub each : (A → Bool) → List A → Bool
  each test [] = true
  each test (x ∷ l) = test x && each test l

-- a test of all lines of rule n
abbrev pub of_rule : ℕ → (Distance → Bool) → List Distance → Bool
of_rule n test l = each (λ d. not (eqb d.rule n) || test d) l

-- the distances of rule n hold: from every earlier event to each of these deeds
abbrev pub holds : Context → List Event → ℕ → List Deed → Bool
holds cx h n l = of_rule n (λ d. each (λ x. keeps (asked cx d x.traits) x.at h) l) (distances cx.settings)

-- One step after another: the records of the second come after those of the first, and its planner goes by that of the first alone.
-- Assumes nothing.
use Prim.Native.Nat.{ℕ, zero, suc, ◌+◌, ◌*◌, ◌≤◌}
use mathlib.Core.Path.{◌≡◌, refl, sym, ap, ap₂, ◌∙◌}
use mathlib.Core.Bool.{Bool, true, false, not, ◌&&◌}
use mathlib.Core.List.{List, [], ◌∷◌, ◌++◌, append-nil, append_assoc}
use native.Mathlib.Omega.{arith}
use lib.ListN.{length, length-append}
use Rattle.num.specs.Bytes.{splice, bytes}
use Rattle.num.proofs.SpliceLaws.{splice-more, splice-none, length-splice}
use Rattle.num.proofs.ByteLaws.{length-bytes}
use Rattle.settings.specs.declared.Settings.{Settings}
use Rattle.packet.specs.declared.RowPacket.TheVariants.{Prer}
use Rattle.packet.specs.declared.ColPacket.TheVariants.{Nocop, Wr}
use Rattle.record.specs.declared.Dualoct.{Dualoct}
use Rattle.record.specs.declared.Place.{Place}
use Rattle.record.specs.declared.Record.{Record}
use Rattle.record.specs.declared.Record.TheVariants.{RowAt, ColAt, DataOf}
use Rattle.record.specs.Record.{record_fields, record_bytes}
use Rattle.spec_rules.specs.declared.Write.{Write}
use Rattle.spec_rules.specs.Neighbour.{Context, near}
use Rattle.spec_rules.specs.History.{is_closed, any_write}
use Rattle.spec_plan.specs.declared.PlannerState.{PlannerState}
use Rattle.spec_plan.specs.Plan.{Draft, row_packet, col_packet, when, waiting, state_in, sent, flushed, flushed_while, closed, closed_up_to, loaded, written}
use Rattle.spec_plan.specs.Call.{list_bytes}
use Rattle.spec_plan.specs.PlannerBytes.{planner_bytes, planner_in}
use Rattle.plan_bytes.specs.Form.Numbers.{word}
use Rattle.plan_bytes.specs.Form.Drawn.{bare, drafted, Fits, Drawn}

-- ---- steps that only add records

-- earlier records before those of a draft
abbrev pub added : List Record → Draft → Draft
added l d = record { planner = d.planner; records = l ++ d.records }

abbrev pub Blind : (Draft → Draft) → Type 0
Blind g = (l : List Record) (d : Draft) → g (added l d) ≡ added l (g d)

when-blind : (g : Draft → Draft) → Blind g → (b : Bool) → Blind (when b g)
when-blind g h true l d = h l d
when-blind g h false l d = refl

module _ (cx : Context) where
  pub sent-blind : (r : Record) → Blind (sent cx r)
  unfolding sent
  sent-blind r l d = rw (append_assoc l d.records)

  pub flushed-blind : Blind (flushed cx)
  unfolding flushed
  flushed-blind l d = sent-blind (col_packet (Nocop 0xFFFF)) l d

  -- NOCOP where the waiting writes pass a test
  pub again-blind : (test : List Write → Bool) → Blind (λ d. when (test (waiting d)) (flushed cx) d)
  again-blind test l d = when-blind (flushed cx) flushed-blind (test (waiting d)) l d

  pub while-blind : (test : List Write → Bool) → Blind (flushed_while cx test)
  unfolding flushed_while
  while-blind test l d =
      let z : Draft = when (test (waiting d)) (flushed cx) d in
      ap (λ (y : Draft). when (test (waiting y)) (flushed cx) y) (again-blind test l d) ∙ again-blind test l z

  pub closed-blind : (x : ℕ) → Blind (closed cx x)
  unfolding closed
  closed-blind x l d =
      let test : List Write → Bool = any_write (λ w. near cx x w.bank) in
      ap (sent cx (row_packet (Prer x))) (while-blind test l d) ∙ sent-blind (row_packet (Prer x)) l (flushed_while cx test d)

  pub up-to-blind : (pick : ℕ → Bool) (n : ℕ) → Blind (closed_up_to cx pick n)
  unfolding closed_up_to
  up-to-blind pick zero l d = refl
  up-to-blind pick (suc n) l d =
      let z : Draft = closed_up_to cx pick n d in
      rw (up-to-blind pick n l d) (when-blind (closed cx n) (closed-blind n) (pick n && not (is_closed (state_in z n))) l z)

  pub written-blind : (close : Bool) (at : Place) (mask : ℕ) (bytes : Dualoct) → Blind (written cx close at mask bytes)
  unfolding written loaded
  written-blind close at mask bytes l d =
      let r : Record = col_packet (Wr at.bank at.column 0xFFFF close) in
      rw (sent-blind r l d) (rw (append_assoc l (sent cx r d).records))

-- a draft is its records before those of its planner alone
bare-added : (d : Draft) → d ≡ added d.records (bare d.planner)
bare-added d = rw (append-nil d.records)

pub blind-is : (g : Draft → Draft) → Blind g → (d : Draft) → g d ≡ added d.records (g (bare d.planner))
blind-is g h d = ap g (bare-added d) ∙ h d.records (bare d.planner)

-- ---- the bytes of records

pub length_fields : (at kind word dqa dqb : ℕ) → length (record_fields at kind word dqa dqb) ≡ 32
unfolding record_fields
length_fields at kind word dqa dqb = simp (length-append, length-bytes)

-- the record of one packet
pub one-record : (s : Settings) (r : Record) → list_bytes s (r ∷ []) ≡ record_bytes s r
unfolding list_bytes
one-record s r = append-nil (record_bytes s r)

length-record : (s : Settings) (r : Record) → length (record_bytes s r) ≡ 32
unfolding record_bytes
length-record s (RowAt t p) = length_fields _ _ _ _ _
length-record s (ColAt t p) = length_fields _ _ _ _ _
length-record s (DataOf t d) = length_fields _ _ _ _ _

length-list : (s : Settings) (l : List Record) → length (list_bytes s l) ≡ 32 * length l
unfolding list_bytes
length-list s [] = refl
length-list s (r ∷ l) = rw (length-append, length-record, length-list s l) (omega arith)

list-append : (s : Settings) (l m : List Record) → list_bytes s (l ++ m) ≡ list_bytes s l ++ list_bytes s m
unfolding list_bytes
list-append s [] m = refl
list-append s (r ∷ l) m = rw (list-append s l m) (sym (append_assoc (record_bytes s r) (list_bytes s l) (list_bytes s m)))

-- ---- nothing yet

pub drawn-none : (s : Settings) (b room : List ℕ) (at : ℕ) → planner_bytes (planner_in b) ≡ b → Drawn s (drafted b) room at b room at
unfolding list_bytes
drawn-none s b room at e = record { planner = sym e; records = splice-none room at; next = omega arith }

-- ---- a step after a draft

blind-grows : (g : Draft → Draft) → Blind g → (d : Draft) → length d.records ≤ length (g d).records
blind-grows g h d = omega (arith, ap (λ (x : Draft). length x.records) (blind-is g h d), length-append d.records (g (bare d.planner)).records)

-- where there is room for both, there is for the first
pub fits-first : (g : Draft → Draft) → Blind g → (d : Draft) (room : List ℕ) (at : ℕ) → Fits (g d) room at → Fits d room at
fits-first g h d room at f = omega (arith, blind-grows g h d)

-- the room keeps its length
pub drawn-room : (s : Settings) (d : Draft) (room : List ℕ) (at : ℕ) (b1 room1 : List ℕ) (to1 : ℕ) → Drawn s d room at b1 room1 to1 → Fits d room at → length room1 ≡ length room
drawn-room s d room at b1 room1 to1 k f = ap length k.records ∙ length-splice room at (list_bytes s d.records) (omega (arith, length-list s d.records))

module _ (s : Settings) (g : Draft → Draft) (blind : Blind g) (d : Draft) (room : List ℕ) (at : ℕ) (b1 room1 : List ℕ) (to1 : ℕ) (k : Drawn s d room at b1 room1 to1) (back : planner_in b1 ≡ d.planner) (fits : Fits (g d) room at) where
  more : g d ≡ added d.records (g (drafted b1))
  more = rw back (blind-is g blind d)

  count : length (g d).records ≡ length d.records + length (g (drafted b1)).records
  count = ap (λ (x : Draft). length x.records) more ∙ length-append d.records (g (drafted b1)).records

  first : Fits d room at
  first = fits-first g blind d room at fits

  -- there is room for the second
  pub fits-then : Fits (g (drafted b1)) room1 to1
  fits-then = omega (arith, count, k.next, drawn-room s d room at b1 room1 to1 k first)

  pub drawn-then : (b2 room2 : List ℕ) (to2 : ℕ) → Drawn s (g (drafted b1)) room1 to1 b2 room2 to2 → Drawn s (g d) room at b2 room2 to2
  drawn-then b2 room2 to2 m =
      let l1 : List Record = d.records in
      let l2 : List Record = (g (drafted b1)).records in
      record {
        planner = m.planner ∙ sym (ap (λ (x : Draft). planner_bytes x.planner) more);
        records = m.records
            ∙ ap₂ (λ (r : List ℕ) (t : ℕ). splice r t (list_bytes s l2)) k.records k.next
            ∙ splice-more room at (list_bytes s l1) (list_bytes s l2) (32 * length l1) (length-list s l1) first
            ∙ ap (splice room at) (sym (list-append s l1 l2))
            ∙ sym (ap (λ (x : Draft). splice room at (list_bytes s x.records)) more);
        next = omega (arith, m.next, k.next, count);
      }

-- one record
pub one-sent : (cx : Context) (r : Record) (p : PlannerState) → length (sent cx r (bare p)).records ≡ 1
unfolding sent
one-sent cx r p = refl

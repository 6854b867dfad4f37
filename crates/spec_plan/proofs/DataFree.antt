-- "Data bytes never alter an instant or a packet word." (document 01, "Planner"): two lists of calls that differ in data bytes of
-- write requests alone leave the same planner and make the same records, but for the data in them.
-- Assumes nothing.
use Rattle.std.specs.Prelude.{Err, Ok, Result}
use Prim.Native.Nat.{ℕ, ◌+◌, ◌≤◌, ◌<◌}
use mathlib.Core.Path.{◌≡◌, refl, sym, ap, ap₂, ◌∙◌}
use mathlib.Core.Bool.{Bool, true, false, ◌||◌, cond}
use mathlib.Core.List.{List, [], ◌∷◌, ◌++◌, map, map-append}
use mathlib.Core.Logic.{◌⊎◌, ⊎_elim}
use lib.Dec.{eqb, leb, ltb}
use lib.ListN.{length, length-map, get_or, take}
use lib.Seq.{get_or-take}
use borrow.Author.Tests.{leb-true, leb-false, lt-leb, ne_eqb}
use native.Mathlib.Omega.{arith}
use Rattle.num.specs.Bytes.{number, part}
use Rattle.num.proofs.PartLaws.{part-part}
use Rattle.packet.specs.declared.ColPacket.TheVariants.{Nocop}
use Rattle.record.specs.declared.Dualoct.{Dualoct}
use Rattle.record.specs.declared.Record.{Record}
use Rattle.record.specs.declared.Record.TheVariants.{RowAt, ColAt, DataOf}
use Rattle.record.specs.declared.Place.{Place}
use Rattle.record.specs.declared.Refusal.TheVariants.{Kind, Spare, Bank, Row, Column, Length}
use Rattle.record.specs.declared.Request.{Request}
use Rattle.record.specs.declared.Request.TheVariants.{Read, Write as WriteTo, Refresh as RefreshBank, Wait, Flush, Close}
use Rattle.record.specs.Request.{kind_of, uses_byte, spare_right, place_of, placed, request_of, request_read}
use Rattle.spec_rules.specs.Neighbour.{Context}
use Rattle.spec_rules.specs.Packets.{traits, instant}
use Rattle.spec_rules.specs.Rules.{longest_delay}
use Rattle.spec_rules.specs.declared.Write.{Write}
use Rattle.spec_rules.specs.declared.Channel.{Channel}
use Rattle.spec_rules.specs.History.{leaving, any_write}
use Rattle.spec_rules.specs.Channel.{waiting_of, after_data, after}
use Rattle.spec_rules.proofs.Bools.{not-both, all-ext}
use Rattle.spec_plan.specs.declared.PlannerState.{PlannerState}
use Rattle.spec_plan.specs.Plan.{Draft, col_packet, when, waiting, placed_in, sent, flushed, flushed_while, reached, loaded, written, planned_write, steps_of, planned}
use Rattle.spec_plan.specs.Call.{in_time, timely, unretired, outcome_of, outcome_by, plan_outcome, is_made, draft_by, plan_next, plan_records}
use Rattle.spec_plan.specs.Runs.{Call, planner_after, listed}
use Rattle.record.specs.declared.Refusal.{Refusal}

-- ---- without data

abbrev blank : Dualoct
blank = record { dqa = 0; dqb = 0 }

-- a record without its data: instants and packet words stay
unfoldable pub without_data : Record → Record
without_data (RowAt t p) = RowAt t p
without_data (ColAt t p) = ColAt t p
without_data (DataOf t d) = DataOf t blank

request_without : Request → Request
request_without (Read at close) = Read at close
request_without (WriteTo at mask d close) = WriteTo at mask blank close
request_without RefreshBank = RefreshBank
request_without (Wait n) = Wait n
request_without Flush = Flush
request_without Close = Close

read_without : Result Request Refusal → Result Request Refusal
read_without (Err why) = Err why
read_without (Ok q) = Ok (request_without q)

-- ---- requests alike

-- the kind of a write, or of a write and close
abbrev write_kind : Bool → ℕ
write_kind close = cond close 7 1

-- the same request, or two writes (or write-closes) of one length that are alike up to byte 7: "8–23 data"
pub record AlikeWrites (a b : List ℕ) : Type 0 where
  pub close : Bool
  pub kind : kind_of a ≡ cond close 7 1
  pub size : length a ≡ length b
  pub head : take 8 a ≡ take 8 b

abbrev pub Alike : List ℕ → List ℕ → Type 0
Alike a b = (a ≡ b) ⊎ AlikeWrites a b

module _ (cx : Context) (a b : List ℕ) (close : Bool) (k : kind_of a ≡ write_kind close) (n : length a ≡ length b) (e : take 8 a ≡ take 8 b) where
  byte-same : (i : ℕ) → i < 8 → get_or a i 0 ≡ get_or b i 0
  byte-same i m = sym (get_or-take 8 a i 0 m) ∙ ap (λ (l : List ℕ). get_or l i 0) e ∙ get_or-take 8 b i 0 m

  head-part : (at n : ℕ) → at + n ≤ 8 → part a (0 + at) n ≡ part b (0 + at) n
  head-part at n m = sym (part-part a 0 8 at n m) ∙ ap (λ (l : List ℕ). part l at n) e ∙ part-part b 0 8 at n m

  kind-same : kind_of b ≡ write_kind close
  kind-same = sym (byte-same 0 (omega arith)) ∙ k

  -- a write uses every byte from 8 on
  uses-data : (i : ℕ) → 8 ≤ i → uses_byte (write_kind close) i ≡ true
  unfolding uses_byte
  uses-data i m = rw (ne_eqb i 0 (λ q. omega arith), lt-leb i 4 (omega arith), ne_eqb i 5 (λ q. omega arith), lt-leb i 7 (omega arith)) (go close (leb i 11))
    where
      go : (x c : Bool) → cond c ((eqb (write_kind x) 1 || eqb (write_kind x) 7) || eqb (write_kind x) 3) (eqb (write_kind x) 1 || eqb (write_kind x) 7) ≡ true
      go true true = refl
      go true false = refl
      go false true = refl
      go false false = refl

  spare-same : spare_right a ≡ spare_right b
  unfolding spare_right
  spare-same = rw (k, kind-same) (all-ext (λ i. uses_byte (write_kind close) i || eqb (get_or a i 0) 0) (λ i. uses_byte (write_kind close) i || eqb (get_or b i 0) 0) 24 (λ i m. go i (leb 8 i) refl))
    where
      go : (i : ℕ) (c : Bool) → leb 8 i ≡ c → uses_byte (write_kind close) i || eqb (get_or a i 0) 0 ≡ uses_byte (write_kind close) i || eqb (get_or b i 0) 0
      go i true h = rw (uses-data i (leb-true 8 i h))
      go i false h = rw (byte-same i (leb-false 8 i h))

  placed-without : (at : Place) (mask : ℕ) (d : Dualoct) → read_without (placed cx.settings at (WriteTo at mask d close)) ≡ placed cx.settings at (WriteTo at mask blank close)
  unfolding placed read_without request_without
  placed-without at mask d = go (ltb at.bank 32) (ltb at.row cx.settings.rows) (ltb at.column cx.settings.columns)
    where
      go : (x y z : Bool)
          → read_without (cond x (cond y (cond z (Ok (WriteTo at mask d close)) (Err Column)) (Err Row)) (Err Bank))
          ≡ cond x (cond y (cond z (Ok (WriteTo at mask blank close)) (Err Column)) (Err Row)) (Err Bank)
      go true true true = refl
      go true true false = refl
      go true false z = refl
      go false y z = refl

  abbrev data_of : List ℕ → Dualoct
  data_of b = record { dqa = number (part b 8 8); dqb = number (part b 16 8) }

  -- what the bytes of a write say
  abbrev said : List ℕ → Result Request Refusal
  said b = placed cx.settings (place_of b) (WriteTo (place_of b) (number (part b 6 2)) (data_of b) close)

  said_of : (l : List ℕ) → kind_of l ≡ write_kind close → request_of cx.settings l ≡ said l
  unfolding request_of
  said_of l h = rw h (go close)
    where
      w : Bool → Result Request Refusal
      w x = placed cx.settings (place_of l) (WriteTo (place_of l) (number (part l 6 2)) (data_of l) x)

      go : (x : Bool)
          → cond (eqb (write_kind x) 0) (placed cx.settings (place_of l) (Read (place_of l) false))
          (cond (eqb (write_kind x) 1) (w false)
          (cond (eqb (write_kind x) 2) (Ok RefreshBank)
          (cond (eqb (write_kind x) 3) (Ok (Wait (number (part l 8 4))))
          (cond (eqb (write_kind x) 4) (Ok Flush)
          (cond (eqb (write_kind x) 5) (Ok Close)
          (cond (eqb (write_kind x) 6) (placed cx.settings (place_of l) (Read (place_of l) true)) (w true))))))) ≡ w x
      go true = refl
      go false = refl

  of-same : read_without (request_of cx.settings a) ≡ read_without (request_of cx.settings b)
  of-same =
      let at : place_of a ≡ place_of b = rw (byte-same 1 (omega arith), byte-same 4 (omega arith), head-part 2 2 (omega arith)) in
      let mask : number (part a 6 2) ≡ number (part b 6 2) = rw (head-part 6 2 (omega arith)) in
      ap read_without (said_of a k)
      ∙ placed-without (place_of a) (number (part a 6 2)) (data_of a)
      ∙ ap₂ (λ (p : Place) (m : ℕ). placed cx.settings p (WriteTo p m blank close)) at mask
      ∙ sym (placed-without (place_of b) (number (part b 6 2)) (data_of b))
      ∙ sym (ap read_without (said_of b kind-same))

  read_same : read_without (request_read cx.settings a) ≡ read_without (request_read cx.settings b)
  unfolding request_read read_without
  read_same = rw (n, k, kind-same, spare-same) (go (eqb (length b) 24) (leb (write_kind close) 7) (spare_right b))
    where
      go : (x y z : Bool)
          → read_without (cond x (cond y (cond z (request_of cx.settings a) (Err Spare)) (Err Kind)) (Err Length))
          ≡ read_without (cond x (cond y (cond z (request_of cx.settings b) (Err Spare)) (Err Kind)) (Err Length))
      go true true true = of-same
      go true true false = refl
      go true false z = refl
      go false y z = refl

alike_read : (cx : Context) (a b : List ℕ) → Alike a b → read_without (request_read cx.settings a) ≡ read_without (request_read cx.settings b)
alike_read cx a b h = ⊎_elim (λ (e : a ≡ b). ap (λ (l : List ℕ). read_without (request_read cx.settings l)) e) (λ (h : AlikeWrites a b). read_same cx a b h.close h.kind h.size h.head) h

-- ---- a call does not go by the data

in-time-without : (cx : Context) (ch : Channel) (l : List Record) → in_time cx ch (map without_data l) ≡ in_time cx ch l
unfolding in_time without_data instant longest_delay after leaving traits
in-time-without cx ch [] = refl
in-time-without cx ch (RowAt t p ∷ l) = rw (in-time-without cx (after cx ch (RowAt t p)) l)
in-time-without cx ch (ColAt t p ∷ l) = rw (in-time-without cx (after cx ch (ColAt t p)) l)
in-time-without cx ch (DataOf t d ∷ l) = rw (in-time-without cx (after_data ch) l)

-- two drafts that differ in data alone
AlikeDrafts : Draft → Draft → Type 0
AlikeDrafts d e = (d.planner ≡ e.planner) × (map without_data d.records ≡ map without_data e.records)

outcome-alike : (cx : Context) (p : PlannerState) (d e : Draft) (room : ℕ) → AlikeDrafts d e → outcome_of cx p d room ≡ outcome_of cx p e room
unfolding outcome_of timely AlikeDrafts
outcome-alike cx p d e room h =
    let n : length d.records ≡ length e.records = sym (length-map d.records without_data) ∙ ap length h.1 ∙ length-map e.records without_data in
    let t : in_time cx p.channel d.records ≡ in_time cx p.channel e.records = sym (in-time-without cx p.channel d.records) ∙ ap (in_time cx p.channel) h.1 ∙ in-time-without cx p.channel e.records in
    rw (h.0, n, t)

-- a step that goes by the planner alone keeps them alike
Even : (Draft → Draft) → Type 0
Even step = (d e : Draft) → AlikeDrafts d e → AlikeDrafts (step d) (step e)

alike-join : (d e : Draft) (p : PlannerState) (r : Record) → AlikeDrafts d e → AlikeDrafts (record { planner = p; records = d.records ++ (r ∷ []) }) (record { planner = p; records = e.records ++ (r ∷ []) })
unfolding AlikeDrafts
alike-join d e p r h = (refl, map-append without_data d.records (r ∷ []) ∙ ap (λ (l : List Record). l ++ (without_data r ∷ [])) h.1 ∙ sym (map-append without_data e.records (r ∷ [])))

sent-even : (cx : Context) (r : Record) → Even (sent cx r)
unfolding Even sent AlikeDrafts
sent-even cx r d e h = rw h.0 (alike-join d e (sent cx r e).planner (placed_in cx e.planner r) h)

when-even : (b c : Bool) (step : Draft → Draft) (d e : Draft) → b ≡ c → AlikeDrafts d e → AlikeDrafts (step d) (step e) → AlikeDrafts (when b step d) (when c step e)
when-even true true step d e q h k = k
when-even true false step d e q h k = not-both false (sym q) refl
when-even false true step d e q h k = not-both false q refl
when-even false false step d e q h k = h

while-even : (cx : Context) (test : List Write → Bool) → Even (flushed_while cx test)
unfolding Even flushed_while flushed AlikeDrafts
while-even cx test d e h =
    let z : Draft = when (test (waiting d)) (flushed cx) d in
    let y : Draft = when (test (waiting e)) (flushed cx) e in
    let k : AlikeDrafts z y = when-even (test (waiting d)) (test (waiting e)) (flushed cx) d e (same d e h) h (sent-even cx (col_packet (Nocop 0xFFFF)) d e h) in
    when-even (test (waiting z)) (test (waiting y)) (flushed cx) z y (same z y k) k (sent-even cx (col_packet (Nocop 0xFFFF)) z y k)
  where
    same : (d e : Draft) → AlikeDrafts d e → test (waiting d) ≡ test (waiting e)
    same d e h = ap (λ (p : PlannerState). test (waiting_of p.channel.buffer)) h.0

module _ (cx : Context) (p : PlannerState) where
  -- the data of a write, and the NOCOPs after it
  write-alike : (at : Place) (mask : ℕ) (bytes : Dualoct) (close : Bool) →
      let d : Draft = record { planner = p; records = [] } in AlikeDrafts (planned_write cx close at mask bytes d) (planned_write cx close at mask blank d)
  unfolding planned_write Even AlikeDrafts written loaded after without_data
  write-alike at mask bytes close =
      let d : Draft = reached cx at.bank at.row (record { planner = p; records = [] }) in
      while-even cx (any_write (λ w. w.close)) (written cx close at mask bytes d) (written cx close at mask blank d) (data-apart d)
    where
      data-apart : (d : Draft) → AlikeDrafts (written cx close at mask bytes d) (written cx close at mask blank d)
      data-apart d = (refl, simp map-append)

  -- and the rest of its draft
  drafts-alike : (x : Result Request Refusal) → AlikeDrafts (draft_by cx p x) (draft_by cx p (read_without x))
  unfolding AlikeDrafts draft_by read_without request_without planned steps_of
  drafts-alike (Err why) = (refl, refl)
  drafts-alike (Ok (Read at close)) = (refl, refl)
  drafts-alike (Ok (WriteTo at mask d close)) = write-alike at mask d close
  drafts-alike (Ok RefreshBank) = (refl, refl)
  drafts-alike (Ok (Wait n)) = (refl, refl)
  drafts-alike (Ok Flush) = (refl, refl)
  drafts-alike (Ok Close) = (refl, refl)

  unretired-alike : (q : Request) → unretired q p ≡ unretired (request_without q) p
  unfolding unretired request_without
  unretired-alike (Read at close) = refl
  unretired-alike (WriteTo at mask d close) = refl
  unretired-alike RefreshBank = refl
  unretired-alike (Wait n) = refl
  unretired-alike Flush = refl
  unretired-alike Close = refl

  outcomes-alike : (x : Result Request Refusal) (room : ℕ) → outcome_by cx p x room ≡ outcome_by cx p (read_without x) room
  unfolding outcome_by read_without draft_by
  outcomes-alike (Err why) room = refl
  outcomes-alike (Ok q) room = rw (unretired-alike q, outcome-alike cx p (planned cx q p) (planned cx (request_without q) p) room (drafts-alike (Ok q)))

  -- what a call makes whose request says this
  made_by : Result Request Refusal → ℕ → Draft
  made_by x room =
      let b : Bool = is_made (outcome_by cx p x room) in
      record { planner = cond b (draft_by cx p x).planner p; records = cond b (draft_by cx p x).records [] }

  made_alike : (x : Result Request Refusal) (room : ℕ) → AlikeDrafts (made_by x room) (made_by (read_without x) room)
  unfolding made_by AlikeDrafts
  made_alike x room = rw (outcomes-alike x room) (go (is_made (outcome_by cx p (read_without x) room)) (drafts-alike x))
    where
      d : Draft
      d = draft_by cx p x

      e : Draft
      e = draft_by cx p (read_without x)

      go : (b : Bool) → AlikeDrafts d e → AlikeDrafts (record { planner = cond b d.planner p; records = cond b d.records [] }) (record { planner = cond b e.planner p; records = cond b e.records [] })
      go true h = h
      go false h = (refl, refl)

  -- two calls whose requests are alike
  call-alike : (a b : List ℕ) (room : ℕ) → Alike a b
      → (plan_next cx p a room ≡ plan_next cx p b room) × (map without_data (plan_records cx p a room) ≡ map without_data (plan_records cx p b room))
  unfolding plan_next plan_records plan_outcome made_by AlikeDrafts
  call-alike a b room h =
      let x = made_alike (request_read cx.settings a) room in
      let y = made_alike (request_read cx.settings b) room in
      let same : made_by (read_without (request_read cx.settings a)) room ≡ made_by (read_without (request_read cx.settings b)) room = ap (λ (z : Result Request Refusal). made_by z room) (alike_read cx a b h) in
      (x.0 ∙ ap (λ (d : Draft). d.planner) same ∙ sym y.0, x.1 ∙ ap (λ (d : Draft). map without_data d.records) same ∙ sym y.1)

-- ---- whole lists of calls

-- as many calls, each with a request alike and the same room
abbrev pub AlikeCalls : List Call → List Call → Type 0
AlikeCalls [] [] = Unit {0}
AlikeCalls [] (e ∷ m) = ⊥
AlikeCalls (c ∷ l) [] = ⊥
AlikeCalls (c ∷ l) (e ∷ m) = Alike c.request e.request × (c.room ≡ e.room) × AlikeCalls l m

pub data-free : (cx : Context) (p : PlannerState) (l m : List Call) → AlikeCalls l m
    → (planner_after cx p l ≡ planner_after cx p m) × (map without_data (listed cx p l) ≡ map without_data (listed cx p m))
unfolding planner_after listed
data-free cx p [] [] h = (refl, refl)
data-free cx p [] (e ∷ m) h = absurd h
data-free cx p (c ∷ l) [] h = absurd h
data-free cx p (c ∷ l) (e ∷ m) h =
    let one = call-alike cx p c.request e.request c.room h.0 in
    let q : PlannerState = plan_next cx p c.request c.room in
    let next : q ≡ plan_next cx p e.request e.room = one.0 ∙ ap (plan_next cx p e.request) h.1 in
    let records : map without_data (plan_records cx p c.request c.room) ≡ map without_data (plan_records cx p e.request e.room) =
    one.1 ∙ ap (λ (n : ℕ). map without_data (plan_records cx p e.request n)) h.1 in
    let rest = data-free cx q l m h.2 in (
      rest.0 ∙ ap (λ (z : PlannerState). planner_after cx z m) next,
      map-append without_data (plan_records cx p c.request c.room) _
          ∙ ap₂ (λ (a b : List Record). a ++ b) records (rest.1 ∙ ap (λ (z : PlannerState). map without_data (listed cx z m)) next)
          ∙ sym (map-append without_data (plan_records cx p e.request e.room) _),
    )

-- No request makes more records than its kind and the core form allow (`spec_plan/specs/Most.antt`), and for each kind one makes so many.
-- Assumes nothing.
use Rattle.std.specs.Prelude.{Option, None, Some}
use Prim.Native.Nat.{ℕ, zero, suc, ◌+◌, ◌*◌, ◌≤◌}
use mathlib.Core.Path.{◌≡◌, refl}
use mathlib.Core.Bool.{Bool, true, false, not, ◌&&◌, cond, and-false}
use mathlib.Core.List.{List, [], ◌∷◌, map}
use lib.Dec.{ltb}
use lib.ListN.{length, length-append}
use native.Mathlib.Omega.{arith}
use Rattle.settings.specs.declared.Settings.{Settings}
use Rattle.num.specs.Bytes.{bytes, number}
use Rattle.num.specs.Search.{all_up_to}
use Rattle.settings.specs.Bench.{set_of}
use Rattle.packet.specs.declared.RowPacket.TheVariants.{Act, Prer, Refa, Refp}
use Rattle.packet.specs.declared.ColPacket.TheVariants.{Nocop, Rd}
use Rattle.record.specs.declared.Dualoct.{Dualoct}
use Rattle.record.specs.declared.Record.{Record}
use Rattle.record.specs.declared.Place.{Place}
use Rattle.record.specs.declared.Request.{Request}
use Rattle.record.specs.declared.Request.TheVariants.{Read, Write as WriteTo, Refresh as RefreshBank, Wait, Flush, Close}
use Rattle.record.specs.Request.{uses_byte, spare_right, placed, request_of, request_read, request_fields, request_bytes}
use Rattle.spec_rules.specs.declared.Write.{Write}
use Rattle.spec_rules.specs.declared.Buffer.{Buffer}
use Rattle.spec_rules.specs.declared.Buffer.TheVariants.{Empty, One, Two}
use Rattle.spec_rules.specs.Neighbour.{bank_count, Context, run_of, in_runs, near, context_of}
use Rattle.spec_rules.specs.Packets.{row_traits, col_traits, traits, retire_traits, implied_traits, instant, is_packet}
use Rattle.spec_rules.specs.History.{bank_by, is_closed, is_open, rest, left, queued, leaving, loads}
use Rattle.spec_rules.specs.Rules.{longest_delay}
use Rattle.spec_rules.specs.Channel.{fresh, waiting_of, buffer_of, bank_next, track_next, after_packet, track_retired, after_retire, track_implied, after_implied, after_data, after}
use Rattle.spec_rules.specs.Distances.{distances}
use Rattle.spec_rules.specs.Checks.{max_up_to, bounds}
use Rattle.spec_rules.specs.Earliest.{placed_at, under, earliest, least_from}
use Rattle.spec_rules.proofs.Bools.{not-both}
use Rattle.spec_plan.specs.declared.PlannerState.{PlannerState}
use Rattle.spec_plan.specs.Planner.{fresh_planner, planner_valid}
use Rattle.spec_plan.specs.Call.{in_time, timely, outcome_of, unretired, outcome_by, plan_outcome, is_made, draft_by, plan_next, plan_records}
use Rattle.spec_plan.specs.Most.{request_most, most_of, AtMost}
use Rattle.spec_plan.specs.Runs.{planner_after}
use Rattle.spec_plan.specs.Plan.{Draft, row_packet, col_packet, when, waiting, state_in, open_on, any_waits, any_closes, slot, leaver, sent, flushed, flushed_while, closed, loses, closed_up_to, cleared, delays, reached, planned_read, loaded, written, planned_write, turned, planned_refresh, planned_wait, planned_flush, planned_close, steps_of, planned}
use Rattle.spec_plan.proofs.SentLaws.{wr_packet, newer, written-waits, written-plain, when-either, Sized, Plain, sent-records, flushed-waiting, row-waiting, read-waiting, while-idle, while-keeps, saved, up-to-plain, up-to-shut}
use Rattle.spec_plan.proofs.Invariant.{Banked}
use Rattle.spec_plan.proofs.OpenBanks.{count, count-near, open-most}
use Rattle.spec_plan.proofs.CallLaws.{Rest, valid-rest}

-- ---- the records made, and one more for each write that waits

cost : Draft → ℕ
cost d = length d.records + length (waiting d)

at_most_two : (b : Buffer) → length (waiting_of b) ≤ 2
unfolding waiting_of
at_most_two Empty = omega arith
at_most_two (One x) = omega arith
at_most_two (Two x y) = omega arith

records-cost : (d : Draft) → length d.records ≤ cost d
unfolding cost
records-cost d = omega arith

start-cost : (p : PlannerState) → cost (record { planner = p; records = [] }) ≤ 2
unfolding cost
start-cost p = omega (arith, at_most_two p.channel.buffer)

none-cost : (p : PlannerState) → any_waits (waiting_of p.channel.buffer) ≡ false → cost (record { planner = p; records = [] }) ≤ 0
unfolding cost
none-cost p e = go (waiting_of p.channel.buffer) e
  where
    go : (ws : List Write) → any_waits ws ≡ false → 0 + length ws ≤ 0
    go [] e = omega arith
    go (w ∷ ws) e = not-both true refl e

module _ (cx : Context) where
  sent-length : (r : Record) (d : Draft) → length (sent cx r d).records ≡ length d.records + 1
  sent-length r d = rw (sent-records cx r d, length-append d.records) (omega arith)

  -- a packet that leaves the write costs one record
  sent-cost : (r : Record) (d : Draft) → waiting (sent cx r d) ≡ waiting d → cost (sent cx r d) ≡ cost d + 1
  unfolding cost
  sent-cost r d e = rw (e, sent-length r d) (omega arith)

  nocop-length : (d : Draft) → length (flushed cx d).records ≡ length d.records + 1
  unfolding flushed
  nocop-length d = sent-length (col_packet (Nocop 0xFFFF)) d

  -- NOCOP for a write that waits costs nothing
  flushed-cost : (d : Draft) → any_waits (waiting d) ≡ true → cost (flushed cx d) ≡ cost d
  unfolding cost
  flushed-cost d h = rw (flushed-waiting cx d, nocop-length d) (go (waiting d) h)
    where
      go : (ws : List Write) → any_waits ws ≡ true → length d.records + 1 + length (rest ws) ≡ length d.records + length ws
      go [] e = not-both false e refl
      go (w ∷ ws) e = omega arith

  while-cost : (test : List Write → Bool) → test [] ≡ false → (d : Draft) → cost (flushed_while cx test d) ≤ cost d
  while-cost test e d = while-keeps cx (λ z. cost z ≤ cost d) (λ z h k. omega (arith, flushed-cost z h, k)) test e d (omega arith)

  closed-cost : (x : ℕ) (d : Draft) → cost (closed cx x d) ≤ cost d + 1
  unfolding closed
  closed-cost x d =
      omega (
        arith,
        sent-cost (row_packet (Prer x)) (saved cx x d) (row-waiting cx (Prer x) (saved cx x d)),
        while-cost (loses cx x) refl d,
      )

  -- one record for each of the banks that were open at first
  up-to-cost : (pick : ℕ → Bool) (d : Draft) → Sized d → Plain cx d → (n : ℕ) → n ≤ bank_count
      → cost (closed_up_to cx pick n d) ≤ cost d + count (λ x. pick x && not (is_closed (state_in d x))) n
  unfolding closed_up_to count
  up-to-cost pick d k pl zero l = omega arith
  up-to-cost pick d k pl (suc n) l = go (pick n) (is_closed (state_in z n)) (is_closed (state_in d n)) refl refl (up-to-cost pick d k pl n (omega arith))
    where
      z : Draft
      z = closed_up_to cx pick n d

      rest : ℕ
      rest = count (λ x. pick x && not (is_closed (state_in d x))) n

      go : (a c e : Bool) → is_closed (state_in z n) ≡ c → is_closed (state_in d n) ≡ e → cost z ≤ cost d + rest
          → cost (when (a && not c) (closed cx n) z) ≤ cost d + (cond (a && not e) 1 0 + rest)
      go true false false ec ee ih = omega (arith, closed-cost n z)
      go true false true ec ee ih = not-both (is_closed (state_in z n)) (up-to-shut cx pick d k pl n n (omega arith) ee) ec
      go true true e ec ee ih = omega arith
      go false c e ec ee ih = omega arith

  -- WR or WRA and its D: one write joins, at most one leaves
  written-length : (close : Bool) (at : Place) (mask : ℕ) (bytes : Dualoct) (d : Draft) → length (written cx close at mask bytes d).records ≡ length d.records + 2
  unfolding written loaded sent
  written-length close at mask bytes d = simp length-append (omega arith)

  written-cost : (close : Bool) (at : Place) (mask : ℕ) (bytes : Dualoct) (d : Draft) → cost (written cx close at mask bytes d) ≤ cost d + 3
  unfolding cost
  written-cost close at mask bytes d =
      let o : Option Write = leaver cx d.planner (wr_packet close at) in
      let w : Write = newer cx close at d in
      rw (written-waits cx close at mask bytes d) (omega (arith, written-length close at mask bytes d, queued-few (left o (waiting d)) w, left-few o (waiting d)))
    where
      left-few : (o : Option Write) (ws : List Write) → length (left o ws) ≤ length ws
      left-few None ws = omega arith
      left-few (Some w) [] = omega arith
      left-few (Some w) (x ∷ ws) = omega arith

      queued-few : (ws : List Write) (w : Write) → length (queued ws w) ≤ length ws + 1
      queued-few [] w = omega arith
      queued-few (x ∷ ws) w = omega arith

-- ---- the requests

module _ (s : Settings) where
  abbrev cx : Context
  cx = context_of s

  module _ (d : Draft) (k : Sized d) (pl : Plain cx d) (bk : Banked cx (state_in d)) where
    cleared-cost : (b : ℕ) → cost (cleared cx b d) ≤ cost d + 2
    cleared-cost b = omega (arith, up-to-cost cx (near cx b) d k pl bank_count (omega arith), count-near s (state_in d) bk b)

    reached-cost : (b row : ℕ) → cost (reached cx b row d) ≤ cost d + 3
    unfolding reached
    reached-cost b row =
        let z : Draft = cleared cx b d in
        when-either (λ y. cost y ≤ cost d + 3) (not (open_on (state_in d b) row)) (λ d. sent cx (row_packet (Act b row)) (cleared cx b d)) d
        (λ _. omega (arith, sent-cost cx (row_packet (Act b row)) z (row-waiting cx (Act b row) z), cleared-cost b)) (λ _. omega arith)

    reached-plain : (b row : ℕ) → Plain cx (reached cx b row d)
    unfolding reached
    reached-plain b row =
        let z : Draft = cleared cx b d in
        when-either (Plain cx) (not (open_on (state_in d b) row)) (λ d. sent cx (row_packet (Act b row)) (cleared cx b d)) d
        (λ _. rw (row-waiting cx (Act b row) z) (up-to-plain cx (near cx b) d k pl bank_count)) (λ _. pl)

    closed_all : cost (planned_close cx d) ≤ cost d + request_most s.core
    unfolding planned_close
    closed_all = omega (arith, up-to-cost cx (λ x. true) d k pl bank_count (omega arith), open-most s (state_in d) bk)

  module _ (p : PlannerState) (v : Rest cx p) where
    abbrev start : Draft
    start = record { planner = p; records = [] }

    most-read : (close : Bool) (at : Place) → length (planned_read cx close at start).records ≤ 6
    unfolding planned_read
    most-read close at =
        let z : Draft = reached cx at.bank at.row start in
        let y : Draft = flushed_while cx (delays cx close at) z in
        let r : Record = col_packet (Rd at.bank at.column 0xFFFF close) in
        omega (
          arith,
          records-cost (sent cx r y),
          sent-cost cx r y (read-waiting cx at.bank at.column 0xFFFF close y),
          while-cost cx (delays cx close at) (and-false close) z,
          reached-cost start v.inv.size v.plain v.inv.banked at.bank at.row,
          start-cost p,
        )

    most-write : (close : Bool) (at : Place) (mask : ℕ) (bytes : Dualoct) → length (planned_write cx close at mask bytes start).records ≤ cond close 8 7
    unfolding planned_write
    most-write true at mask bytes =
        let z : Draft = reached cx at.bank at.row start in
        let y : Draft = written cx true at mask bytes z in
        omega (
          arith,
          records-cost (flushed_while cx any_closes y),
          while-cost cx any_closes refl y,
          written-cost cx true at mask bytes z,
          reached-cost start v.inv.size v.plain v.inv.banked at.bank at.row,
          start-cost p,
        )
    most-write false at mask bytes =
        let z : Draft = reached cx at.bank at.row start in
        let y : Draft = written cx false at mask bytes z in
        rw (while-idle cx any_closes y (written-plain cx false at mask bytes z (reached-plain start v.inv.size v.plain v.inv.banked at.bank at.row) refl))
        (omega (
          arith,
          written-length cx false at mask bytes z,
          records-cost z,
          reached-cost start v.inv.size v.plain v.inv.banked at.bank at.row,
          start-cost p,
        ))

    most-refresh : length (planned_refresh cx start).records ≤ 6
    unfolding planned_refresh turned
    most-refresh =
        let b : ℕ = p.refresh in
        let z : Draft = cleared cx b start in
        let y : Draft = sent cx (row_packet (Refa b)) z in
        omega (
          arith,
          records-cost (sent cx (row_packet (Refp b)) y),
          sent-cost cx (row_packet (Refp b)) y (row-waiting cx (Refp b) y),
          sent-cost cx (row_packet (Refa b)) z (row-waiting cx (Refa b) z),
          cleared-cost start v.inv.size v.plain v.inv.banked b,
          start-cost p,
        )

    most-kind : (q : Request) → unretired q p ≡ false → length (planned cx q p).records ≤ most_of s.core q
    unfolding planned steps_of planned_wait planned_flush most_of unretired
    most-kind (Read at close) u = most-read close at
    most-kind (WriteTo at mask bytes close) u = most-write close at mask bytes
    most-kind RefreshBank u = most-refresh
    most-kind (Wait cycles) u = omega arith
    most-kind Flush u = omega (arith, records-cost (flushed_while cx any_waits start), while-cost cx any_waits refl start, start-cost p)
    most-kind Close u = omega (arith, records-cost (planned_close cx start), closed_all start v.inv.size v.plain v.inv.banked, none-cost p u)

  most-all : (q : Request) → most_of s.core q ≤ request_most s.core
  unfolding most_of request_most
  most-all q = go q (ltb s.core 2) refl
    where
      within : (c : Bool) (n : ℕ) → n ≤ 8 → n ≤ cond c 16 32
      within true n l = omega arith
      within false n l = omega arith

      either : (close : Bool) → cond close 8 7 ≤ 8
      either true = omega arith
      either false = omega arith

      go : (q : Request) (c : Bool) → ltb s.core 2 ≡ c → most_of s.core q ≤ cond c 16 32
      go (Read at close) c e = within c 6 (omega arith)
      go (WriteTo at mask bytes close) c e = within c (cond close 8 7) (either close)
      go RefreshBank c e = within c 6 (omega arith)
      go (Wait cycles) c e = within c 0 (omega arith)
      go Flush c e = within c 2 (omega arith)
      go Close c e = rw e (omega arith)

  -- from a state that is not refused
  pub most : AtMost s
  most p v q u = (most-kind p (valid-rest cx p v) q u, most-all q)

  -- under any core form
  pub most-made : (p : PlannerState) → Rest cx p → (q : Request) → unretired q p ≡ false → length (planned cx q p).records ≤ 32
  unfolding request_most
  most-made p v q u = omega (arith, most-kind p v q u, most-all q, any (ltb s.core 2))
    where
      any : (b : Bool) → cond b 16 32 ≤ 32
      any true = omega arith
      any false = omega arith

  pub most-any : (p : PlannerState) → planner_valid cx p ≡ true → (q : Request) → unretired q p ≡ false → length (planned cx q p).records ≤ 32
  most-any p v q u = most-made p (valid-rest cx p v) q u

-- ---- requests that make so many

pub place : ℕ → Place
place bank = record { bank = bank; row = 0; column = 0 }

pub zero_data : Dualoct
zero_data = record { dqa = 0; dqb = 0 }

-- how many records a request makes under set H with a core form, after others from a fresh planner
pub made : ℕ → List Request → Request → ℕ
made core before q =
    let cx : Context = context_of (set_of 2 4 core) in
    length (plan_records cx (planner_after cx fresh_planner (map (λ (q : Request). record { request = request_bytes q; room = 1024 }) before)) (request_bytes q) 1024)

-- reads of n banks, the last of them bank 0, each so many before the one before it
pub reads : ℕ → ℕ → List Request
reads step zero = []
reads step (suc n) = Read (place (step * n)) false ∷ reads step n

-- two banks are open, and in each a write waits
pub waiting_in : ℕ → ℕ → List Request
waiting_in a b = Read (place a) false ∷ Read (place b) false ∷ WriteTo (place a) 0xFFFF zero_data false ∷ WriteTo (place b) 0xFFFF zero_data false ∷ []

abbrev pub Reached : ℕ → List Request → Request → Type 0
Reached core before q = made core before q ≡ most_of core q

-- close with sixteen banks open, or all; the others with a write waiting in the bank before and in the bank after
pub most-reached :
    Reached 0 (waiting_in 4 6) (Read (place 5) false) × (Reached 0 (waiting_in 4 6) (Read (place 5) true)
    × (Reached 0 (waiting_in 4 6) (WriteTo (place 5) 0xFFFF zero_data false) × (Reached 0 (waiting_in 4 6) (WriteTo (place 5) 0xFFFF zero_data true)
    × (Reached 0 (RefreshBank ∷ waiting_in 0 2) RefreshBank × (Reached 0 (waiting_in 4 6) Flush
    × (Reached 0 (reads 2 16) Close × (Reached 1 (reads 2 16) Close × Reached 2 (reads 1 32) Close)))))))
unfolding made reads waiting_in most_of request_most set_of place zero_data bytes number all_up_to uses_byte spare_right placed request_of request_read request_fields request_bytes run_of in_runs context_of row_traits col_traits traits instant is_packet bank_by is_closed is_open bank_count longest_delay leaving loads fresh waiting_of buffer_of bank_next track_next after_packet track_retired after_retire track_implied after_implied after_data after max_up_to bounds distances retire_traits implied_traits placed_at under earliest least_from fresh_planner slot sent flushed flushed_while closed closed_up_to reached planned_read loaded written planned_write turned planned_refresh planned_wait planned_flush planned_close steps_of planned in_time timely outcome_of unretired outcome_by plan_outcome is_made draft_by plan_next plan_records planner_after
most-reached = (refl, (refl, (refl, (refl, (refl, (refl, (refl, (refl, refl))))))))

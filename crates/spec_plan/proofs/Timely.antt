-- When refusal 7 has nothing against a request: its last instant is that of its own data, of the PRER that it implies, or now.
-- Assumes nothing.
use Rattle.std.specs.Prelude.{Option}
use Prim.Native.Nat.{ℕ, zero, suc, ◌+◌, ◌≤◌, max}
use mathlib.Core.Path.{◌≡◌, refl, ap, ◌∙◌}
use mathlib.Core.Bool.{Bool, true, false, not, ◌&&◌, cond}
use mathlib.Core.List.{List, [], ◌∷◌, ◌++◌}
use native.Mathlib.Omega.{arith}
use lib.Dec.{leb}
use Rattle.settings.specs.Instants.{horizon}
use Rattle.packet.specs.declared.RowPacket.{RowPacket}
use Rattle.packet.specs.declared.RowPacket.TheVariants.{Act, Prer, Refa, Refp}
use Rattle.packet.specs.declared.ColPacket.TheVariants.{Nocop, Rd}
use Rattle.record.specs.declared.Dualoct.{Dualoct}
use Rattle.record.specs.declared.Place.{Place}
use Rattle.record.specs.declared.Record.{Record}
use Rattle.record.specs.declared.Record.TheVariants.{DataOf}
use Rattle.record.specs.declared.Request.{Request}
use Rattle.record.specs.declared.Request.TheVariants.{Read, Write as WriteTo, Refresh as RefreshBank, Wait, Flush, Close}
use Rattle.spec_rules.specs.declared.Write.{Write}
use Rattle.spec_rules.specs.declared.Channel.{Channel}
use Rattle.spec_rules.specs.Neighbour.{bank_count, Context, near}
use Rattle.spec_rules.specs.Packets.{traits, instant}
use Rattle.spec_rules.specs.History.{is_closed, first, leaving, left, queued}
use Rattle.spec_rules.specs.Rules.{longest_delay, implied_delay}
use Rattle.spec_rules.specs.Channel.{waiting_of, leaving_of, after}
use Rattle.spec_rules.specs.Earliest.{placed_at}
use Rattle.spec_rules.proofs.Bools.{leb-max, neither}
use Rattle.spec_rules.proofs.EarliestLaws.{moved-instant, moved-delay}
use Rattle.spec_plan.specs.declared.PlannerState.{PlannerState}
use Rattle.spec_plan.specs.Plan.{Draft, row_packet, col_packet, when, waiting, state_in, open_on, any_waits, any_closes, carried, slot, leaver, placed_in, sent, flushed, flushed_while, loses, closed, closed_up_to, cleared, reached, delays, planned_read, loaded, written, planned_write, turned, planned_refresh, planned_wait, planned_flush, planned_close, steps_of, planned}
use Rattle.spec_plan.specs.Call.{in_time, timely}
use Rattle.spec_plan.proofs.Invariant.{leaving-plain, left-plain}
use Rattle.spec_plan.proofs.SentLaws.{when-either, here-leaving, row-waiting, wr_packet, newer, written-waits, written-plain, Plain, flushed-gone, flushed-waiting, flushed-plain, while-idle, while-keeps}
use Rattle.spec_plan.proofs.PlanLaws.{sent-late}

-- how long after now the last instant of a request comes: of its data, or of the PRER that it implies
abbrev pub last_delay : Context → Request → ℕ
last_delay cx (Read at close) = cond close (max cx.settings.cac cx.settings.offp) cx.settings.cac
last_delay cx (WriteTo at mask bytes close) = cond close cx.settings.offp cx.settings.cwd
last_delay cx RefreshBank = 0
last_delay cx (Wait cycles) = 0
last_delay cx Flush = 0
last_delay cx Close = 0

-- the planner after WR or WRA and its D
abbrev pub written_of : Context → Bool → Place → ℕ → Dualoct → PlannerState → PlannerState
written_of cx close at mask bytes p = (written cx close at mask bytes (reached cx at.bank at.row (record { planner = p; records = [] }))).planner

-- D of a closing write, which may come after all that its NOCOPs do
abbrev pub data_before : Context → Request → PlannerState → ℕ
data_before cx (Read at close) p = 0
data_before cx (WriteTo at mask bytes close) p = cond close ((written_of cx close at mask bytes p).now.0 + cx.settings.cwd) 0
data_before cx RefreshBank p = 0
data_before cx (Wait cycles) p = 0
data_before cx Flush p = 0
data_before cx Close p = 0

abbrev pub last_instant : Context → Request → PlannerState → ℕ
last_instant cx q p = max (data_before cx q p) ((planned cx q p).planner.now.0 + last_delay cx q)

module _ (cx : Context) where
  -- the state after these records
  abbrev pub walked : Channel → List Record → Channel
  walked ch [] = ch
  walked ch (r ∷ l) = walked (after cx ch r) l

  -- the last of a packet, its data and the PRERs that it implies
  abbrev pub last : Channel → Record → ℕ
  last ch r = max (instant r + longest_delay cx r) (instant r + implied_delay cx (leaving_of cx ch r))

  -- the last of all, from this state on
  abbrev pub latest : Channel → List Record → ℕ
  latest ch [] = 0
  latest ch (r ∷ l) = max (last ch r) (latest (after cx ch r) l)

  in-time-is : (ch : Channel) (l : List Record) → in_time cx ch l ≡ leb (latest ch l) horizon
  unfolding in_time
  in-time-is ch [] = refl
  in-time-is ch (r ∷ l) =
      rw (
        in-time-is (after cx ch r) l,
        leb-max (last ch r) (latest (after cx ch r) l) horizon,
        leb-max (instant r + longest_delay cx r) (instant r + implied_delay cx (leaving_of cx ch r)) horizon,
      )

  pub walked_one : (ch : Channel) (l : List Record) (r : Record) → walked ch (l ++ (r ∷ [])) ≡ after cx (walked ch l) r
  walked_one ch [] r = refl
  walked_one ch (q ∷ l) r = walked_one (after cx ch q) l r

  pub latest-one : (ch : Channel) (l : List Record) (r : Record) → latest ch (l ++ (r ∷ [])) ≡ max (latest ch l) (last (walked ch l) r)
  latest-one ch [] r = omega arith
  latest-one ch (q ∷ l) r = rw (latest-one (after cx ch q) l r) (max_assoc (last ch q) (latest (after cx ch q) l) (last (walked (after cx ch q) l) r))
    where
      max_assoc : (a b c : ℕ) → max a (max b c) ≡ max (max a b) c
      max_assoc a b c = omega arith

module _ (cx : Context) (p : PlannerState) where
  -- the channel of a draft is that after its records
  abbrev pub Walked : Draft → Type 0
  Walked d = walked cx p.channel d.records ≡ d.planner.channel

  abbrev pub latest_of : Draft → ℕ
  latest_of d = latest cx p.channel d.records

  abbrev pub now : Draft → ℕ
  now d = d.planner.now.0

  pub timely-latest : (d : Draft) → timely cx p d ≡ leb (max (latest_of d) (now d)) horizon
  unfolding timely
  timely-latest d = rw (in-time-is cx p.channel d.records, leb-max (latest_of d) (now d) horizon)

  -- ---- a packet

  module _ (r : Record) (d : Draft) (k : Walked d) where
    pub sent-walked : Walked (sent cx r d)
    unfolding sent
    sent-walked = walked_one cx p.channel d.records (placed_in cx d.planner r) ∙ ap (λ (ch : Channel). after cx ch (placed_in cx d.planner r)) k

    -- it comes at now
    pub sent-latest : latest_of (sent cx r d) ≡ max (latest_of d) (max (now (sent cx r d) + longest_delay cx r) (now (sent cx r d) + implied_delay cx (leaver cx d.planner r)))
    unfolding sent
    sent-latest =
        let ch : Channel = d.planner.channel in
        let t : ℕ = slot cx d.planner r in
        let m : ℕ = carried (leaver cx d.planner r) d.planner.mask in
        latest-one cx p.channel d.records (placed_in cx d.planner r)
        ∙ rw (k, moved-instant cx ch t m r, moved-delay cx ch t m r, here-leaving cx r d)

    pub now-sent : now d ≤ now (sent cx r d)
    unfolding sent
    now-sent = sent-late cx r d

  -- a write that does not close its bank implies nothing
  plain-delay : (r : Record) (d : Draft) → Plain cx d → implied_delay cx (leaver cx d.planner r) ≡ 0
  plain-delay r d e = rw (leaving-plain cx (waiting d) (placed_at (slot cx d.planner r) r) e)

  -- ---- steps before the request's own RD or WR: "Now is the latest ROW or COL instant"

  record Led (d : Draft) : Type 0 where
    walk : Walked d
    plain : Plain cx d
    most : latest_of d ≤ now d

  -- a packet whose data come a delay after it
  led-latest : (r : Record) (d : Draft) → Led d → latest_of (sent cx r d) ≡ now (sent cx r d) + longest_delay cx r
  led-latest r d k = rw (sent-latest r d k.walk, plain-delay r d k.plain) (omega (arith, k.most, now-sent r d k.walk))

  led-sent : (r : Record) (d : Draft) → Led d → longest_delay cx r ≡ 0 → Plain cx (sent cx r d) → Led (sent cx r d)
  led-sent r d k e z = record { walk = sent-walked r d k.walk; plain = z; most = rw (led-latest r d k, e) (omega arith) }

  led-flushed : (d : Draft) → Led d → Led (flushed cx d)
  unfolding flushed longest_delay
  led-flushed d k = led-sent (col_packet (Nocop 0xFFFF)) d k refl (flushed-plain cx d k.plain)

  led-row : (q : RowPacket) (d : Draft) → Led d → Led (sent cx (row_packet q) d)
  unfolding longest_delay
  led-row q d k = led-sent (row_packet q) d k refl (rw (row-waiting cx q d) k.plain)

  led-while : (test : List Write → Bool) (d : Draft) → Led d → Led (flushed_while cx test d)
  unfolding flushed_while
  led-while test d k =
      let z : Draft = when (test (waiting d)) (flushed cx) d in
      let kz : Led z = when-either Led (test (waiting d)) (flushed cx) d (λ _. led-flushed d k) (λ _. k) in
      when-either Led (test (waiting z)) (flushed cx) z (λ _. led-flushed z kz) (λ _. kz)

  led-closed : (x : ℕ) (d : Draft) → Led d → Led (closed cx x d)
  unfolding closed
  led-closed x d k = led-row (Prer x) _ (led-while (loses cx x) d k)

  led-up-to : (pick : ℕ → Bool) (n : ℕ) (d : Draft) → Led d → Led (closed_up_to cx pick n d)
  unfolding closed_up_to
  led-up-to pick zero d k = k
  led-up-to pick (suc n) d k =
      let z : Draft = closed_up_to cx pick n d in
      let kz : Led z = led-up-to pick n d k in
      when-either Led (pick n && not (is_closed (state_in z n))) (closed cx n) z (λ _. led-closed n z kz) (λ _. kz)

  led-reached : (bank row : ℕ) (d : Draft) → Led d → Led (reached cx bank row d)
  unfolding reached
  led-reached bank row d k =
      when-either Led (not (open_on (state_in d bank) row)) (λ d. sent cx (row_packet (Act bank row)) (cleared cx bank d)) d
      (λ _. led-row (Act bank row) _ (led-up-to (near cx bank) bank_count d k)) (λ _. k)

  -- ---- requests

  more : (a b : ℕ) → max (a + b) a ≡ a + b
  more a b = omega arith

  led-timely : (d : Draft) → Led d → timely cx p d ≡ leb (now d) horizon
  led-timely d k = let same : max (latest_of d) (now d) ≡ now d = omega (arith, k.most) in timely-latest d ∙ rw same

  read-timely : (close : Bool) (at : Place) (d : Draft) → Led d
      → timely cx p (planned_read cx close at d) ≡ leb (now (planned_read cx close at d) + cond close (max cx.settings.cac cx.settings.offp) cx.settings.cac) horizon
  unfolding planned_read longest_delay
  read-timely close at d k =
      let z : Draft = flushed_while cx (delays cx close at) (reached cx at.bank at.row d) in
      let r : Record = col_packet (Rd at.bank at.column 0xFFFF close) in
      timely-latest (sent cx r z) ∙ rw (led-latest r z (led-while (delays cx close at) _ (led-reached at.bank at.row d k)), more)

  -- WR or WRA and its D: "Each WR is followed in the list by its data record D, at WR + tCWD"
  module _ (close : Bool) (at : Place) (mask : ℕ) (bytes : Dualoct) (d : Draft) (k : Led d) where
    abbrev wr : Record
    wr = wr_packet close at

    abbrev end : Draft
    end = written cx close at mask bytes d

    abbrev data_record : Record
    data_record = DataOf (record { 0 = now (sent cx wr d) + cx.settings.cwd }) bytes

    data-last : (ch : Channel) → last cx ch data_record ≡ now (sent cx wr d) + cx.settings.cwd
    unfolding instant longest_delay leaving traits
    data-last ch = omega arith

    written-walked : Walked end
    unfolding written loaded
    written-walked = walked_one cx p.channel (sent cx wr d).records data_record ∙ ap (λ (ch : Channel). after cx ch data_record) (sent-walked wr d k.walk)

    written-latest : latest_of end ≡ now end + cx.settings.cwd
    unfolding written loaded longest_delay
    written-latest =
        latest-one cx p.channel (sent cx wr d).records data_record
        ∙ rw (data-last (walked cx p.channel (sent cx wr d).records), led-latest wr d k) (omega arith)

  write-timely : (at : Place) (mask : ℕ) (bytes : Dualoct) (d : Draft) → Led d
      → timely cx p (planned_write cx false at mask bytes d) ≡ leb (now (planned_write cx false at mask bytes d) + cx.settings.cwd) horizon
  unfolding planned_write
  write-timely at mask bytes d k =
      let z : Draft = reached cx at.bank at.row d in
      let kz : Led z = led-reached at.bank at.row d k in
      let y : Draft = written cx false at mask bytes z in
      let plain : Plain cx y = written-plain cx false at mask bytes z kz.plain refl in
      rw (while-idle cx any_closes y plain) (timely-latest y ∙ rw (written-latest false at mask bytes z kz, more))

  -- ---- NOCOPs for a closing write

  flushed-walked : (z : Draft) → Walked z → Walked (flushed cx z)
  unfolding flushed
  flushed-walked z w = sent-walked (col_packet (Nocop 0xFFFF)) z w

  flushed-late : (z : Draft) → now z ≤ now (flushed cx z)
  unfolding flushed sent
  flushed-late z = sent-late cx (col_packet (Nocop 0xFFFF)) z

  flushed-latest : (z : Draft) → Walked z → latest_of (flushed cx z) ≡ max (latest_of z) (now (flushed cx z) + implied_delay cx (first (waiting z)))
  unfolding flushed longest_delay
  flushed-latest z w = sent-latest (col_packet (Nocop 0xFFFF)) z w ∙ rw (flushed-gone cx z) (omega arith)

  abbrev Closing : Draft → Type 0
  Closing z = max (latest_of (flushed_while cx any_closes z)) (now (flushed_while cx any_closes z)) ≡ max (latest_of z) (now (flushed_while cx any_closes z) + cx.settings.offp)

  -- one waits
  closing-one : (z : Draft) (c : Write) → Walked z → waiting z ≡ c ∷ [] → c.close ≡ true → Closing z
  unfolding flushed_while
  closing-one z c w e h = rw (e, h, flushed-waiting cx z, e, flushed-latest z w, e, h) (omega arith)

  -- two do
  closing-two : (z : Draft) (x c : Write) → Walked z → waiting z ≡ x ∷ c ∷ [] → x.close ≡ false → c.close ≡ true → Closing z
  unfolding flushed_while
  closing-two z x c w e i h =
      let v : Draft = flushed cx z in
      rw (e, i, h, flushed-waiting cx z, e, h, flushed-latest v (flushed-walked z w), flushed-waiting cx z, e, h, flushed-latest z w, e, i)
      (joins (latest_of z) (now v) (now (flushed cx v)) cx.settings.offp (flushed-late v))
    where
      joins : (a m n o : ℕ) → m ≤ n → max (max (max a (m + 0)) (n + o)) n ≡ max a (n + o)
      joins a m n o l = omega arith

  close-timely : (at : Place) (mask : ℕ) (bytes : Dualoct) (d : Draft) → Led d →
      let y : Draft = written cx true at mask bytes (reached cx at.bank at.row d) in
      timely cx p (planned_write cx true at mask bytes d) ≡ leb (max (now y + cx.settings.cwd) (now (planned_write cx true at mask bytes d) + cx.settings.offp)) horizon
  unfolding planned_write
  close-timely at mask bytes d k =
      let z : Draft = reached cx at.bank at.row d in
      let kz : Led z = led-reached at.bank at.row d k in
      let y : Draft = written cx true at mask bytes z in
      let w : Walked y = written-walked true at mask bytes z kz in
      let o : Option Write = leaver cx z.planner (wr_packet true at) in
      let ends : Closing y = go y w (newer cx true at z) (left o (waiting z)) (left-plain o (waiting z) kz.plain) refl (written-waits cx true at mask bytes z) in
      timely-latest (flushed_while cx any_closes y) ∙ rw (ends, written-latest true at mask bytes z kz)
    where
      go : (y : Draft) → Walked y → (c : Write) (ws : List Write) → any_closes ws ≡ false → c.close ≡ true → waiting y ≡ queued ws c → Closing y
      go y w c [] o h e = closing-one y c w e h
      go y w c (x ∷ ws) o h e = closing-two y x c w e (neither x.close _ o).0 h

  -- D comes tCWD after now at the latest
  pub data-before : (q : Request) → data_before cx q p ≤ (planned cx q p).planner.now.0 + cx.settings.cwd
  unfolding planned steps_of planned_write
  data-before (Read at close) = omega arith
  data-before (WriteTo at mask bytes close) = go close (written cx close at mask bytes (reached cx at.bank at.row (record { planner = p; records = [] })))
    where
      go : (close : Bool) (y : Draft) → cond close (now y + cx.settings.cwd) 0 ≤ now (flushed_while cx any_closes y) + cx.settings.cwd
      go true y = omega (arith, while-keeps cx (λ z. now y ≤ now z) (λ z _ l. omega (arith, flushed-late z, l)) any_closes refl y (omega arith))
      go false y = omega arith
  data-before RefreshBank = omega arith
  data-before (Wait cycles) = omega arith
  data-before Flush = omega arith
  data-before Close = omega arith

  refresh-timely : (d : Draft) → Led d → timely cx p (planned_refresh cx d) ≡ leb (now (planned_refresh cx d)) horizon
  unfolding planned_refresh turned timely
  refresh-timely d k =
      let bank : ℕ = d.planner.refresh in
      led-timely _ (led-row (Refp bank) _ (led-row (Refa bank) _ (led-up-to (near cx bank) bank_count d k)))

  flush-timely : (d : Draft) → Led d → timely cx p (planned_flush cx d) ≡ leb (now (planned_flush cx d)) horizon
  unfolding planned_flush
  flush-timely d k = led-timely _ (led-while any_waits d k)

  banks-timely : (d : Draft) → Led d → timely cx p (planned_close cx d) ≡ leb (now (planned_close cx d)) horizon
  unfolding planned_close
  banks-timely d k = led-timely _ (led-up-to (λ x. true) bank_count d k)

  wait-timely : (cycles : ℕ) (d : Draft) → Led d → timely cx p (planned_wait cx cycles d) ≡ leb (now (planned_wait cx cycles d)) horizon
  unfolding planned_wait
  wait-timely cycles d k = led-timely (planned_wait cx cycles d) (record { walk = k.walk; plain = k.plain; most = omega (arith, k.most) })

  -- refusal 7, by the last instant of a request
  pub timely-is : any_closes (waiting_of p.channel.buffer) ≡ false → (q : Request) → timely cx p (planned cx q p) ≡ leb (last_instant cx q p) horizon
  unfolding planned steps_of
  timely-is plain q = go q
    where
      d : Draft
      d = record { planner = p; records = [] }

      k : Led d
      k = record { walk = refl; plain = plain; most = omega arith }

      just : (n : ℕ) → max 0 (n + 0) ≡ n
      just n = omega arith

      none_before : (n : ℕ) → max 0 n ≡ n
      none_before n = omega arith

      by-close : (close : Bool) (at : Place) (mask : ℕ) (bytes : Dualoct) → timely cx p (planned cx (WriteTo at mask bytes close) p) ≡ leb (last_instant cx (WriteTo at mask bytes close) p) horizon
      by-close true at mask bytes = close-timely at mask bytes d k
      by-close false at mask bytes = rw none_before (write-timely at mask bytes d k)

      go : (q : Request) → timely cx p (steps_of cx q d) ≡ leb (last_instant cx q p) horizon
      go (Read at close) = rw none_before (read-timely close at d k)
      go (WriteTo at mask bytes close) = by-close close at mask bytes
      go RefreshBank = rw just (refresh-timely d k)
      go (Wait cycles) = rw just (wait-timely cycles d k)
      go Flush = rw just (flush-timely d k)
      go Close = rw just (banks-timely d k)

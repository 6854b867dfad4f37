-- One turn of the walk: what the record that is read, the quick test and the stores say.
-- Assumes nothing.
use Rattle.std.specs.Prelude.{None, Some}
use Prim.Native.Nat.{ℕ, ◌+◌, ◌<◌, max}
use mathlib.Core.Path.{◌≡◌, refl, sym, ◌∙◌, ap, ap₂}
use mathlib.Core.Bool.{Bool, true, false, ◌||◌, cond, and-false}
use mathlib.Core.List.{List}
use native.Mathlib.Omega.{arith}
use borrow.Author.Tests.{eq-eqb, eqb-true}
use lib.ListN.{length, get_or, set}
use Rattle.num.specs.Bytes.{part}
use Rattle.settings.specs.declared.Settings.{Settings}
use Rattle.settings.specs.declared.DataAt.{DataAt}
use Rattle.packet.specs.declared.RowPacket.TheVariants.{Act, Prer, Refa, Refp}
use Rattle.packet.specs.declared.ColPacket.TheVariants.{Nocop, Wr, Rd}
use Rattle.record.specs.declared.Record.{Record}
use Rattle.record.specs.declared.Record.TheVariants.{RowAt, ColAt, DataOf}
use Rattle.record.specs.Record.{record_read, well_formed, is_known}
use Rattle.record.proofs.RoundTrip.{record-read-fits}
use Rattle.spec_rules.specs.declared.BankTrack.{BankTrack}
use Rattle.spec_rules.specs.declared.LastInstants.{LastInstants}
use Rattle.spec_rules.specs.declared.Buffer.{Buffer}
use Rattle.spec_rules.specs.declared.Channel.{Channel}
use Rattle.spec_rules.specs.Neighbour.{context_of}
use Rattle.spec_rules.specs.Broken.{record_in}
use Rattle.spec_rules.specs.Channel.{never, idle, after_implied, after}
use Rattle.spec_rules.specs.Checks.{judged, channel_after}
use Rattle.spec_rules.proofs.Bools.{not-both, and_left, and_right}
use Rattle.spec_rules.proofs.TrackLaws.{buffer-waiting}
use Rattle.chan_view.specs.declared.View.{View}
use Rattle.chan_view.specs.declared.Seen.{Seen}
use Rattle.chan_view.specs.declared.Seen.TheVariants.{Packet, Data}
use Rattle.chan_view.specs.declared.Held.{Held}
use Rattle.chan_view.specs.declared.Tracks.{Tracks}
use Rattle.chan_view.specs.Form.Beside.{low_of, high_of, first_near, last_near, slot_of}
use Rattle.chan_view.specs.Form.View.{plain, row_view, col_view, seen_of, held_of, leaves, leaves_closing, implies_by, centre_of}
use Rattle.chan_step.specs.Form.Banks.{prer_track, side_track, closed_banks, retired_banks, banks_next}
use Rattle.chan_step.specs.Form.Lasts.{lasts_next, implied_lasts, left_buffer, col_buffer, buffer_next}
use Rattle.chan_step.proofs.AfterLaws.{implied-after, packet-after, data-after}
use Rattle.chan_least.specs.Form.Quick.{act_by, record_well}
use Rattle.chan_least.proofs.PassLaws.{Met, plain-well, passes-legal, passes-data}
use Rattle.spec_check.specs.Check.{known}
use Rattle.check_walk.specs.declared.Latest.{Latest}
use Rattle.check_walk.specs.Form.Turn.{view_in, tracks_with, opened_track, newest_next, channel_of, implied_at, implied_stores, lasts_implied}
use Rattle.check_walk.specs.Form.Walk.{place_in, records_via, formed_via, found_via}
use Rattle.check_walk.proofs.ViaLaws.{via-at, channel-next}
use Rattle.check_walk.proofs.StopLaws.{holds}
use Rattle.check_walk.proofs.StoreLaws.{Within, Opened, opened-same, fits-bank, held-within, within-next, opened-next, closes-opened, length-retired, length-closed, length-next, with_rd, with_retire, own_stores, slot-in, close-stored, turn-stored}
use Rattle.check_walk.proofs.ImpliedLaws.{plain-implies, data-implies, same-stores, same-lasts, implied-swap}

-- ---- the record that is read

module _ (s : Settings) (per : ℕ) (b : List ℕ) (n i : ℕ) (h : i < n) (r : Record) (e : record_read s (part b (place_in per i) 32) ≡ Some r) where
  abbrev records : List Record
  records = records_via (context_of s).settings per b n

  met-here : record_in records i ≡ r
  unfolding known context_of
  met-here = via-at s per b n i _ h ∙ ap known e

  pub formed-here : formed_via (context_of s).settings per b i ≡ true
  unfolding well_formed is_known context_of
  formed-here = ap is_known e

  pub bank-here : (view_in (seen_of r)).bank < 32
  bank-here = fits-bank s r (record-read-fits s (part b (place_in per i) 32) r e)

  module _ (ch : Channel) (q : ch ≡ channel_after (context_of s) records i) where
    pub found_here : found_via (context_of s) per b n i ≡ judged (context_of s) ch r
    found_here = ap₂ (judged (context_of s)) (sym q) met-here

    pub after-here : after (context_of s) ch r ≡ channel_after (context_of s) records (i + 1)
    after-here = ap (λ (x : Channel). after (context_of s) x r) q ∙ channel-next (context_of s) records i r met-here

    pub holds-here : judged (context_of s) ch r ≡ 0 → holds (context_of s) per b n i ≡ true
    holds-here z = rw (formed-here, found_here, eq-eqb (judged (context_of s) ch r) 0 z)

pub unformed : (s : Settings) (per : ℕ) (b : List ℕ) (i : ℕ) → record_read s (part b (place_in per i) 32) ≡ None → formed_via (context_of s).settings per b i ≡ false
unfolding well_formed is_known context_of
unformed s per b i e = ap is_known e

-- data change none of these
data-same : (s : Settings) (r : Record) (d : DataAt) → seen_of r ≡ Data d → (banks : List BankTrack) (l : LastInstants) (out : Bool) (b : Buffer)
    → (banks_next s r banks ≡ banks) × (lasts_next r l ≡ l) × (buffer_next r out b ≡ b)
unfolding seen_of banks_next lasts_next buffer_next
data-same s (RowAt t p) d q banks l out b = absurd (let z : ◌≡◌ {A = ℕ} 0 1 = cc in omega arith)
data-same s (ColAt t p) d q banks l out b = absurd (let z : ◌≡◌ {A = ℕ} 0 1 = cc in omega arith)
data-same s (DataOf t p) d q banks l out b = (refl, refl, refl)

-- only a COL packet other than RD changes the waiting writes
buffer-same : (r : Record) (b : Buffer) → (view_in (seen_of r)).other ≡ false → buffer_next r false b ≡ b
unfolding buffer_next col_buffer left_buffer view_in seen_of col_view
buffer-same (RowAt t p) b e = refl
buffer-same (ColAt t (Nocop m)) b e = not-both true refl e
buffer-same (ColAt t (Wr x c m q)) b e = not-both true refl e
buffer-same (ColAt t (Rd x c m q)) b e = buffer-waiting b
buffer-same (DataOf t d) b e = refl

-- a packet that changes the banks itself retires none
changes-alone : (r : Record) → let v = view_in (seen_of r) in v.opens || (v.precharges || v.reads) ≡ true → v.other ≡ false
unfolding view_in seen_of row_view col_view
changes-alone (RowAt t (Act b row)) q = refl
changes-alone (RowAt t (Prer b)) q = refl
changes-alone (RowAt t (Refa b)) q = refl
changes-alone (RowAt t (Refp b)) q = refl
changes-alone (ColAt t (Nocop m)) q = sym q
changes-alone (ColAt t (Wr b c m x)) q = sym q
changes-alone (ColAt t (Rd b c m x)) q = refl
changes-alone (DataOf t d) q = refl

-- ---- the state before a turn, and the values that it finds

pub record Turn (s : Settings) (r : Record) (banks : List BankTrack) (lasts : LastInstants) (buffer : Buffer) (latest : Latest) (v : View) (h : Held) (x y z w o : ℕ) : Type 0 where
  pub size : length banks ≡ 32
  pub top : Opened latest.opened banks
  pub within : Within buffer
  pub inside : (view_in (seen_of r)).bank < 32
  pub view : v ≡ view_in (seen_of r)
  pub held : h ≡ held_of buffer latest.due
  pub own : x ≡ slot_of v.bank
  pub low : y ≡ first_near s x
  pub high : z ≡ last_near s x
  pub waiting : w ≡ slot_of h.bank
  pub second : o ≡ slot_of h.next

module _ {s : Settings} {r : Record} {banks : List BankTrack} {lasts : LastInstants} {buffer : Buffer} {latest : Latest} {v : View} {h : Held} {x y z w o : ℕ}
    (t : Turn s r banks lasts buffer latest v h x y z w o) where
  abbrev state : Channel
  state = channel_of banks lasts buffer latest.due

  abbrev waits : Held
  waits = held_of buffer latest.due

  -- the quick test: no rule is broken, and no PRER implied
  module _ (k : Tracks) (ok : Bool) (kq : k ≡ tracks_with (get_or banks x idle) (get_or banks y idle) (get_or banks z idle) (get_or banks w idle) (get_or banks o idle))
      (p : ok ≡ record_well s r h k lasts (act_by s k (record { 0 = latest.opened }))) (q : ok ≡ true) where
    passed : record_well s r waits k lasts (act_by s k (record { 0 = latest.opened })) ≡ true
    passed = rw (sym t.held) (sym p ∙ q)

    pub quick-here : judged (context_of s) state r ≡ 0
    unfolding view_in
    quick-here = go (seen_of r) refl
      where
        at : (i j : ℕ) → i ≡ j → get_or banks i idle ≡ get_or banks j idle
        at i j e = ap (λ (n : ℕ). get_or banks n idle) e

        met : (u : View) → seen_of r ≡ Packet u → Met s state u.bank k
        met u e =
            let b : v.bank ≡ u.bank = ap (λ (v : View). v.bank) (t.view ∙ ap view_in e) in
            let i : u.bank < 32 = rw e at t.inside in
            let q : x ≡ u.bank = t.own ∙ ap slot_of b ∙ slot-in u.bank i in
            record {
              size = t.size;
              at_own = ap (λ (k : Tracks). k.own) kq ∙ at x u.bank q;
              at_low = ap (λ (k : Tracks). k.low) kq ∙ at y (first_near s u.bank) (t.low ∙ ap (first_near s) q);
              at_high = ap (λ (k : Tracks). k.high) kq ∙ at z (last_near s u.bank) (t.high ∙ ap (last_near s) q);
              at_held = λ m. ap (λ (k : Tracks). k.held) kq
                  ∙ at w waits.bank (t.waiting ∙ ap (λ (h : Held). slot_of h.bank) t.held ∙ slot-in waits.bank ((held-within buffer latest.due t.within).0 m));
              at_next = λ m. ap (λ (k : Tracks). k.next) kq
                  ∙ at o waits.next (t.second ∙ ap (λ (h : Held). slot_of h.next) t.held ∙ slot-in waits.next ((held-within buffer latest.due t.within).1 m));
            }

        go : (u : Seen) → seen_of r ≡ u → judged (context_of s) state r ≡ 0
        go (Packet u) e = passes-legal s state r u e k (met u e) (record { 0 = latest.opened }) t.top passed
        go (Data d) e = eqb-true _ 0 (sym (passes-data s state r d e k (record { 0 = latest.opened })) ∙ passed)

    pub quick-plain : implies_by s h v ≡ false
    unfolding view_in
    quick-plain = rw (t.view, t.held) (go (seen_of r) refl)
      where
        go : (u : Seen) → seen_of r ≡ u → implies_by s waits (view_in (seen_of r)) ≡ false
        go (Packet u) e = let z = plain-well s r u e waits k lasts _ passed in plain-implies s waits r z.0 z.1.0
        go (Data d) e = rw e (data-implies s waits)

  -- ---- the PRER that the record implies

  older-in : h.waits ≡ true → h.bank < 32
  older-in e = rw t.held ((held-within buffer latest.due t.within).0 (rw t.held at e))

  centre-in : centre_of s h v < 32
  centre-in = go (leaves_closing s h v) refl
    where
      go : (c : Bool) → leaves_closing s h v ≡ c → cond c h.bank v.bank < 32
      go true e = older-in (and_left h.waits _ (and_right h.close _ e))
      go false e = rw t.view t.inside

  abbrev closed_by : List BankTrack → List BankTrack
  closed_by l = closed_banks (implied_at s v) (centre_of s h v) (low_of s (centre_of s h v)) (high_of s (centre_of s h v)) l

  -- the banks and the last instants once it is stored
  abbrev pub Implied : List BankTrack → LastInstants → Type 0
  Implied m l = (m ≡ cond (implies_by s h v) (closed_by banks) banks) × (l ≡ lasts_implied s v h lasts)

  pub slow-here : (m : List BankTrack) (l : LastInstants) → m ≡ implied_stores s (view_in (seen_of r)) (held_of buffer false) banks → l ≡ lasts_implied s (view_in (seen_of r)) (held_of buffer false) lasts → Implied m l
  slow-here m l mq lq =
      let stored : m ≡ implied_stores s v h banks = rw (t.view, t.held) (mq ∙ same-stores s (view_in (seen_of r)) buffer latest.due banks) in (
        stored ∙ ap (λ (n : List BankTrack). cond (implies_by s h v) n banks) (close-stored s banks t.size (implied_at s v) (centre_of s h v) centre-in),
        rw (t.view, t.held) (lq ∙ same-lasts s (view_in (seen_of r)) buffer latest.due lasts),
      )

  pub plain_here : (m : List BankTrack) (l : LastInstants) → implies_by s h v ≡ false → m ≡ banks → l ≡ lasts → Implied m l
  plain_here m l n mq lq = (rw (mq, n), rw (lq, n))

  -- ---- the packet itself

  module _ (m : List BankTrack) (l : LastInstants) (i : Implied m l) where
    size-here : length m ≡ 32
    size-here = ap length i.0 ∙ go (implies_by s h v)
      where
        go : (c : Bool) → length (cond c (closed_by banks) banks) ≡ 32
        go true = length-closed (implied_at s v) (centre_of s h v) _ _ banks ∙ t.size
        go false = t.size

    top-here : Opened latest.opened m
    top-here = opened-same _ _ _ i.0 (go (implies_by s h v))
      where
        go : (c : Bool) → Opened latest.opened (cond c (closed_by banks) banks)
        go true = closes-opened s latest.opened banks t.size t.top (implied_at s v) (centre_of s h v)
        go false = t.top

    -- the stores, the waiting writes and the newest ACT or REFA, by the way that the turn took
    abbrev pub Stored : List BankTrack → Buffer → ℕ → Type 0
    Stored n c g = (n ≡ own_stores v x y z w (leaves s h v) m) × (c ≡ buffer_next r (leaves s h v) buffer) × (g ≡ newest_next v latest.opened)

    kept_here : (c : Buffer) → v.other ≡ false → c ≡ buffer → c ≡ buffer_next r (leaves s h v) buffer
    kept_here c e cq = rw (cq, e, and-false h.waits) (sym (buffer-same r buffer (sym (ap (λ (u : View). u.other) t.view) ∙ e)))

    alone-here : (c : Buffer) → v.opens || (v.precharges || v.reads) ≡ true → c ≡ buffer → c ≡ buffer_next r (leaves s h v) buffer
    alone-here c e cq = kept_here c (rw t.view (changes-alone r (rw t.view at e))) cq

    pub open-here : (n : List BankTrack) (c : Buffer) (g : ℕ) (a : BankTrack) → v.opens ≡ true → a ≡ opened_track v (get_or m x idle) → n ≡ set m x a → c ≡ buffer
        → g ≡ max latest.opened v.at.0 → Stored n c g
    open-here n c g a e aq q cq gq = (rw (q, aq, e), alone-here c (rw e) cq, rw e gq)

    pub close-here : (n : List BankTrack) (c : Buffer) (g : ℕ) (a b d : BankTrack) → v.opens ≡ false → v.precharges ≡ true → a ≡ prer_track v.at (get_or m x idle)
        → b ≡ side_track v.at (get_or (set m x a) y idle) → d ≡ side_track v.at (get_or (set (set m x a) y b) z idle) → n ≡ set (set (set m x a) y b) z d → c ≡ buffer → g ≡ latest.opened → Stored n c g
    close-here n c g a b d e f aq bq dq q cq gq = (rw (q, dq, bq, aq, e, f), alone-here c (rw (e, f)) cq, rw e gq)

    pub read_here : (n : List BankTrack) (c : Buffer) (g : ℕ) → v.opens ≡ false → v.precharges ≡ false → v.reads ≡ true → n ≡ set m x (with_rd v.at.0 (get_or m x idle)) → c ≡ buffer → g ≡ latest.opened → Stored n c g
    read_here n c g d e f q cq gq = (rw (q, d, e, f), alone-here c (rw (d, e, f)) cq, rw d gq)

    pub left_here : (n : List BankTrack) (c : Buffer) (g : ℕ) (out : Bool) (retire : ℕ) (b : Buffer) → v.opens ≡ false → v.precharges ≡ false → v.reads ≡ false → v.other ≡ true → out ≡ leaves s h v
        → retire ≡ cond out v.at.0 (get_or m w idle).retire.0 → b ≡ buffer_next r (leaves s h v) buffer → n ≡ set m w (with_retire retire (get_or m w idle)) → c ≡ b
        → g ≡ latest.opened → Stored n c g
    left_here n c g out retire b d e f i oq rq bq q cq gq = (rw (q, rq, oq, d, e, f, i), cq ∙ bq, rw d gq)

    pub none_here : (n : List BankTrack) (c : Buffer) (g : ℕ) → v.opens ≡ false → v.precharges ≡ false → v.reads ≡ false → v.other ≡ false → n ≡ m → c ≡ buffer → g ≡ latest.opened → Stored n c g
    none_here n c g d e f i q cq gq = (rw (q, d, e, f, i), kept_here c i cq, rw d gq)

    -- the banks after the packet and its retire
    abbrev next : List BankTrack
    next = banks_next s r (retired_banks (leaves s h v) h.bank v.at m)

    pub banks-here : (n : List BankTrack) → n ≡ own_stores v x y z w (leaves s h v) m → n ≡ next
    banks-here n q =
        q
        ∙ rw (t.low, t.high, t.own, t.waiting, t.view)
        (turn-stored s h.bank m size-here r (leaves s h (view_in (seen_of r))) (λ e. older-in (and_left h.waits _ e)) (λ e. rw e (and-false h.waits)) t.inside)

    pub length-here : length next ≡ 32
    length-here = length-next s r _ ∙ length-retired (leaves s h v) h.bank v.at m ∙ size-here

    pub opened-here : Opened (newest_next v latest.opened) next
    opened-here = rw t.view (opened-next s r latest.opened (leaves s h (view_in (seen_of r))) h.bank (view_in (seen_of r)).at m size-here top-here)

  pub within-here : (c : Buffer) → c ≡ buffer_next r (leaves s h v) buffer → Within c
  within-here c q = rw q (within-next r (leaves s h v) buffer t.inside t.within)

  -- ---- the state after the turn

  abbrev after-packet : List BankTrack → LastInstants → Channel
  after-packet m l = channel_of (banks_next s r (retired_banks (leaves s h v) h.bank v.at m)) (lasts_next r l) (buffer_next r (leaves s h v) buffer) v.writes

  plain-state : implies_by s h v ≡ false → after-packet banks lasts ≡ after (context_of s) state r
  unfolding view_in after_implied
  plain-state n = go (seen_of r) refl
    where
      go : (p : Seen) → seen_of r ≡ p → after-packet banks lasts ≡ after (context_of s) state r
      go (Packet p) e =
          let q : v ≡ p = t.view ∙ ap view_in e in
          let none : implies_by s waits p ≡ false = rw (q, t.held) at n in
          rw (q, t.held) (sym (packet-after s state t.size r p e ∙ rw none))
      go (Data d) e =
          let q : v ≡ plain never = t.view ∙ ap view_in e in
          let m = data-same s r d e banks lasts false buffer in
          rw (q, and-false h.waits, m.0, m.1, m.2) (sym (data-after s state t.size r d e))

  -- the PRER may as well come last
  implied-state : implies_by s h v ≡ true → after-packet (closed_by banks) (implied_lasts (implied_at s v) lasts) ≡ after (context_of s) state r
  unfolding view_in
  implied-state n = go (seen_of r) refl
    where
      long : length (banks_next s r (retired_banks (leaves s h v) h.bank v.at banks)) ≡ 32
      long = length-next s r _ ∙ length-retired (leaves s h v) h.bank v.at banks ∙ t.size

      go : (p : Seen) → seen_of r ≡ p → after-packet (closed_by banks) (implied_lasts (implied_at s v) lasts) ≡ after (context_of s) state r
      go (Packet p) e =
          let u : v ≡ p = t.view ∙ ap view_in e in
          let b : ℕ = centre_of s h v in
          let swap = implied-swap s h r (rw t.view at n) v.at (implied_at s v) (leaves s h v) h.bank b (low_of s b) (high_of s b) banks lasts in
          rw (swap.0, swap.1)
          (sym (packet-after s state t.size r p e ∙ rw (sym u, sym t.held, n) (implied-after s (after-packet banks lasts) long (implied_at s v) (centre_of s h v))))
      go (Data d) e = not-both _ (rw (t.view ∙ ap view_in e) at n) (data-implies s h)

  pub state-here : (m : List BankTrack) (l : LastInstants) → Implied m l → after-packet m l ≡ after (context_of s) state r
  state-here m l i = go (implies_by s h v) refl
    where
      go : (c : Bool) → implies_by s h v ≡ c → after-packet m l ≡ after (context_of s) state r
      go true e =
          let mq : m ≡ closed_by banks = i.0 ∙ rw e in
          let lq : l ≡ implied_lasts (implied_at s v) lasts = i.1 ∙ rw e in
          rw (mq, lq) (implied-state e)
      go false e =
          let mq : m ≡ banks = i.0 ∙ rw e in
          let lq : l ≡ lasts = i.1 ∙ rw e in
          rw (mq, lq) (plain-state e)

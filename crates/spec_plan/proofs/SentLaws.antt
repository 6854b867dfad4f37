-- What one packet of the planner makes of the channel, and what closing banks makes of it: the banks, the write that waits, the
-- number of banks, and the records.
-- Assumes nothing.
use Rattle.std.specs.Prelude.{Option, None}
use Prim.Native.Nat.{ℕ, zero, suc, ◌+◌, ◌≤◌, ◌<◌, ◌^◌, max}
use mathlib.Core.Path.{◌≡◌, refl, sym, ap, ◌∙◌}
use mathlib.Core.Bool.{Bool, true, false, not, ◌&&◌, cond}
use mathlib.Core.List.{List, [], ◌∷◌, ◌++◌}
use lib.Dec.{eqb, ltb}
use lib.ListN.{length}
use borrow.Author.Tests.{le-leb, lt-ltb, eqb-true, eqb-false, eq-eqb}
use native.Mathlib.Omega.{arith}
use Rattle.packet.specs.declared.RowPacket.{RowPacket}
use Rattle.packet.specs.declared.RowPacket.TheVariants.{Prer}
use Rattle.packet.specs.declared.ColPacket.TheVariants.{Nocop, Wr, Rd}
use Rattle.packet.specs.Col.{col_fits}
use Rattle.record.specs.declared.Dualoct.{Dualoct}
use Rattle.record.specs.declared.Place.{Place}
use Rattle.record.specs.declared.Record.{Record}
use Rattle.record.specs.declared.Record.TheVariants.{RowAt, ColAt, DataOf}
use Rattle.record.specs.Record.{record_fits}
use Rattle.spec_rules.specs.declared.Bank.{Bank}
use Rattle.spec_rules.specs.declared.Bank.TheVariants.{Closed}
use Rattle.spec_rules.specs.declared.Write.{Write}
use Rattle.spec_rules.specs.declared.Buffer.{Buffer}
use Rattle.spec_rules.specs.declared.Buffer.TheVariants.{Empty, One, Two}
use Rattle.spec_rules.specs.declared.Channel.{Channel}
use Rattle.spec_rules.specs.Neighbour.{bank_count, Context, near}
use Rattle.spec_rules.specs.Packets.{traits, col_traits, instant}
use Rattle.spec_rules.specs.History.{bank_by, is_closed, first, rest, retire_implies, closed_by, only_write, passed, leaving, left, queued, loads, joined, waiting_next, has}
use Rattle.spec_rules.specs.Channel.{never, waiting_of, leaving_of, after, after_data}
use Rattle.spec_rules.specs.Earliest.{placed_at, under, soonest, retire_least, slot_from, least_from}
use Rattle.spec_rules.proofs.Bools.{not-both, and_left, and_right, neither}
use Rattle.spec_rules.proofs.TrackLaws.{row_keeps, keeps-all, after-waits}
use Rattle.spec_rules.proofs.EarliestLaws.{placed-instant, moved-not-read, moved-leaving, moved-writes}
use Rattle.spec_state.proofs.AfterLaws.{state_by, after-size, after-due, after-state}
use Rattle.spec_plan.proofs.Invariant.{left-plain, queued-plain}
use Rattle.spec_plan.specs.Plan.{any_closes, Draft, row_packet, col_packet, when, waiting, state_in, carried, shifted, any_waits, slot, leaver, placed_in, sent, flushed, flushed_while, loses, closed, closed_up_to, loaded, written}

-- ---- a record at another instant, under another mask

-- it has a word where the packet has one
pub moved_word : (cx : Context) (t m : ℕ) (r : Record) → m < 2 ^ 16 → record_fits cx.settings r ≡ true → record_fits cx.settings (placed_at t (under m r)) ≡ true
unfolding placed_at under record_fits col_fits
moved_word cx t m (RowAt u p) l e = e
moved_word cx t m (ColAt u (Nocop n)) l e = lt-ltb m _ l
moved_word cx t m (ColAt u (Wr b c n x)) l e = rw (and_left (ltb b 32) _ e, and_left (ltb c cx.settings.columns) _ (and_right (ltb b 32) _ e), lt-ltb m _ l)
moved_word cx t m (ColAt u (Rd b c n x)) l e = rw (and_left (ltb b 32) _ e, and_left (ltb c cx.settings.columns) _ (and_right (ltb b 32) _ e), lt-ltb m _ l)
moved_word cx t m (DataOf u d) l e = refl

-- at most two writes wait
rest-rest : (b : Buffer) → rest (rest (waiting_of b)) ≡ []
unfolding waiting_of
rest-rest Empty = refl
rest-rest (One x) = refl
rest-rest (Two x y) = refl

-- ---- a step where a test passes

pub when-either : (P : Draft → Type 0) (b : Bool) (step : Draft → Draft) (d : Draft) → (b ≡ true → P (step d)) → (b ≡ false → P d) → P (when b step d)
when-either P true step d f g = f refl
when-either P false step d f g = g refl

-- all banks are there
abbrev pub Sized : Draft → Type 0
Sized d = length d.planner.channel.banks ≡ bank_count

-- WR or WRA
abbrev pub wr_packet : Bool → Place → Record
wr_packet close at = col_packet (Wr at.bank at.column 0xFFFF close)

module _ (cx : Context) where
  -- ---- a packet

  module _ (r : Record) (d : Draft) where
    abbrev pub here : Record
    here = placed_in cx d.planner r

    abbrev pub gone : Option Write
    gone = leaver cx d.planner r

    pub sent-channel : (sent cx r d).planner.channel ≡ after cx d.planner.channel here
    unfolding sent
    sent-channel = refl

    pub sent-now : (sent cx r d).planner.now.0 ≡ slot cx d.planner r
    unfolding sent
    sent-now = refl

    pub sent-mask : (sent cx r d).planner.mask ≡ shifted gone d.planner.mask d.planner.second
    unfolding sent
    sent-mask = refl

    pub sent-second : (sent cx r d).planner.second ≡ d.planner.second
    unfolding sent
    sent-second = refl

    pub sent-refresh : (sent cx r d).planner.refresh ≡ d.planner.refresh
    unfolding sent
    sent-refresh = refl

    pub sent-records : (sent cx r d).records ≡ d.records ++ (here ∷ [])
    unfolding sent
    sent-records = refl

    -- it carries the mask of the older write where it retires one, and else M = 0
    pub here-carries : here ≡ placed_at (slot cx d.planner r) (under (carried gone d.planner.mask) r)
    here-carries = refl

    pub sent-size : length (sent cx r d).planner.channel.banks ≡ length d.planner.channel.banks
    unfolding sent
    sent-size = after-size cx d.planner.channel here

    pub sent-due : (sent cx r d).planner.channel.due ≡ has (traits r).writes
    unfolding sent
    sent-due = after-due cx d.planner.channel here ∙ ap has (moved-writes cx d.planner.channel (slot cx d.planner r) (carried gone d.planner.mask) r)

    -- the mask of a packet does not say what leaves
    pub here-leaving : leaving_of cx d.planner.channel here ≡ gone
    unfolding leaving traits placed_at
    here-leaving =
        let ch : Channel = d.planner.channel in
        let t : ℕ = slot cx d.planner r in
        moved-leaving cx ch t (carried gone d.planner.mask) r ∙ rw (placed-not-read t r, placed-instant t r)
      where
        placed-not-read : (t : ℕ) (r : Record) → (traits (placed_at t r)).not_read ≡ (traits r).not_read
        placed-not-read t (RowAt u p) = refl
        placed-not-read t (ColAt u p) = refl
        placed-not-read t (DataOf u d) = refl

    pub sent-state : Sized d → (x : ℕ) → x < bank_count → state_in (sent cx r d) x ≡ state_by cx gone r x (state_in d x)
    unfolding sent state_by placed_at under traits col_traits
    sent-state n x m =
        after-state cx d.planner.channel here x n m ∙ rw here-leaving (moved-state (slot cx d.planner r) (carried gone d.planner.mask) r x (state_in d x))
      where
        moved-state : (t m : ℕ) (r : Record) (x : ℕ) (b : Bank) → state_by cx gone (placed_at t (under m r)) x b ≡ state_by cx gone r x b
        moved-state t m (RowAt u p) x b = refl
        moved-state t m (ColAt u (Nocop n)) x b = refl
        moved-state t m (ColAt u (Wr bk c n y)) x b = refl
        moved-state t m (ColAt u (Rd bk c n y)) x b = refl
        moved-state t m (DataOf u d) x b = refl

    pub sent-waiting : waiting (sent cx r d) ≡ joined (loads here) (left gone (waiting d))
    unfolding sent waiting_next
    sent-waiting = after-waits cx d.planner.channel here ∙ rw here-leaving

  -- a packet that retires nothing: not a COL packet other than RD
  pub none-leaves : (r : Record) (d : Draft) → (traits r).not_read ≡ false → leaver cx d.planner r ≡ None
  none-leaves r d e = sym (here-leaving r d) ∙ keeps-all cx (here r d) (waiting d) (moved-not-read cx d.planner.channel _ _ r ∙ e)

  pub row-gone : (p : RowPacket) (d : Draft) → leaver cx d.planner (row_packet p) ≡ None
  row-gone p d = none-leaves (row_packet p) d (row_keeps never p)

  pub read-gone : (b c m : ℕ) (x : Bool) (d : Draft) → leaver cx d.planner (col_packet (Rd b c m x)) ≡ None
  unfolding traits col_traits
  read-gone b c m x d = none-leaves (col_packet (Rd b c m x)) d refl

  -- the banks after a ROW packet; after a COL packet
  pub row-state : (p : RowPacket) (d : Draft) → Sized d → (x : ℕ) → x < bank_count → state_in (sent cx (row_packet p) d) x ≡ bank_by cx p x (state_in d x)
  unfolding state_by
  row-state p d n x m = sent-state (row_packet p) d n x m

  -- a ROW packet leaves the writes that wait, and RD does
  pub row-waiting : (p : RowPacket) (d : Draft) → waiting (sent cx (row_packet p) d) ≡ waiting d
  unfolding loads placed_at under
  row-waiting p d = sent-waiting (row_packet p) d ∙ rw (row-gone p d)

  pub read-waiting : (b c m : ℕ) (x : Bool) (d : Draft) → waiting (sent cx (col_packet (Rd b c m x)) d) ≡ waiting d
  unfolding loads placed_at under
  read-waiting b c m x d = sent-waiting (col_packet (Rd b c m x)) d ∙ rw (read-gone b c m x d)

  -- ---- NOCOP

  -- it comes when the older write can be retired
  pub flushed-gone : (d : Draft) → leaver cx d.planner (col_packet (Nocop 0xFFFF)) ≡ first (waiting d)
  unfolding leaving slot least_from placed_at instant traits col_traits
  flushed-gone d = go (soonest cx d.planner.channel (col_packet (Nocop 0xFFFF)) d.planner.now.0) (waiting d)
    where
      late : (a b t : ℕ) → a ≤ max t (max a b)
      late a b t = omega arith

      go : (t0 : ℕ) (ws : List Write)
          → only_write (passed cx (first ws) (slot_from cx d.planner.channel (col_packet (Nocop 0xFFFF)) t0 ws)) (first ws) ≡ first ws
      go t0 [] = refl
      go t0 (w ∷ []) = rw (le-leb (w.at.0 + cx.settings.rtr) (max t0 (max (w.at.0 + cx.settings.rtr) (retire_least cx d.planner.channel (col_packet (Nocop 0xFFFF)) w))) (late (w.at.0 + cx.settings.rtr) (retire_least cx d.planner.channel (col_packet (Nocop 0xFFFF)) w) t0))
      go t0 (w ∷ y ∷ ws) = rw (le-leb (w.at.0 + cx.settings.rtr) (max t0 (max (w.at.0 + cx.settings.rtr) (retire_least cx d.planner.channel (col_packet (Nocop 0xFFFF)) w))) (late (w.at.0 + cx.settings.rtr) (retire_least cx d.planner.channel (col_packet (Nocop 0xFFFF)) w) t0))

  pub flushed-waiting : (d : Draft) → waiting (flushed cx d) ≡ rest (waiting d)
  unfolding flushed loads placed_at under
  flushed-waiting d = sent-waiting (col_packet (Nocop 0xFFFF)) d ∙ rw (flushed-gone d) (go (waiting d))
    where
      go : (ws : List Write) → left (first ws) ws ≡ rest ws
      go [] = refl
      go (w ∷ ws) = refl

  pub flushed-size : (d : Draft) → length (flushed cx d).planner.channel.banks ≡ length d.planner.channel.banks
  unfolding flushed
  flushed-size d = sent-size (col_packet (Nocop 0xFFFF)) d

  pub flushed-state : (d : Draft) → Sized d → (x : ℕ) → x < bank_count → state_in (flushed cx d) x ≡ closed_by cx (retire_implies (first (waiting d))) x (state_in d x)
  unfolding flushed state_by traits col_traits
  flushed-state d n x m = sent-state (col_packet (Nocop 0xFFFF)) d n x m ∙ rw (flushed-gone d)

  -- no write that waits closes its bank
  abbrev pub Plain : Draft → Type 0
  Plain d = any_closes (waiting d) ≡ false

  plain-first : (ws : List Write) → any_closes ws ≡ false → retire_implies (first ws) ≡ None
  plain-first [] e = refl
  plain-first (w ∷ ws) e = rw (neither w.close _ e).0

  plain-rest : (ws : List Write) → any_closes ws ≡ false → any_closes (rest ws) ≡ false
  plain-rest [] e = refl
  plain-rest (w ∷ ws) e = (neither w.close _ e).1

  pub flushed-plain : (d : Draft) → Plain d → Plain (flushed cx d)
  flushed-plain d e = rw (flushed-waiting d) (plain-rest (waiting d) e)

  pub flushed-same : (d : Draft) → Sized d → Plain d → (x : ℕ) → x < bank_count → state_in (flushed cx d) x ≡ state_in d x
  flushed-same d n e x m = flushed-state d n x m ∙ rw (plain-first (waiting d) e)

  -- ---- WR or WRA and its D

  -- the write that then waits, behind an older one or alone
  abbrev pub newer : Bool → Place → Draft → Write
  newer close at d = record { bank = at.bank; column = at.column; at = record { 0 = slot cx d.planner (wr_packet close at) }; close = close }

  pub wr-waiting : (close : Bool) (at : Place) (d : Draft) → waiting (sent cx (wr_packet close at) d) ≡ queued (left (leaver cx d.planner (wr_packet close at)) (waiting d)) (newer close at d)
  unfolding loads placed_at under
  wr-waiting close at d = sent-waiting (wr_packet close at) d

  module _ (close : Bool) (at : Place) (mask : ℕ) (bytes : Dualoct) (d : Draft) where
    pub written-waits : waiting (written cx close at mask bytes d) ≡ queued (left (leaver cx d.planner (wr_packet close at)) (waiting d)) (newer close at d)
    unfolding written loaded after after_data
    written-waits = wr-waiting close at d

    pub written-plain : Plain d → close ≡ false → Plain (written cx close at mask bytes d)
    written-plain e c =
        let o : Option Write = leaver cx d.planner (wr_packet close at) in
        rw written-waits (queued-plain (left o (waiting d)) (newer close at d) (left-plain o (waiting d) e) c)

  -- ---- NOCOP after NOCOP

  -- they end where the test fails
  pub while-ends : (test : List Write → Bool) → test [] ≡ false → (d : Draft) → test (waiting (flushed_while cx test d)) ≡ false
  unfolding flushed_while
  while-ends test e d = go (test (waiting d)) refl
    where
      last : (b : Bool) → test (waiting (flushed cx d)) ≡ b → test (waiting (when b (flushed cx) (flushed cx d))) ≡ false
      last true h = rw (flushed-waiting (flushed cx d), flushed-waiting d, rest-rest d.planner.channel.buffer) e
      last false h = h

      go : (b : Bool) → test (waiting d) ≡ b → test (waiting (when (test (waiting (when b (flushed cx) d))) (flushed cx) (when b (flushed cx) d))) ≡ false
      go true h = last (test (waiting (flushed cx d))) refl
      go false h = rw h h

  -- none is sent where it fails at once
  pub while-idle : (test : List Write → Bool) (d : Draft) → test (waiting d) ≡ false → flushed_while cx test d ≡ d
  unfolding flushed_while
  while-idle test d e = rw (e, e)

  -- what each NOCOP keeps
  pub while-keeps : (P : Draft → Type 0) → ((z : Draft) → any_waits (waiting z) ≡ true → P z → P (flushed cx z)) → (test : List Write → Bool) → test [] ≡ false → (d : Draft) → P d → P (flushed_while cx test d)
  unfolding flushed_while
  while-keeps P f test e d k =
      let z : Draft = when (test (waiting d)) (flushed cx) d in
      let kz : P z = when-either P (test (waiting d)) (flushed cx) d (λ h. f d (waits (waiting d) h) k) (λ _. k) in
      when-either P (test (waiting z)) (flushed cx) z (λ h. f z (waits (waiting z) h) kz) (λ _. kz)
    where
      waits : (ws : List Write) → test ws ≡ true → any_waits ws ≡ true
      waits [] h = not-both (test []) h e
      waits (w ∷ ws) h = refl

  pub while-size : (test : List Write → Bool) → test [] ≡ false → (d : Draft) → Sized d → Sized (flushed_while cx test d)
  while-size test e d n = while-keeps Sized (λ z _ k. flushed-size z ∙ k) test e d n

  pub while-plain : (test : List Write → Bool) → test [] ≡ false → (d : Draft) → Plain d → Plain (flushed_while cx test d)
  while-plain test e d q = while-keeps Plain (λ z _ k. flushed-plain z k) test e d q

  pub while-state : (test : List Write → Bool) → test [] ≡ false → (d : Draft) → Sized d → Plain d → (y : ℕ) → y < bank_count → state_in (flushed_while cx test d) y ≡ state_in d y
  while-state test e d n q y m =
      (while-keeps (λ z. Sized z × Plain z × (state_in z y ≡ state_in d y)) (λ z _ k. (flushed-size z ∙ k.0, flushed-plain z k.1, flushed-same z k.0 k.1 y m ∙ k.2)) test e d (n, q, refl)).2

  -- ---- a bank closed

  -- NOCOPs where a PRER to this bank would lose a write that waits
  abbrev pub saved : ℕ → Draft → Draft
  saved x d = flushed_while cx (loses cx x) d

  pub saved-state : (x : ℕ) (d : Draft) → Sized d → Plain d → (y : ℕ) → y < bank_count → state_in (saved x d) y ≡ state_in d y
  saved-state x d n q y m = while-state (loses cx x) refl d n q y m

  pub saved-size : (x : ℕ) (d : Draft) → Sized d → Sized (saved x d)
  saved-size x d n = while-size (loses cx x) refl d n

  -- then no write waits that the PRER would lose
  pub saved-far : (x : ℕ) (d : Draft) → loses cx x (waiting (saved x d)) ≡ false
  saved-far x d = while-ends (loses cx x) refl d

  pub closed-size : (x : ℕ) (d : Draft) → Sized d → Sized (closed cx x d)
  unfolding closed
  closed-size x d n = sent-size (row_packet (Prer x)) (saved x d) ∙ saved-size x d n

  -- "PRER to a bank closes that bank and any neighbour that is open or under refresh."
  pub closed-state : (x : ℕ) (d : Draft) → Sized d → Plain d → (y : ℕ) → y < bank_count → state_in (closed cx x d) y ≡ cond (near cx x y) Closed (state_in d y)
  unfolding closed bank_by
  closed-state x d n q y m =
      row-state (Prer x) (saved x d) (saved-size x d n) y m ∙ ap (λ (b : Bank). cond (near cx x y) Closed b) (saved-state x d n q y m)

  pub closed-waiting : (x : ℕ) (d : Draft) → waiting (closed cx x d) ≡ waiting (saved x d)
  unfolding closed
  closed-waiting x d = row-waiting (Prer x) (saved x d)

  pub closed-plain : (x : ℕ) (d : Draft) → Plain d → Plain (closed cx x d)
  closed-plain x d q = rw (closed-waiting x d) (while-plain (loses cx x) refl d q)

  -- NOCOPs are sent for writes that wait
  pub saved-none : (x : ℕ) (d : Draft) → waiting d ≡ [] → waiting (saved x d) ≡ []
  unfolding flushed_while
  saved-none x d e = rw (e, e) e

  -- ---- the open ones of the banks that a test picks

  shut-stays : (q : Bool) (b : Bank) → is_closed b ≡ true → is_closed (cond q Closed b) ≡ true
  unfolding is_closed
  shut-stays true b e = refl
  shut-stays false b e = e

  -- one bank's turn
  abbrev pub turn_of : (ℕ → Bool) → ℕ → Draft → Draft
  turn_of pick k z = when (pick k && not (is_closed (state_in z k))) (closed cx k) z

  turn-shut : (pick : ℕ → Bool) (k : ℕ) (z : Draft) → Sized z → Plain z → (y : ℕ) → y < bank_count → is_closed (state_in z y) ≡ true
      → is_closed (state_in (turn_of pick k z) y) ≡ true
  turn-shut pick k z n q y m e =
      when-either (λ w. is_closed (state_in w y) ≡ true) (pick k && not (is_closed (state_in z k))) (closed cx k) z
      (λ _. rw (closed-state k z n q y m) (shut-stays (near cx k y) (state_in z y) e)) (λ _. e)

  turn-picked : (pick : ℕ → Bool) (k : ℕ) (z : Draft) → Sized z → Plain z → k < bank_count → pick k ≡ true → is_closed (state_in (turn_of pick k z) k) ≡ true
  unfolding is_closed
  turn-picked pick k z n pl m e = rw e (go (is_closed (state_in z k)) refl)
    where
      go : (c : Bool) → is_closed (state_in z k) ≡ c → is_closed (state_in (when (not c) (closed cx k) z) k) ≡ true
      go true q = q
      go false q = rw (closed-state k z n pl k m, eq-eqb k k refl)

  module _ (pick : ℕ → Bool) (d : Draft) (n : Sized d) (pl : Plain d) where
    pub up-to-size : (k : ℕ) → Sized (closed_up_to cx pick k d)
    unfolding closed_up_to
    up-to-size zero = n
    up-to-size (suc k) =
        let z = closed_up_to cx pick k d in
        when-either Sized (pick k && not (is_closed (state_in z k))) (closed cx k) z (λ e. closed-size k z (up-to-size k)) (λ e. up-to-size k)

    pub up-to-plain : (k : ℕ) → Plain (closed_up_to cx pick k d)
    unfolding closed_up_to
    up-to-plain zero = pl
    up-to-plain (suc k) =
        let z = closed_up_to cx pick k d in
        when-either Plain (pick k && not (is_closed (state_in z k))) (closed cx k) z (λ e. closed-plain k z (up-to-plain k)) (λ e. up-to-plain k)

    -- a closed bank stays closed
    pub up-to-shut : (k y : ℕ) → y < bank_count → is_closed (state_in d y) ≡ true → is_closed (state_in (closed_up_to cx pick k d) y) ≡ true
    unfolding closed_up_to
    up-to-shut zero y m e = e
    up-to-shut (suc k) y m e = turn-shut pick k (closed_up_to cx pick k d) (up-to-size k) (up-to-plain k) y m (up-to-shut k y m e)

    -- the picked ones are closed
    pub up-to-picked : (k : ℕ) → k ≤ bank_count → (y : ℕ) → y < k → pick y ≡ true → is_closed (state_in (closed_up_to cx pick k d) y) ≡ true
    unfolding closed_up_to
    up-to-picked zero l y m e = absurd (omega arith)
    up-to-picked (suc k) l y m e = go (eqb y k) refl (λ h. up-to-picked k (omega arith) y h e)
      where
        z : Draft
        z = closed_up_to cx pick k d

        go : (c : Bool) → eqb y k ≡ c → (y < k → is_closed (state_in z y) ≡ true) → is_closed (state_in (turn_of pick k z) y) ≡ true
        go true q h = let j : y ≡ k = eqb-true y k q in rw j (turn-picked pick k z (up-to-size k) (up-to-plain k) (omega arith) (rw j at e))
        go false q h = turn-shut pick k z (up-to-size k) (up-to-plain k) y (omega arith) (h (omega (arith, eqb-false y k q)))

    -- a bank that is not near a picked one is as it was
    pub up-to-other : (k y : ℕ) → y < bank_count → ((x : ℕ) → x < k → pick x ≡ true → near cx x y ≡ false)
        → state_in (closed_up_to cx pick k d) y ≡ state_in d y
    unfolding closed_up_to
    up-to-other zero y m h = refl
    up-to-other (suc k) y m h =
        let z = closed_up_to cx pick k d in
        when-either (λ w. state_in w y ≡ state_in d y) (pick k && not (is_closed (state_in z k))) (closed cx k) z
        (λ e. closed-state k z (up-to-size k) (up-to-plain k) y m ∙ rw (h k (omega arith) (and_left (pick k) _ e)) (up-to-other k y m (λ x l. h x (omega arith))))
        (λ _. up-to-other k y m (λ x l. h x (omega arith)))

    -- no write waits where none did
    pub up-to-waiting : (k : ℕ) → waiting d ≡ [] → waiting (closed_up_to cx pick k d) ≡ []
    unfolding closed_up_to
    up-to-waiting zero e = e
    up-to-waiting (suc k) e =
        let z = closed_up_to cx pick k d in
        let h = up-to-waiting k e in
        when-either (λ w. waiting w ≡ []) (pick k && not (is_closed (state_in z k))) (closed cx k) z
        (λ _. closed-waiting k z ∙ saved-none k z h) (λ _. h)

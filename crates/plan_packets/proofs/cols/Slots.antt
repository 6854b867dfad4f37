-- The least instants of COL packets in stored numbers are those of the plan.
-- Assumes nothing.
use Rattle.std.specs.Prelude.{None, Some}
use Prim.Native.Nat.{ℕ, ◌+◌, ◌*◌, ◌-◌, ◌<◌, ◌≤◌, max}
use mathlib.Core.Path.{◌≡◌, refl, sym, ap, ap₂, ◌∙◌}
use mathlib.Core.Bool.{Bool, true, false, cond, ◌&&◌, ◌||◌}
use mathlib.Core.List.{List, [], ◌∷◌}
use native.Mathlib.Nat.{max-zero}
use native.Mathlib.Omega.{arith}
use borrow.Author.Tests.{leb-true, le-leb}
use lib.Dec.{leb}
use lib.ListN.{length}
use Rattle.settings.specs.declared.Settings.{Settings}
use Rattle.packet.specs.declared.ColPacket.TheVariants.{Nocop, Wr, Rd}
use Rattle.record.specs.declared.Record.{Record}
use Rattle.spec_rules.specs.declared.BankTrack.{BankTrack}
use Rattle.spec_rules.specs.declared.Write.{Write}
use Rattle.spec_rules.specs.declared.Buffer.{Buffer}
use Rattle.spec_rules.specs.declared.Buffer.TheVariants.{Empty, One, Two}
use Rattle.spec_rules.specs.declared.Channel.{Channel}
use Rattle.spec_rules.specs.Neighbour.{context_of}
use Rattle.spec_rules.specs.Packets.{traits, col_traits, implied_traits, instant}
use Rattle.spec_rules.specs.History.{only_write}
use Rattle.spec_rules.specs.Distances.{only_act}
use Rattle.spec_rules.specs.Channel.{never, track_of, waiting_of}
use Rattle.spec_rules.specs.Checks.{since, bounds}
use Rattle.spec_rules.specs.Earliest.{placed_at, earliest, least_from, retire_bound, slot_from, soonest}
use Rattle.spec_rules.proofs.Bools.{iff-eq}
use Rattle.spec_rules.proofs.ByCommand.{nocop-bounds, rd-bounds, wr-bounds, retire-bounds}
use Rattle.spec_state.specs.ChannelBytes.{instant_of, track_in, lasts_in, write_in, channel_in}
use Rattle.spec_rules.proofs.LeavingLaws.{leaving-first, leaving-none, slot-rd, slot-nocop, slot-wr-one, slot-wr-two}
use Rattle.chan_view.proofs.BoundLaws.{own-bound}
use Rattle.spec_plan.specs.declared.PlannerState.{PlannerState}
use Rattle.spec_plan.specs.Plan.{col_packet, slot, leaver}
use Rattle.spec_plan.specs.PlannerBytes.{planner_in}
use Rattle.plan_bytes.specs.Form.Numbers.{word, waits_in, held_bank, held_closes, two_in}
use Rattle.plan_bytes.proofs.Since.{since-some}
use Rattle.plan_bytes.proofs.Instants.{said-max, said-since, said-less, said-some, some-said, floored, own-earliest}
use Rattle.plan_bytes.proofs.States.{rest_in, sized, track-at, two_is, one-is, none_is, waiting-is}
use Rattle.plan_packets.specs.Form.RowSlots.{prer_asks}
use Rattle.plan_packets.proofs.rows.Slots.{prer-said}
use Rattle.plan_packets.specs.Form.ColSlots.{col_base, rd_at, rda_at, retire_at, nocop_at, closing_at, wr_base, retires_in, wr_from, wr_at}

assoc : (a b c : ℕ) → max a (max b c) ≡ max (max a b) c
assoc a b c = omega arith

-- ---- the plan's slots by the state, command by command

module _ (s : Settings) (p : PlannerState) (e : length p.channel.banks ≡ 32) (low : 4 ≤ p.now.0) where
  abbrev ch : Channel
  ch = p.channel

  -- what now and the last packets ask
  abbrev col_floor : ℕ
  col_floor = max (max p.now.0 ch.lasts.packet.0) (since ch.lasts.col.0 s.cc)

  -- what the last ACT of a bank asks
  abbrev own_asks : ℕ → ℕ → ℕ
  own_asks gap x = since (track_of ch x).act.0 gap

  rd-by : (x c m : ℕ) → slot (context_of s) p (col_packet (Rd x c m false)) ≡ max col_floor (own_asks s.rcd x)
  unfolding slot least_from traits col_traits context_of
  rd-by x c m =
      let r : Record = col_packet (Rd x c m false) in
      slot-rd (context_of s) ch never (soonest (context_of s) ch r p.now.0) x c m false (waiting_of ch.buffer)
      ∙ ap (λ (n : ℕ). max p.now.0 n) (own-earliest (context_of s) ch r refl)
      ∙ rw (rd-bounds (context_of s) ch x c m false, own-bound s ch e only_act s.rcd x) (floored p low _ _)

  -- what an implied PRER asks tOFFP before it
  abbrev implied_asks : ℕ → ℕ
  implied_asks x = bounds (context_of s) ch (implied_traits x) - s.offp

  rda-by : (x c m : ℕ) → slot (context_of s) p (col_packet (Rd x c m true)) ≡ max (max col_floor (own_asks s.rcd x)) (implied_asks x)
  unfolding slot least_from earliest traits col_traits context_of
  rda-by x c m =
      let r : Record = col_packet (Rd x c m true) in
      slot-rd (context_of s) ch never (soonest (context_of s) ch r p.now.0) x c m true (waiting_of ch.buffer)
      ∙ rw (rd-bounds (context_of s) ch x c m true, own-bound s ch e only_act s.rcd x) (aside p.now.0 _ (implied_asks x) ∙ ap (λ (n : ℕ). max n (implied_asks x)) (floored p low _ _))
    where
      aside : (n k i : ℕ) → max n (max 4 (max k i)) ≡ max (max n (max 4 k)) i
      aside n k i = omega arith

  -- the retire of a write
  abbrev retire_asks : Write → ℕ
  retire_asks w = max (since w.at.0 s.rtr) (own_asks s.rcd w.bank)

  -- of one that does not close its bank, and of one that does
  retire-by : (r : Record) (w : Write) → 4 ≤ w.at.0 → w.close ≡ false → retire_bound (context_of s) ch r w ≡ retire_asks w
  unfolding context_of
  retire-by r w l f = rw (retire-bounds (context_of s) ch w.bank, own-bound s ch e only_act s.rcd w.bank, f, since-some w.at.0 s.rtr (omega arith)) (alone _ _ s.offp)
    where
      alone : (a b g : ℕ) → max a (max b (0 - g)) ≡ max a b
      alone a b g = omega arith

  closing-by : (r : Record) (w : Write) → 4 ≤ w.at.0 → w.close ≡ true → retire_bound (context_of s) ch r w ≡ max (retire_asks w) (implied_asks w.bank)
  unfolding context_of
  closing-by r w l f = rw (retire-bounds (context_of s) ch w.bank, own-bound s ch e only_act s.rcd w.bank, f, since-some w.at.0 s.rtr (omega arith)) (assoc _ _ (implied_asks w.bank))

  -- NOCOP
  nocop-floor : (m : ℕ) → soonest (context_of s) ch (col_packet (Nocop m)) p.now.0 ≡ col_floor
  unfolding traits col_traits context_of
  nocop-floor m =
      ap (λ (n : ℕ). max p.now.0 n) (own-earliest (context_of s) ch (col_packet (Nocop m)) refl)
      ∙ rw (nocop-bounds (context_of s) ch m) (floored p low (since ch.lasts.col.0 s.cc) 0 ∙ max-zero col_floor)

  nocop-by : (m : ℕ) (w : Write) (ws : List Write) → waiting_of ch.buffer ≡ w ∷ ws → slot (context_of s) p (col_packet (Nocop m)) ≡ max col_floor (retire_bound (context_of s) ch (col_packet (Nocop m)) w)
  unfolding slot least_from
  nocop-by m w ws z =
      let r : Record = col_packet (Nocop m) in
      let t0 : ℕ = soonest (context_of s) ch r p.now.0 in
      ap (λ (l : List Write). slot_from (context_of s) ch r t0 l) z
      ∙ slot-nocop (context_of s) ch never t0 m w ws
      ∙ ap (λ (n : ℕ). max n (retire_bound (context_of s) ch r w)) (nocop-floor m)

  -- WR but for what it retires
  abbrev wr_floor : ℕ → ℕ
  wr_floor x = max col_floor (max (own_asks (s.rcd - s.rtr) x) (since ch.lasts.rd.0 (s.cc + s.cac - s.cwd)))

  module _ (x c m : ℕ) (close : Bool) where
    abbrev wr : Record
    wr = col_packet (Wr x c m close)

    wr-floor : soonest (context_of s) ch wr p.now.0 ≡ wr_floor x
    unfolding traits col_traits context_of
    wr-floor =
        ap (λ (n : ℕ). max p.now.0 n) (own-earliest (context_of s) ch wr refl)
        ∙ rw (wr-bounds (context_of s) ch x c m close, own-bound s ch e only_act (s.rcd - s.rtr) x) (floored p low _ _)

    abbrev from : Buffer → ℕ
    from b = slot_from (context_of s) ch wr (soonest (context_of s) ch wr p.now.0) (waiting_of b)

    -- by what waits
    wr-none : ch.buffer ≡ Empty → slot (context_of s) p wr ≡ wr_floor x
    unfolding slot least_from waiting_of
    wr-none z = ap from z ∙ wr-floor

    wr-one : (w : Write) → ch.buffer ≡ One w → 4 ≤ w.at.0 → w.close ≡ false
        → slot (context_of s) p wr ≡ cond (leb (w.at.0 + s.rtr) (wr_floor x)) (max (wr_floor x) (retire_asks w)) (wr_floor x)
    unfolding slot least_from waiting_of context_of
    wr-one w z l f =
        let t0 : ℕ = soonest (context_of s) ch wr p.now.0 in
        ap from z
        ∙ slot-wr-one (context_of s) ch never t0 x c m close w
        ∙ ap (λ (q : Bool). cond (q || leb (w.at.0 + s.rtr) t0) (max t0 (retire_bound (context_of s) ch wr w)) t0) f
        ∙ ap₂ (λ (t0 r : ℕ). cond (leb (w.at.0 + s.rtr) t0) (max t0 r) t0) wr-floor (retire-by wr w l f)

    wr-two : (w y : Write) → ch.buffer ≡ Two w y → 4 ≤ w.at.0 → w.close ≡ false → slot (context_of s) p wr ≡ max (wr_floor x) (retire_asks w)
    unfolding slot least_from waiting_of
    wr-two w y z l f = ap from z ∙ slot-wr-two (context_of s) ch never (soonest (context_of s) ch wr p.now.0) x c m close w y [] ∙ ap₂ max wr-floor (retire-by wr w l f)

    -- what it retires
    none-leaver : ch.buffer ≡ Empty → leaver (context_of s) p wr ≡ None
    none-leaver z = leaving-none (context_of s) ch (placed_at (slot (context_of s) p wr) wr) z

    first-leaver : (w : Write) (ws : List Write) → waiting_of ch.buffer ≡ w ∷ ws → leaver (context_of s) p wr ≡ only_write (leb (w.at.0 + s.rtr) (slot (context_of s) p wr)) (Some w)
    unfolding placed_at instant traits col_traits context_of
    first-leaver w ws z = leaving-first (context_of s) ch (placed_at (slot (context_of s) p wr) wr) w ws z refl

    one-leaver : (w : Write) → ch.buffer ≡ One w → 4 ≤ w.at.0 → w.close ≡ false → leaver (context_of s) p wr ≡ only_write (leb (w.at.0 + s.rtr) (wr_floor x)) (Some w)
    unfolding waiting_of
    one-leaver w z l f =
        let same : leb (w.at.0 + s.rtr) (slot (context_of s) p wr) ≡ leb (w.at.0 + s.rtr) (wr_floor x) = rw (wr-one w z l f) (go (leb (w.at.0 + s.rtr) (wr_floor x)) refl) in
        first-leaver w [] (rw z) ∙ ap (λ (q : Bool). only_write q (Some w)) same
      where
        go : (q : Bool) → leb (w.at.0 + s.rtr) (wr_floor x) ≡ q → leb (w.at.0 + s.rtr) (cond q (max (wr_floor x) (retire_asks w)) (wr_floor x)) ≡ q
        go true h = le-leb (w.at.0 + s.rtr) (max (wr_floor x) (retire_asks w)) (omega (arith, leb-true (w.at.0 + s.rtr) (wr_floor x) h))
        go false h = h

    two-leaver : (w y : Write) → ch.buffer ≡ Two w y → 4 ≤ w.at.0 → w.close ≡ false → leaver (context_of s) p wr ≡ Some w
    unfolding waiting_of
    two-leaver w y z l f =
        let late : leb (w.at.0 + s.rtr) (slot (context_of s) p wr) ≡ true =
        rw (wr-two w y z l f) (le-leb (w.at.0 + s.rtr) (max (wr_floor x) (retire_asks w)) (omega (arith, since-some w.at.0 s.rtr (omega arith)))) in
        first-leaver w (y ∷ []) (rw z) ∙ ap (λ (q : Bool). only_write q (Some w)) late

-- ---- in stored numbers

module _ (s : Settings) (b : List ℕ) (low : 4 ≤ (planner_in b).now.0) where
  abbrev state : PlannerState
  state = planner_in b

  col-said : instant_of (col_base s b) ≡ col_floor s state (sized b) low
  unfolding col_base planner_in channel_in lasts_in
  col-said = simp (said-max, said-since)

  own-said : (g x : ℕ) → x < 32 → instant_of (since (word b (128 + 4 * x)) g) ≡ own_asks s state (sized b) low g x
  unfolding track_in
  own-said g x l = said-since (word b (128 + 4 * x)) g ∙ sym (ap (λ (k : BankTrack). since k.act.0 g) (track-at b x l))

  pub rd-slot : (x c m : ℕ) → x < 32 → instant_of (rd_at s b x) ≡ slot (context_of s) state (col_packet (Rd x c m false))
  unfolding rd_at
  rd-slot x c m l = said-max (col_base s b) _ ∙ ap₂ max col-said (own-said s.rcd x l) ∙ sym (rd-by s state (sized b) low x c m)

  -- with what an implied PRER of bank x asks tOFFP before it, after a bound that is an instant
  implied-said : (x v n : ℕ) → x < 32 → 4 ≤ n → instant_of v ≡ n → instant_of (max v (prer_asks s b x - s.offp)) ≡ max n (implied_asks s state (sized b) low x)
  implied-said x v n l h e = said-less (prer_asks s b x) v n s.offp (some-said v (rw e h)) e ∙ rw (prer-said s b low x l)

  pub rda-slot : (x c m : ℕ) → x < 32 → instant_of (rda_at s b x) ≡ slot (context_of s) state (col_packet (Rd x c m true))
  unfolding rda_at
  rda-slot x c m l =
      implied-said x (rd_at s b x) _ l (omega (arith, low)) (rd-slot x c m l ∙ rd-by s state (sized b) low x c m) ∙ sym (rda-by s state (sized b) low x c m)

  retire-said : held_bank b < 32 → instant_of (retire_at s b) ≡ retire_asks s state (sized b) low (write_in b 736)
  unfolding retire_at
  retire-said l = said-max (since (word b 740) s.rtr) _ ∙ ap₂ max (said-since (word b 740) s.rtr) (own-said s.rcd (held_bank b) l)

  nocop-said : held_bank b < 32 → instant_of (nocop_at s b) ≡ max (col_floor s state (sized b) low) (retire_asks s state (sized b) low (write_in b 736))
  unfolding nocop_at
  nocop-said l = said-max (col_base s b) _ ∙ ap₂ max col-said (retire-said l)

  module _ (m : ℕ) (w : waits_in b ≡ true) (l : held_bank b < 32) (h : 4 ≤ (write_in b 736).at.0) where
    abbrev nocop : Record
    nocop = col_packet (Nocop m)

    by-held : slot (context_of s) state nocop ≡ max (col_floor s state (sized b) low) (retire_bound (context_of s) state.channel nocop (write_in b 736))
    by-held = nocop-by s state (sized b) low m (write_in b 736) (rest_in b) (waiting-is b w)

    pub nocop-slot : held_closes b ≡ false → instant_of (nocop_at s b) ≡ slot (context_of s) state nocop
    nocop-slot f = nocop-said l ∙ sym (by-held ∙ ap (λ (n : ℕ). max (col_floor s state (sized b) low) n) (retire-by s state (sized b) low nocop (write_in b 736) h f))

    pub closing-slot : held_closes b ≡ true → instant_of (closing_at s b) ≡ slot (context_of s) state nocop
    unfolding closing_at
    closing-slot f =
        implied-said (held_bank b) (nocop_at s b) _ l (omega (arith, low)) (nocop-said l)
        ∙ sym (by-held ∙ ap (λ (n : ℕ). max (col_floor s state (sized b) low) n) (closing-by s state (sized b) low nocop (write_in b 736) h f) ∙ assoc _ _ _)

  rd-last-said : (g : ℕ) → instant_of (since (word b 720) g) ≡ since state.channel.lasts.rd.0 g
  unfolding planner_in channel_in lasts_in
  rd-last-said g = said-since (word b 720) g

  -- ---- WR

  module _ (x c m : ℕ) (close : Bool) (l : x < 32) (h : waits_in b ≡ true → held_bank b < 32) (k : waits_in b ≡ true → 4 ≤ (write_in b 736).at.0) (f : waits_in b ≡ true → held_closes b ≡ false) where
    abbrev v : ℕ
    v = wr_base s b x

    abbrev floor : ℕ
    floor = wr_floor s state (sized b) low x

    abbrev wr' : Record
    wr' = col_packet (Wr x c m close)

    base-said : instant_of v ≡ floor
    unfolding wr_base
    base-said =
        said-max (col_base s b) _
        ∙ ap₂ max col-said (said-max (since (word b (128 + 4 * x)) (s.rcd - s.rtr)) _ ∙ ap₂ max (own-said (s.rcd - s.rtr) x l) (rd-last-said (s.cc + s.cac - s.cwd)))

    base-some : 1 ≤ v
    base-some = some-said v (rw base-said (omega (arith, low)))

    -- whether tRTR has passed
    passed-said : waits_in b ≡ true → leb (since (word b 740) s.rtr) v ≡ leb ((write_in b 736).at.0 + s.rtr) floor
    passed-said w =
        let a : ℕ = word b 740 in
        let one : 1 ≤ a = some-said a (k w) in
        let big = base-some in
        rw (since-some a s.rtr one, said-some a one, ← base-said, said-some v base-some)
        (iff-eq (leb (a + s.rtr) v) (leb (a + 3 + s.rtr) (v + 3)) (λ e. le-leb (a + 3 + s.rtr) (v + 3) (omega (arith, leb-true (a + s.rtr) v e))) (λ e. le-leb (a + s.rtr) v (omega (arith, leb-true (a + 3 + s.rtr) (v + 3) e))))

    later-said : waits_in b ≡ true → instant_of (max v (retire_at s b)) ≡ max floor (retire_asks s state (sized b) low (write_in b 736))
    later-said w = said-max v _ ∙ ap₂ max base-said (retire-said (h w))

    pub wr-slot : instant_of (wr_at s b x) ≡ slot (context_of s) state wr'
    unfolding wr_at retires_in
    wr-slot = go (waits_in b) refl (two_in b) refl
      where
        one : (q : Bool) → instant_of (max v (retire_at s b)) ≡ max floor (retire_asks s state (sized b) low (write_in b 736))
            → instant_of (wr_from s b v q) ≡ cond q (max floor (retire_asks s state (sized b) low (write_in b 736))) floor
        one true e = e
        one false e = base-said

        go : (w : Bool) → waits_in b ≡ w → (t : Bool) → two_in b ≡ t → instant_of (wr_from s b v (w && (t || leb (since (word b 740) s.rtr) v))) ≡ slot (context_of s) state wr'
        go false w t e = base-said ∙ sym (wr-none s state (sized b) low x c m close (none_is b w))
        go true w true e = later-said w ∙ sym (wr-two s state (sized b) low x c m close _ _ (two_is b e) (k w) (f w))
        go true w false e =
            one (leb (since (word b 740) s.rtr) v) (later-said w)
            ∙ ap (λ (q : Bool). cond q (max floor (retire_asks s state (sized b) low (write_in b 736))) floor) (passed-said w)
            ∙ sym (wr-one s state (sized b) low x c m close _ (one-is b w e) (k w) (f w))

    pub wr-leaver : leaver (context_of s) state wr' ≡ only_write (retires_in s b v) (Some (write_in b 736))
    unfolding retires_in
    wr-leaver = go (waits_in b) refl (two_in b) refl
      where
        go : (w : Bool) → waits_in b ≡ w → (t : Bool) → two_in b ≡ t → leaver (context_of s) state wr' ≡ only_write (w && (t || leb (since (word b 740) s.rtr) v)) (Some (write_in b 736))
        go false w t e = none-leaver s state (sized b) low x c m close (none_is b w)
        go true w true e = two-leaver s state (sized b) low x c m close _ _ (two_is b e) (k w) (f w)
        go true w false e = one-leaver s state (sized b) low x c m close _ (one-is b w e) (k w) (f w) ∙ ap (λ (q : Bool). only_write q (Some (write_in b 736))) (sym (passed-said w))

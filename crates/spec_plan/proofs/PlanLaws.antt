-- Every step of the planner keeps its invariant, and each of its records passes the tests on the state, at the least instant.
-- Assumes nothing.
use Rattle.std.specs.Prelude.{Option, None, Some}
use Prim.Native.Nat.{ℕ, zero, suc, ◌+◌, ◌≤◌, ◌<◌, ◌^◌}
use mathlib.Core.Path.{◌≡◌, refl, sym, subst, ap, ◌∙◌}
use mathlib.Core.Bool.{Bool, true, false, not, ◌&&◌, ◌||◌, cond, or-true, and-false}
use mathlib.Core.List.{List, [], ◌∷◌}
use lib.Dec.{eqb, ltb}
use borrow.Author.Tests.{lt-ltb, eqb-true, eq-eqb, not-true, not-false}
use native.Mathlib.Nat.{mod-lt}
use native.Mathlib.Omega.{arith}
use Rattle.packet.specs.declared.RowPacket.{RowPacket}
use Rattle.packet.specs.declared.RowPacket.TheVariants.{Act, Prer, Refa, Refp}
use Rattle.packet.specs.declared.ColPacket.TheVariants.{Nocop, Rd}
use Rattle.packet.specs.Row.{row_fits}
use Rattle.packet.specs.Col.{col_fits}
use Rattle.record.specs.declared.Dualoct.{Dualoct}
use Rattle.record.specs.declared.Record.{Record}
use Rattle.record.specs.declared.Place.{Place}
use Rattle.record.specs.Record.{record_fits}
use Rattle.record.proofs.RequestLaws.{InPlace}
use Rattle.spec_rules.specs.declared.Bank.{Bank}
use Rattle.spec_rules.specs.declared.Bank.TheVariants.{Closed, Open, Refresh}
use Rattle.spec_rules.specs.declared.Write.{Write}
use Rattle.spec_rules.specs.declared.Buffer.{Buffer}
use Rattle.spec_rules.specs.declared.Buffer.TheVariants.{Empty, One, Two}
use Rattle.spec_rules.specs.declared.Channel.{Channel}
use Rattle.spec_rules.specs.Neighbour.{bank_count, Context, Neighbours, near}
use Rattle.spec_rules.specs.Packets.{traits, row_traits, col_traits, is_packet}
use Rattle.spec_rules.specs.History.{bank_by, is_closed, is_open, only, first, rest, left, queued, any_write, retire_implies, closed_by, reaches, two}
use Rattle.spec_rules.specs.Rules.{open_for, stays}
use Rattle.spec_rules.specs.Channel.{waiting_of, newest_due, due_of, after_data, after}
use Rattle.spec_rules.specs.Earliest.{placed_at, fits, may_stay, soonest, least_from}
use Rattle.spec_rules.proofs.Bools.{not-both, and_right, neither}
use Rattle.spec_rules.proofs.EarliestLaws.{able, leaver_fits, picked-late}
use Rattle.spec_state.proofs.AfterLaws.{state_by}
use Rattle.spec_state.proofs.RoundTrip.{WritesIn}
use Rattle.spec_plan.specs.declared.PlannerState.{PlannerState}
use Rattle.spec_plan.specs.Plan.{any_closes, Draft, row_packet, col_packet, waiting, state_in, open_on, hits, any_waits, slot, leaver, sent, flushed, flushed_while, closed, closed_up_to, cleared, loses, delays, reached, planned_read, loaded, written, planned_write, turned, planned_refresh, planned_flush, planned_close}
use Rattle.spec_plan.proofs.SentLaws.{wr_packet, newer, wr-waiting, when-either, sent-now, sent-mask, sent-second, sent-refresh, sent-size, sent-state, sent-due, row-state, row-waiting, read-gone, read-waiting, flushed-waiting, flushed-state, Plain, flushed-plain, while-keeps, while-ends, while-state, saved, saved-far, up-to-picked}
use Rattle.spec_plan.proofs.Invariant.{Banked, all_open, in_banks, none-picked, Held, Inv, NearClosed, Changed, banked-shut, banked-open, held-far, far-other, held_stays, left_in, left_open, queued-in, queued-open, newest_closes, leaving-plain, left-plain, queued-plain, queued-newest, fits_by, leaver-plain, leaver-nocop, free-near, shifted_in}
use Rattle.spec_plan.proofs.Trace.{Trace, trace-sent, trace-loaded}

-- planner p has come this far in a call
pub record Good (cx : Context) (p : PlannerState) (d : Draft) : Type 0 where
  pub trace : Trace cx p d
  pub inv : Inv cx d.planner
  pub queue : newest_closes (waiting d) ≡ true

-- ---- one packet

-- a ROW packet may leave the waiting writes where none closes its bank, and RD where fewer than two wait
row-able : (cx : Context) (ch : Channel) (ws : List Write) (p : RowPacket) → any_closes ws ≡ false → able cx ch ws (row_packet p) ≡ true
unfolding traits row_traits
row-able cx ch ws p e = rw (row_stays ws p, e)
  where
    row_stays : (ws : List Write) (p : RowPacket) → stays ws (traits (row_packet p)) ≡ true
    row_stays [] p = refl
    row_stays (x ∷ []) (Act b row) = refl
    row_stays (x ∷ []) (Prer b) = refl
    row_stays (x ∷ []) (Refa b) = refl
    row_stays (x ∷ []) (Refp b) = refl
    row_stays (x ∷ y ∷ ws) (Act b row) = refl
    row_stays (x ∷ y ∷ ws) (Prer b) = refl
    row_stays (x ∷ y ∷ ws) (Refa b) = refl
    row_stays (x ∷ y ∷ ws) (Refp b) = refl

read-able : (cx : Context) (ch : Channel) (ws : List Write) (b c m : ℕ) (x : Bool) → two ws ≡ false → able cx ch ws (col_packet (Rd b c m x)) ≡ true
unfolding traits col_traits
read-able cx ch [] b c m x e = refl
read-able cx ch (y ∷ []) b c m x e = rw (or-true (not (y.close || false)))
read-able cx ch (y ∷ z ∷ ws) b c m x e = not-both true refl e

-- a PRER that closes nothing, or these banks
pub implied-changed : (cx : Context) (o : Option ℕ) (x : ℕ) (b : Bank) → closed_by cx o x b ≡ cond (reaches cx o x) Closed b
implied-changed cx None x b = refl
implied-changed cx (Some p) x b = refl

pub rest-far : (cx : Context) (ws : List Write) → newest_closes ws ≡ true → in_banks (reaches cx (retire_implies (first ws))) (rest ws) ≡ false
rest-far cx [] h = refl
rest-far cx (x ∷ []) h = refl
rest-far cx (x ∷ y ∷ ws) h = subst (λ q. in_banks (reaches cx (only q (Some x.bank))) (y ∷ ws) ≡ false) (sym (not-true x.close h)) (none-picked ws)

rest-queue : (b : Buffer) → newest_closes (rest (waiting_of b)) ≡ true
unfolding waiting_of
rest-queue Empty = refl
rest-queue (One x) = refl
rest-queue (Two x y) = refl

module _ (cx : Context) where
  pub sent-late : (r : Record) (d : Draft) → d.planner.now.0 ≤ slot cx d.planner r
  unfolding slot least_from
  sent-late r d =
      let t0 : ℕ = soonest cx d.planner.channel r d.planner.now.0 in
      omega (arith, picked-late cx d.planner.channel r t0 (waiting d))

  module _ (d : Draft) (v : Inv cx d.planner) (r : Record) (e : (traits r).writes ≡ None) where
    -- a packet that leaves the writes, in banks that it does not change
    held-sent : waiting (sent cx r d) ≡ waiting d → (q : ℕ → Bool) (new : Bank) → in_banks q (waiting d) ≡ false
        → Changed q new (state_in d) (state_in (sent cx r d)) → Held cx (sent cx r d).planner.channel
    held-sent same q new far c =
        record {
          write-in = rw same v.held.write-in;
          opened = rw same (held_stays cx (state_in d) (state_in (sent cx r d)) q new (waiting d) v.held.write-in far c v.held.opened);
          no_due = sent-due cx r d ∙ rw e;
        }

    -- a packet after which the banks are as they must be, and the write
    inv-sent : Banked cx (state_in (sent cx r d)) → Held cx (sent cx r d).planner.channel → Inv cx (sent cx r d).planner
    unfolding sent
    inv-sent b h =
        record {
          size = sent-size cx r d ∙ v.size;
          banked = b;
          held = h;
          refresh-in = v.refresh-in;
          mask-in = shifted_in (leaver cx d.planner r) d.planner.mask d.planner.second v.mask-in v.second-in;
          second-in = v.second-in;
          low = omega (arith, sent-late r d, v.low);
        }

pub bank-word : (x : ℕ) → x < bank_count → ltb x 32 ≡ true
unfolding bank_count
bank-word x m = lt-ltb x 32 m

module _ (cx : Context) (ns : Neighbours cx) (p : PlannerState) where
  -- and no write that waits closes its bank
  abbrev pub G : Draft → Type 0
  G d = Good cx p d × Plain cx d

  -- ---- each packet of the planner

  -- NOCOP retires the older write, and closes its bank where the write does
  pub good-flushed : (d : Draft) → Good cx p d → Good cx p (flushed cx d)
  unfolding flushed traits col_traits is_packet record_fits col_fits
  good-flushed d k =
      let r : Record = col_packet (Nocop 0xFFFF) in
      let ch : Channel = d.planner.channel in
      let q : ℕ → Bool = reaches cx (retire_implies (first (waiting d))) in
      let c : Changed q Closed (state_in d) (state_in (sent cx r d)) = λ x m. flushed-state cx d k.inv.size x m ∙ implied-changed cx (retire_implies (first (waiting d))) x (state_in d x) in
      let ws : waiting (sent cx r d) ≡ rest (waiting d) = flushed-waiting cx d in
      let still : all_open (state_in (sent cx r d)) (rest (waiting d)) ≡ true =
      held_stays cx (state_in d) (state_in (sent cx r d)) q Closed (rest (waiting d)) (rest_in_lem (waiting d) k.inv.held.write-in) (rest-far cx (waiting d) k.queue) c (rest-open (waiting d) (state_in d) k.inv.held.opened) in
      record {
        trace = trace-sent cx p d k.trace r refl refl k.inv.mask-in
            (fits_by cx ch k.inv.held r refl refl refl refl (none-picked (waiting d)) (none-picked (waiting d))) (or-true (may_stay cx ch r (waiting d)))
            (leaver-nocop cx ch (waiting d) k.inv.held.opened k.queue);
        inv = inv-sent cx d k.inv r refl
            (banked-shut cx (state_in d) (state_in (sent cx r d)) k.inv.banked q c)
            (record { write-in = rw ws (rest_in_lem (waiting d) k.inv.held.write-in); opened = rw ws still; no_due = sent-due cx r d });
        queue = rw ws (rest-queue d.planner.channel.buffer);
      }
    where
      rest_in_lem : (ws : List Write) → WritesIn cx ws → WritesIn cx (rest ws)
      rest_in_lem [] i = tt
      rest_in_lem (w ∷ ws) i = i.1

      rest-open : (ws : List Write) (state : ℕ → Bank) → all_open state ws ≡ true → all_open state (rest ws) ≡ true
      rest-open [] state h = refl
      rest-open (w ∷ ws) state h = and_right (is_open (state w.bank)) _ h

  module _ (d : Draft) (k : G d) where
    abbrev held-leaver : (r : Record) → open_for (state_in d) (traits r).reads ≡ true → open_for (state_in d) (traits r).writes ≡ true → leaver_fits cx d.planner.channel r (waiting d) ≡ true
    held-leaver r reads writes = leaver-plain cx d.planner.channel r (waiting d) k.0.inv.held.opened k.1 reads writes

    -- a packet that leaves the writes, in banks that it does not change
    good-kept : (r : Record) → is_packet r ≡ true → record_fits cx.settings r ≡ true → fits cx d.planner.channel r ≡ true → able cx d.planner.channel (waiting d) r ≡ true
        → open_for (state_in d) (traits r).reads ≡ true → (traits r).writes ≡ None
        → waiting (sent cx r d) ≡ waiting d → (q : ℕ → Bool) (new : Bank) → in_banks q (waiting d) ≡ false
        → Changed q new (state_in d) (state_in (sent cx r d)) → Banked cx (state_in (sent cx r d)) → G (sent cx r d)
    good-kept r packet word fitting a reads e same q new far c b = (
      record {
        trace = trace-sent cx p d k.0.trace r packet word k.0.inv.mask-in fitting a (held-leaver r reads (rw e));
        inv = inv-sent cx d k.0.inv r e b (held-sent cx d k.0.inv r e same q new far c);
        queue = rw same k.0.queue;
      },
      rw same k.1,
    )

    pub good-prer : (x : ℕ) → x < bank_count → in_banks (near cx x) (waiting d) ≡ false → G (sent cx (row_packet (Prer x)) d)
    unfolding traits row_traits is_packet record_fits row_fits bank_by
    good-prer x m far =
        let r : Record = row_packet (Prer x) in
        let c : Changed (near cx x) Closed (state_in d) (state_in (sent cx r d)) = row-state cx (Prer x) d k.0.inv.size in
        good-kept r refl (bank-word x m) (fits_by cx d.planner.channel k.0.inv.held r refl refl refl refl far (none-picked (waiting d))) (row-able cx d.planner.channel (waiting d) (Prer x) k.1) refl refl
        (row-waiting cx (Prer x) d) (near cx x) Closed far c (banked-shut cx (state_in d) (state_in (sent cx r d)) k.0.inv.banked (near cx x) c)

    -- a write does not wait near banks that are closed
    far_from : (b : ℕ) → NearClosed cx (state_in d) b → in_banks (near cx b) (waiting d) ≡ false
    far_from b n = held-far cx (state_in d) b (waiting d) k.0.inv.held.write-in k.0.inv.held.opened n

    other-than : (b : ℕ) → NearClosed cx (state_in d) b → in_banks (λ x. eqb x b) (waiting d) ≡ false
    other-than b n = far-other cx (state_in d) b (waiting d) (far_from b n)

    pub good-act : (b row : ℕ) → b < bank_count → row < cx.settings.rows → NearClosed cx (state_in d) b → G (sent cx (row_packet (Act b row)) d)
    unfolding traits row_traits is_packet record_fits row_fits bank_by
    good-act b row m l n =
        let r : Record = row_packet (Act b row) in
        let c : Changed (λ x. eqb x b) (Open row) (state_in d) (state_in (sent cx r d)) = row-state cx (Act b row) d k.0.inv.size in
        good-kept r refl (rw (bank-word b m) (lt-ltb row cx.settings.rows l))
        (fits_by cx d.planner.channel k.0.inv.held r refl (free-near cx (state_in d) b n) refl refl (none-picked (waiting d)) (none-picked (waiting d))) (row-able cx d.planner.channel (waiting d) (Act b row) k.1) refl refl
        (row-waiting cx (Act b row) d) (λ x. eqb x b) (Open row) (other-than b n) c
        (banked-open cx (state_in d) (state_in (sent cx r d)) k.0.inv.banked ns b row l n c)

    -- RD, and RDA where no write waits near
    pub good-rd : (close : Bool) (b c row : ℕ) → b < bank_count → c < cx.settings.columns → state_in d b ≡ Open row → two (waiting d) ≡ false → close && in_banks (near cx b) (waiting d) ≡ false
        → G (sent cx (col_packet (Rd b c 0xFFFF close)) d)
    unfolding traits col_traits is_packet record_fits col_fits is_open state_by
    good-rd close b c row m l o few far =
        let r : Record = col_packet (Rd b c 0xFFFF close) in
        let q : ℕ → Bool = reaches cx (cond close (Some b) None) in
        let ch : Changed q Closed (state_in d) (state_in (sent cx r d)) = λ x i. sent-state cx r d k.0.inv.size x i ∙ rw (read-gone cx b c 0xFFFF close d) (implied-changed cx (cond close (Some b) None) x (state_in d x)) in
        let shut : in_banks q (waiting d) ≡ false = reached-none close far in
        good-kept r refl (rw (bank-word b m, lt-ltb c cx.settings.columns l))
        (fits_by cx d.planner.channel k.0.inv.held r refl refl (rw o) refl (none-picked (waiting d)) shut) (read-able cx d.planner.channel (waiting d) b c 0xFFFF close few) (rw o) refl
        (read-waiting cx b c 0xFFFF close d) q Closed shut ch
        (banked-shut cx (state_in d) (state_in (sent cx r d)) k.0.inv.banked q ch)
      where
        reached-none : (close : Bool) → close && in_banks (near cx b) (waiting d) ≡ false → in_banks (reaches cx (cond close (Some b) None)) (waiting d) ≡ false
        reached-none true h = h
        reached-none false h = none-picked (waiting d)

    -- REFA and the REFP after it: the banks are then as after a PRER
    refreshed-state : (b : ℕ) → Changed (near cx b) Closed (state_in d) (state_in (sent cx (row_packet (Refp b)) (sent cx (row_packet (Refa b)) d)))
    unfolding bank_by
    refreshed-state b x m =
        let z : Draft = sent cx (row_packet (Refa b)) d in
        row-state cx (Refp b) z (sent-size cx (row_packet (Refa b)) d ∙ k.0.inv.size) x m
        ∙ rw (row-state cx (Refa b) d k.0.inv.size x m) (go (eqb x b) (cx.nbr b x) (state_in d x))
      where
        go : (i j : Bool) (a : Bank) → cond (i || j) Closed (cond i Refresh a) ≡ cond (i || j) Closed a
        go true j a = refl
        go false j a = refl

    pub good-refreshed : (b : ℕ) → b < bank_count → NearClosed cx (state_in d) b → G (sent cx (row_packet (Refp b)) (sent cx (row_packet (Refa b)) d))
    unfolding traits row_traits is_packet record_fits row_fits bank_by sent
    good-refreshed b m n =
        let v : Inv cx d.planner = k.0.inv in
        let r : Record = row_packet (Refa b) in
        let z : Draft = sent cx r d in
        let q : Record = row_packet (Refp b) in
        let c : Changed (λ x. eqb x b) Refresh (state_in d) (state_in z) = row-state cx (Refa b) d v.size in
        let h : Held cx z.planner.channel = held-sent cx d v r refl (row-waiting cx (Refa b) d) (λ x. eqb x b) Refresh (other-than b n) c in
        let wz : waiting z ≡ waiting d = row-waiting cx (Refa b) d in
        let f : in_banks (near cx b) (waiting z) ≡ false = rw wz (far_from b n) in
        let t : Trace cx p z = trace-sent cx p d k.0.trace r refl (bank-word b m) v.mask-in (fits_by cx d.planner.channel v.held r refl (free-near cx (state_in d) b n) refl refl (none-picked (waiting d)) (none-picked (waiting d))) (row-able cx d.planner.channel (waiting d) (Refa b) k.1) (held-leaver r refl refl) in
        let mz = shifted_in (leaver cx d.planner r) d.planner.mask d.planner.second v.mask-in v.second-in in
        let same : waiting (sent cx q z) ≡ waiting d = row-waiting cx (Refp b) z ∙ wz in (
          record {
            trace = trace-sent cx p z t q refl (bank-word b m) mz (fits_by cx z.planner.channel h q refl refl refl refl f (none-picked (waiting z))) (row-able cx z.planner.channel (waiting z) (Refp b) (rw wz k.1))
                (leaver-plain cx z.planner.channel q (waiting z) h.opened (rw wz k.1) refl refl);
            inv = record {
              size = sent-size cx q z ∙ sent-size cx r d ∙ v.size;
              banked = banked-shut cx (state_in d) (state_in (sent cx q z)) v.banked (near cx b) (refreshed-state b);
              held = record {
                write-in = rw same v.held.write-in;
                opened = rw same (held_stays cx (state_in d) (state_in (sent cx q z)) (near cx b) Closed (waiting d) v.held.write-in (far_from b n) (refreshed-state b) v.held.opened);
                no_due = sent-due cx q z;
              };
              refresh-in = v.refresh-in;
              mask-in = shifted_in (leaver cx z.planner q) z.planner.mask z.planner.second mz v.second-in;
              second-in = v.second-in;
              low = omega (arith, sent-late cx r d, sent-late cx q z, v.low);
            };
            queue = rw same k.0.queue;
          },
          rw same k.1,
        )

    written-due : (close : Bool) (at : Place) →
        let r : Record = wr_packet close at in
        due_of cx (sent cx r d).planner.channel ≡ Some (slot cx d.planner r + cx.settings.cwd)
    unfolding due_of traits col_traits
    written-due close at =
        let r : Record = wr_packet close at in
        rw (sent-due cx r d, wr-waiting cx close at d) (go (left (leaver cx d.planner r) (waiting d)))
      where
        go : (ws : List Write) → newest_due cx (queued ws (newer cx close at d)) ≡ Some (slot cx d.planner (wr_packet close at) + cx.settings.cwd)
        go [] = refl
        go (x ∷ ws) = refl

    -- what leaves closes no bank
    pub gone-plain : (r : Record) → retire_implies (leaver cx d.planner r) ≡ None
    gone-plain r = leaving-plain cx (waiting d) (placed_at (slot cx d.planner r) r) k.1

    -- WR or WRA and its D
    pub good-written : (close : Bool) (at : Place) (row mask : ℕ) (bytes : Dualoct) → at.bank < bank_count → at.column < cx.settings.columns → mask < 2 ^ 16 → state_in d at.bank ≡ Open row
        → Good cx p (written cx close at mask bytes d) × (close ≡ false → Plain cx (written cx close at mask bytes d))
    unfolding written loaded traits col_traits is_packet record_fits col_fits is_open after after_data state_by
    good-written close at row mask bytes m l w o =
        let v : Inv cx d.planner = k.0.inv in
        let ch : Channel = d.planner.channel in
        let r : Record = wr_packet close at in
        let z : Draft = sent cx r d in
        let t : ℕ = slot cx d.planner r in
        let new : Write = newer cx close at d in
        let went : Option Write = leaver cx d.planner r in
        let same : Changed (λ x. false) Closed (state_in d) (state_in z) = λ x i. sent-state cx r d v.size x i ∙ ap (λ (c : Option ℕ). closed_by cx c x (state_in d x)) (gone-plain r) in
        let tr : Trace cx p z = trace-sent cx p d k.0.trace r refl (rw (bank-word at.bank m, lt-ltb _ _ l)) v.mask-in
        (fits_by cx ch v.held r refl refl refl (rw o) (none-picked (waiting d)) (none-picked (waiting d))) (or-true (may_stay cx ch r (waiting d))) (held-leaver r refl (rw o)) in
        let late : 4 ≤ t = omega (arith, sent-late cx r d, v.low) in
        let ws : waiting z ≡ queued (left went (waiting d)) new = wr-waiting cx close at d in
        let here : is_open (state_in z at.bank) ≡ true = rw (same at.bank m, o) in
        let still : all_open (state_in z) (waiting d) ≡ true = held_stays cx (state_in d) (state_in z) (λ x. false) Closed (waiting d) v.held.write-in (none-picked (waiting d)) same v.held.opened in (
          record {
            trace = trace-loaded cx p z tr mask bytes (rw (sent-now cx r d) (written-due close at)) (rw (sent-now cx r d) late);
            inv = record {
              size = sent-size cx r d ∙ v.size;
              banked = banked-shut cx (state_in d) (state_in z) v.banked (λ x. false) same;
              held = record {
                write-in = rw ws (queued-in cx new (left went (waiting d)) (m, l) (left_in cx went (waiting d) v.held.write-in));
                opened = rw ws (queued-open (state_in z) new (left went (waiting d)) here (left_open (state_in z) went (waiting d) still));
                no_due = refl;
              };
              refresh-in = rw (sent-refresh cx r d) v.refresh-in;
              mask-in = either (two (waiting z)) _ _ (rw (sent-mask cx r d) (shifted_in went d.planner.mask d.planner.second v.mask-in v.second-in)) w;
              second-in = either (two (waiting z)) _ _ w (rw (sent-second cx r d) v.second-in);
              low = rw (sent-now cx r d) late;
            };
            queue = rw ws (queued-newest (left went (waiting d)) new (left-plain went (waiting d) k.1));
          },
          λ e. rw ws (queued-plain (left went (waiting d)) new (left-plain went (waiting d) k.1) e),
        )
      where
        either : (b : Bool) (x y : ℕ) → x < 2 ^ 16 → y < 2 ^ 16 → cond b x y < 2 ^ 16
        either true x y i j = i
        either false x y i j = j

  -- ---- banks closed, a row reached

  pub good-while : (d : Draft) → G d → (test : List Write → Bool) → test [] ≡ false → G (flushed_while cx test d)
  good-while d k test e = while-keeps cx G (λ z _ g. (good-flushed z g.0, flushed-plain cx z g.1)) test e d k

  good-saved : (d : Draft) → G d → (x : ℕ) → G (saved cx x d)
  good-saved d k x = good-while d k (loses cx x) refl

  pub good-closed : (d : Draft) → G d → (x : ℕ) → x < bank_count → G (closed cx x d)
  unfolding closed
  good-closed d k x m = good-prer (saved cx x d) (good-saved d k x) x m (saved-far cx x d)

  pub good-up-to : (d : Draft) → G d → (pick : ℕ → Bool) (n : ℕ) → n ≤ bank_count → G (closed_up_to cx pick n d)
  unfolding closed_up_to
  good-up-to d k pick zero m = k
  good-up-to d k pick (suc n) m =
      let z : Draft = closed_up_to cx pick n d in
      let g : G z = good-up-to d k pick n (omega arith) in
      when-either G (pick n && not (is_closed (state_in z n))) (closed cx n) z (λ _. good-closed z g n (omega arith)) (λ _. g)

  pub good-cleared : (d : Draft) → G d → (b : ℕ) → G (cleared cx b d) × NearClosed cx (state_in (cleared cx b d)) b
  good-cleared d k b = (good-up-to d k (near cx b) bank_count (omega arith), up-to-picked cx (near cx b) d k.0.inv.size k.1 bank_count (omega arith))

  open-on : (b : Bank) (row : ℕ) → open_on b row ≡ true → b ≡ Open row
  open-on Closed row e = cc
  open-on (Open r) row e = ap Open (eqb-true r row e)
  open-on Refresh row e = cc

  pub good-reached : (d : Draft) → G d → (b row : ℕ) → b < bank_count → row < cx.settings.rows → G (reached cx b row d) × (state_in (reached cx b row d) b ≡ Open row)
  unfolding reached bank_by
  good-reached d k b row m l =
      let c = good-cleared d k b in
      when-either (λ z. G z × (state_in z b ≡ Open row)) (not (open_on (state_in d b) row)) (λ d. sent cx (row_packet (Act b row)) (cleared cx b d)) d
      (λ _. (good-act (cleared cx b d) c.0 b row m l c.1, row-state cx (Act b row) (cleared cx b d) c.0.0.inv.size b m ∙ rw (eq-eqb b b refl)))
      (λ e. (k, open-on (state_in d b) row (not-false (open_on (state_in d b) row) e)))

  -- ---- requests

  pub good-read : (close : Bool) (d : Draft) → G d → (at : Place) → InPlace cx.settings at → G (planned_read cx close at d)
  unfolding planned_read bank_count
  good-read close d k at i =
      let a = good-reached d k at.bank at.row i.0 i.1 in
      let z : Draft = reached cx at.bank at.row d in
      let test : List Write → Bool = delays cx close at in
      let empty : test [] ≡ false = and-false close in
      let y : Draft = flushed_while cx test z in
      let ends = neither (two (waiting y)) _ (while-ends cx test empty z) in
      good-rd y (good-while z a.0 test empty) close at.bank at.column at.row i.0 i.2 (while-state cx test empty z a.0.0.inv.size a.0.1 at.bank i.0 ∙ a.1)
      ends.0 (neither (any_write (hits at.bank at.column) (waiting y)) _ ends.1).1

  pub good-write : (close : Bool) (d : Draft) → G d → (at : Place) (mask : ℕ) (bytes : Dualoct) → InPlace cx.settings at → mask < 2 ^ 16 → G (planned_write cx close at mask bytes d)
  unfolding planned_write bank_count
  good-write close d k at mask bytes i m =
      let a = good-reached d k at.bank at.row i.0 i.1 in
      let z : Draft = written cx close at mask bytes (reached cx at.bank at.row d) in
      let g = good-written (reached cx at.bank at.row d) a.0 close at at.row mask bytes i.0 i.2 m a.1 in
      (while-keeps cx (Good cx p) (λ z _ g. good-flushed z g) _ refl z g.0, while-ends cx any_closes refl z)

  good-turned : (d : Draft) → G d → G (turned cx d)
  unfolding turned
  good-turned d k =
      let v = k.0.inv in (
        record {
          trace = record { channel = k.0.trace.channel; now = k.0.trace.now; each = k.0.trace.each };
          inv = record {
            size = v.size;
            banked = v.banked;
            held = v.held;
            refresh-in = mod-lt (d.planner.refresh + 1) (omega (arith, v.refresh-in));
            mask-in = v.mask-in;
            second-in = v.second-in;
            low = v.low;
          };
          queue = k.0.queue;
        },
        k.1,
      )

  pub good-refresh : (d : Draft) → G d → G (planned_refresh cx d)
  unfolding planned_refresh
  good-refresh d k =
      let b : ℕ = d.planner.refresh in
      let c = good-cleared d k b in
      good-turned _ (good-refreshed (cleared cx b d) c.0 b k.0.inv.refresh-in c.1)

  pub good-flush : (d : Draft) → G d → G (planned_flush cx d)
  unfolding planned_flush
  good-flush d k = good-while d k any_waits refl

  pub good-close : (d : Draft) → G d → G (planned_close cx d)
  unfolding planned_close
  good-close d k = good-up-to d k (λ x. true) bank_count (omega arith)

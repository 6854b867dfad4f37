-- A packet's PRER, by what implies it; then what the rules ask of it.
-- Assumes nothing.
use Rattle.std.specs.Prelude.{Option, None, Some}
use Prim.Native.Nat.{ℕ, ◌+◌}
use mathlib.Core.Path.{◌≡◌, refl, ap, ap₂, ◌∙◌, sym}
use mathlib.Core.Bool.{Bool, true, false, not, ◌&&◌, ◌||◌, cond, and-true, and-false, or-true, or-false}
use native.Mathlib.Nat.{add-zero}
use lib.Dec.{leb, leb-zero}
use lib.ListN.{length}
use Rattle.settings.specs.declared.Settings.{Settings}
use Rattle.settings.specs.declared.PacketAt.{PacketAt}
use Rattle.record.specs.declared.Record.{Record}
use Rattle.spec_rules.specs.declared.BankTrack.{BankTrack}
use Rattle.spec_rules.specs.declared.Channel.{Channel}
use Rattle.spec_rules.specs.Neighbour.{context_of, near}
use Rattle.spec_rules.specs.Packets.{Traits, traits, instant}
use Rattle.spec_rules.specs.History.{is_closed, left, only, retire_implies, closes_bank}
use Rattle.spec_rules.specs.Distances.{Kind}
use Rattle.spec_rules.specs.Rules.{loses_none, all_lose_none}
use Rattle.spec_rules.specs.Channel.{track_of, state_of, waiting_of, leaving_of}
use Rattle.spec_rules.specs.Checks.{bound_of, bound_banks, last_at, then_state}
use Rattle.spec_rules.proofs.Bools.{not-both}
use Rattle.spec_rules.proofs.ByRule.{implied_bank}
use Rattle.chan_view.specs.declared.View.{View}
use Rattle.chan_view.specs.declared.Held.{Held}
use Rattle.chan_view.specs.declared.Tracks.{Tracks}
use Rattle.chan_view.specs.Form.Beside.{tracks_of}
use Rattle.chan_view.specs.Form.Bounds.{bound_if, three}
use Rattle.chan_view.specs.Form.View.{held_of, leaves, leaves_closing, implies_by, centre_of}
use Rattle.chan_view.proofs.BoundLaws.{near-bound}
use Rattle.chan_view.proofs.ViewLaws.{Shows, leaving-is, leaving-closes, left-any, retires-none, rda-keeps, precharges-alone, precharges-at, implies-at}
use Rattle.chan_judge.specs.declared.Precharge.{Precharge}
use Rattle.chan_judge.specs.Form.Tests.{prer_of, prer_kept, spared, test14}
use Rattle.chan_judge.proofs.FlagLaws.{safe-none, safe-only}

module _ (s : Settings) (v : View) (h : Held) (out : Bool) (k : Tracks) where
  -- the retire of a closing write
  pub by-retire : (h.close && out) ≡ true → ◌≡◌ {A = Precharge} (record { applies = true; at = v.at.0 + s.offp; bank = h.bank; opened = k.held.opened; rd = k.held.rd; retire = k.held.retire }) (prer_of s v h out k)
  unfolding prer_of
  by-retire q = rw (q, or-true (v.reads && v.close), or-true v.precharges)

  -- an RDA
  pub by_read : (h.close && out) ≡ false → (v.reads && v.close) ≡ true
      → ◌≡◌ {A = Precharge} (record { applies = true; at = v.at.0 + s.offp; bank = v.bank; opened = k.own.opened; rd = k.own.rd; retire = k.own.retire }) (prer_of s v h out k)
  unfolding prer_of
  by_read q e = rw (q, e, or-true v.precharges)

  -- none of these
  pub by_itself : (h.close && out) ≡ false → (v.reads && v.close) ≡ false
      → ◌≡◌ {A = Precharge} (record { applies = v.precharges; at = v.at.0; bank = v.bank; opened = k.own.opened; rd = k.own.rd; retire = k.own.retire }) (prer_of s v h out k)
  unfolding prer_of
  by_itself q e = rw (q, e, or-false v.precharges, add-zero v.at.0)

-- where there is none, it spares every write
pub spares-all : (s : Settings) (p : Precharge) (h : Held) (out : Bool) (k : Tracks) → p.applies ≡ false → true ≡ test14 s p h out k
spares-all s p h out k q = rw (q, and-false (h.waits && not out), and-false h.two)

-- ---- what the rules ask of it

module _ (s : Settings) (ch : Channel) (r : Record) (v : View) (w : Shows r v) (e : length ch.banks ≡ 32) where
  abbrev held : Held
  held = held_of ch.buffer ch.due

  abbrev out : Bool
  out = leaves s held v

  abbrev centre : ℕ
  centre = centre_of s held v

  abbrev around : Tracks
  around = tracks_of s ch.banks v.bank centre held

  abbrev prer : Precharge
  prer = prer_of s v held out around

  -- a bound
  pub prer-bound : (f : ℕ → ℕ) (n : ℕ) → f centre ≡ n
      → (leb (bound_of (traits r).precharges f) (instant r) && leb (bound_of (implied_bank (context_of s) ch r) f) (instant r + s.offp)) ≡ prer_kept prer n
  unfolding prer_of
  prer-bound f n p =
      rw (precharges-at s ch.buffer ch.due r v w, implies-at s ch r v w, w.instant-of)
      (go v.precharges (implies_by s held v) (precharges-alone s ch.buffer ch.due r v w)
      ∙ ap (λ (x : ℕ). leb (bound_if (v.precharges || implies_by s held v) x) (v.at.0 + cond (implies_by s held v) s.offp 0)) p)
    where
      go : (q i : Bool) → (q ≡ true → i ≡ false)
          → (leb (bound_of (only q (Some centre)) f) v.at.0 && leb (bound_of (only i (Some centre)) f) (v.at.0 + s.offp)) ≡ leb (bound_if (q || i) (f centre)) (v.at.0 + cond i s.offp 0)
      go true true x = not-both true refl (x refl)
      go true false x = rw (leb-zero (v.at.0 + s.offp), add-zero v.at.0) (and-true _)
      go false true x = rw (leb-zero v.at.0)
      go false false x = rw (leb-zero v.at.0, leb-zero (v.at.0 + s.offp), leb-zero (v.at.0 + 0))

  -- a last instant of its bank, by whether the retire closes it
  pub last_of : (f : BankTrack → PacketAt) → (f (track_of ch centre)).0 ≡ (cond (leaves_closing s held v) (f around.held) (f around.own)).0
  last_of f = go (leaves_closing s held v)
    where
      go : (c : Bool) → (f (track_of ch (cond c held.bank v.bank))).0 ≡ (cond c (f (track_of ch held.bank)) (f (track_of ch v.bank))).0
      go true = refl
      go false = refl

  -- what its bank and the neighbours ask, where n is that bank's last instant
  pub around-of : (a : Kind) (gap n : ℕ) → last_at (track_of ch centre) a ≡ n
      → bound_banks (context_of s) ch (near (context_of s)) a gap centre ≡ three n (last_at around.low a) (last_at around.high a) gap
  around-of a gap n q = near-bound s ch e a gap centre ∙ ap (λ (x : ℕ). three x (last_at around.low a) (last_at around.high a) gap) q

  -- rule 14: a PRER to this bank, where there is one, closes the bank of no write that is left
  abbrev left_safe : Option ℕ → Bool
  left_safe o = loses_none (context_of s) (state_of ch) o (left (leaving_of (context_of s) ch r) (waiting_of ch.buffer))

  safe-flag : (c : Bool) → left_safe (only c (Some centre)) ≡ (not c || left_safe (Some centre))
  safe-flag true = refl
  safe-flag false = safe-none s (state_of ch) (left (leaving_of (context_of s) ch r) (waiting_of ch.buffer))

  -- its own PRER retires none, and an RDA retires none
  left-all : leaves s held v ≡ false → left (leaving_of (context_of s) ch r) (waiting_of ch.buffer) ≡ waiting_of ch.buffer
  left-all q = rw (leaving-is s ch.buffer ch.due r v w, q)

  safe-own : loses_none (context_of s) (state_of ch) (traits r).precharges (waiting_of ch.buffer) ≡ left_safe (only v.precharges (Some centre))
  safe-own = rw (precharges-at s ch.buffer ch.due r v w) (go v.precharges refl)
    where
      go : (c : Bool) → v.precharges ≡ c → loses_none (context_of s) (state_of ch) (only c (Some centre)) (waiting_of ch.buffer) ≡ left_safe (only c (Some centre))
      go true q = rw (left-all (retires-none s ch.buffer ch.due r v w (rw q (or-true v.opens))))
      go false q = safe-none s (state_of ch) (waiting_of ch.buffer) ∙ sym (safe-flag false)

  safe-retire : left_safe (retire_implies (leaving_of (context_of s) ch r)) ≡ left_safe (only (leaves_closing s held v) (Some centre))
  safe-retire = ap left_safe (leaving-closes s ch.buffer ch.due r v w ∙ go (leaves_closing s held v))
    where
      go : (c : Bool) → only c (Some held.bank) ≡ only c (Some (cond c held.bank v.bank))
      go true = refl
      go false = refl

  safe-read : loses_none (context_of s) (then_state (context_of s) ch r) (traits r).implies (left (leaving_of (context_of s) ch r) (waiting_of ch.buffer)) ≡ left_safe (only (v.reads && v.close) (Some centre))
  safe-read = ap (λ (o : Option ℕ). loses_none (context_of s) (then_state (context_of s) ch r) o (left (leaving_of (context_of s) ch r) (waiting_of ch.buffer))) (ap (λ (k : Traits). k.implies) w.traits-of) ∙ go (v.reads && v.close) refl
    where
      go : (c : Bool) → (v.reads && v.close) ≡ c
          → loses_none (context_of s) (then_state (context_of s) ch r) (only c (Some v.bank)) (left (leaving_of (context_of s) ch r) (waiting_of ch.buffer)) ≡ left_safe (only c (Some centre))
      go true q = rw (leaving-closes s ch.buffer ch.due r v w, rda-keeps s ch.buffer ch.due r v w q)
      go false q = safe-none s (then_state (context_of s) ch r) (left (leaving_of (context_of s) ch r) (waiting_of ch.buffer)) ∙ sym (safe-flag false)

  pub prer-safe : all_lose_none (context_of s) (state_of ch) (waiting_of ch.buffer) r ≡ test14 s prer held out around
  unfolding prer_of
  prer-safe =
      ap₂ ◌&&◌ (safe-own ∙ safe-flag v.precharges) (ap₂ ◌&&◌ (safe-retire ∙ safe-flag (leaves_closing s held v)) (safe-read ∙ safe-flag (v.reads && v.close)))
      ∙ any_of v.precharges (v.reads && v.close) (leaves_closing s held v) (left_safe (Some centre))
      ∙ sym (safe-flag (v.precharges || implies_by s held v))
      ∙ ap not (left-any s ch.buffer ch.due r v w (λ x close. closes_bank (context_of s) (state_of ch) applied x))
      ∙ neither-of ((held.waits && not out) && closes_bank (context_of s) (state_of ch) applied held.bank) (held.two && closes_bank (context_of s) (state_of ch) applied held.next)
      ∙ ap₂ ◌&&◌ (spared-of (held.waits && not out) held.bank) (spared-of held.two held.next)
    where
      applied : Option ℕ
      applied = only (v.precharges || implies_by s held v) (Some centre)

      any_of : (p i c b : Bool) → ((not p || b) && ((not c || b) && (not i || b))) ≡ (not (p || (i || c)) || b)
      any_of p i c true = rw (or-true (not p), or-true (not c), or-true (not i), or-true (not (p || (i || c))))
      any_of true i c false = refl
      any_of false true c false = rw (or-false (not c)) (and-false (not c))
      any_of false false c false = rw (or-false (not c)) (and-true (not c))

      neither-of : (a b : Bool) → not (a || b) ≡ (not a && not b)
      neither-of true b = refl
      neither-of false b = refl

      spared-of : (waits : Bool) (x : ℕ) → not (waits && closes_bank (context_of s) (state_of ch) applied x) ≡ spared s prer waits x (track_of ch x)
      spared-of waits x = safe-only s waits (v.precharges || implies_by s held v) centre x (is_closed (state_of ch x))

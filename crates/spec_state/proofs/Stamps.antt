-- The last instants of a channel: each is 0 or in range, and a record in range keeps them so.
-- Assumes nothing.
use Prim.Native.Nat.{ℕ, ◌+◌, ◌≤◌, ◌<◌, max}
use mathlib.Core.Path.{◌≡◌, refl, sym, subst}
use mathlib.Core.Bool.{Bool, true, false, cond, or-true}
use lib.Dec.{eqb, leb}
use borrow.Author.Tests.{leb-true, le-leb}
use native.Mathlib.Omega.{arith}
use lib.ListN.{length-replicate, get_or-replicate}
use Rattle.settings.specs.Instants.{horizon, is_instant}
use Rattle.packet.specs.declared.RowPacket.TheVariants.{Act, Prer, Refa, Refp}
use Rattle.packet.specs.declared.ColPacket.TheVariants.{Nocop, Wr, Rd}
use Rattle.record.specs.declared.Record.{Record}
use Rattle.record.specs.declared.Record.TheVariants.{RowAt, ColAt, DataOf}
use Rattle.spec_rules.specs.declared.BankTrack.{BankTrack}
use Rattle.spec_rules.specs.declared.Channel.{Channel}
use Rattle.spec_rules.specs.Neighbour.{bank_count, Context}
use Rattle.spec_rules.specs.Packets.{row_traits, col_traits, traits, instant}
use Rattle.spec_rules.specs.History.{retire_implies, has}
use Rattle.spec_rules.specs.Rules.{longest_delay, implied_delay}
use Rattle.spec_rules.specs.Channel.{idle, fresh, track_of, waiting_of, leaving_of, after}
use Rattle.spec_rules.proofs.Bools.{not-both, and_left, and_right}
use Rattle.spec_state.specs.Valid.{is_stamp, bank_valid, track_valid}
use Rattle.spec_state.proofs.EachInstant.{TrackAll, WritesAll, All, after-all}

-- a last instant is 0 or in range; the WR of a waiting write has an instant
abbrev pub Stamp : ℕ → Type 0
Stamp t = is_stamp t ≡ true

abbrev pub IsInstant : ℕ → Type 0
IsInstant t = is_instant t ≡ true

-- every last instant of a channel
abbrev pub Stamped : Channel → Type 0
Stamped ch = All Stamp IsInstant ch

pub instant-stamp : (t : ℕ) → is_instant t ≡ true → is_stamp t ≡ true
instant-stamp t e = rw e (or-true (eqb t 0))

-- ---- after a record that rule 1 allows

-- an instant in range, some cycles after another
later-stamp : (t u : ℕ) → is_instant t ≡ true → leb (t + u) horizon ≡ true → is_stamp (t + u) ≡ true
later-stamp t u e h = instant-stamp (t + u) (rw (le-leb 4 (t + u) (omega (arith, leb-true 4 t (and_left (leb 4 t) _ e))), h))

retire-late : (b : Bool) (t u : ℕ) → b ≡ true → leb (t + cond b u 0) horizon ≡ true → leb (t + u) horizon ≡ true
retire-late true t u q h = h
retire-late false t u q h = not-both true refl (sym q)

read-late : (cx : Context) (r : Record) → leb (instant r + longest_delay cx r) horizon ≡ true → has (traits r).implies ≡ true → leb (instant r + cx.settings.offp) horizon ≡ true
unfolding longest_delay traits row_traits col_traits
read-late cx (RowAt t (Act b row)) h q = not-both true refl (sym q)
read-late cx (RowAt t (Prer b)) h q = not-both true refl (sym q)
read-late cx (RowAt t (Refa b)) h q = not-both true refl (sym q)
read-late cx (RowAt t (Refp b)) h q = not-both true refl (sym q)
read-late cx (ColAt t (Nocop m)) h q = not-both true refl (sym q)
read-late cx (ColAt t (Wr b c m x)) h q = not-both true refl (sym q)
read-late cx (ColAt t (Rd b c m true)) h q = le-leb _ _ (below (instant (ColAt t (Rd b c m true))) cx.settings.cac cx.settings.offp (leb-true _ _ h))
  where
    below : (t a b : ℕ) → t + max a b ≤ horizon → t + b ≤ horizon
    below t a b i = omega (arith, i)
read-late cx (ColAt t (Rd b c m false)) h q = not-both true refl (sym q)
read-late cx (DataOf t d) h q = not-both true refl (sym q)

pub after-stamped : (cx : Context) (ch : Channel) → Stamped ch → (r : Record) → is_instant (instant r) ≡ true
    → leb (instant r + longest_delay cx r) horizon ≡ true → leb (instant r + implied_delay cx (leaving_of cx ch r)) horizon ≡ true → Stamped (after cx ch r)
after-stamped cx ch k r e g h =
    after-all Stamp IsInstant cx ch k r (instant-stamp (instant r) e) (
      λ q. later-stamp (instant r) cx.settings.offp e (retire-late (has (retire_implies (leaving_of cx ch r))) (instant r) cx.settings.offp q h),
      λ q. later-stamp (instant r) cx.settings.offp e (read-late cx r g q),
    )
    e

-- ---- from the tests and back

pub track-stamps : (cx : Context) (k : BankTrack) → track_valid cx k ≡ true → TrackAll Stamp k
unfolding track_valid
track-stamps cx k e =
    let a = and_right (bank_valid cx k.bank) _ e in
    let b = and_right (is_stamp k.opened.0) _ a in
    let c = and_right (is_stamp k.act.0) _ b in
    let d = and_right (is_stamp k.pre.0) _ c in
    record {
      opened = and_left (is_stamp k.opened.0) _ a;
      act = and_left (is_stamp k.act.0) _ b;
      pre = and_left (is_stamp k.pre.0) _ c;
      rd = and_left (is_stamp k.rd.0) _ d;
      retire = and_right (is_stamp k.rd.0) _ d;
    }

pub stamps-track : (cx : Context) (k : BankTrack) → bank_valid cx k.bank ≡ true → TrackAll Stamp k → track_valid cx k ≡ true
unfolding track_valid
stamps-track cx k e t = rw (e, t.opened, t.act, t.pre, t.rd, t.retire)

pub fresh-stamped : Stamped fresh
unfolding fresh bank_count waiting_of
fresh-stamped =
    let at : (x : ℕ) → x < 32 → track_of fresh x ≡ idle = λ x m. get_or-replicate 32 x idle idle m in
    let k : TrackAll Stamp idle = record { opened = refl; act = refl; pre = refl; rd = refl; retire = refl } in
    record {
      lasts = record { size = length-replicate 32 idle; banks = λ x m. subst (TrackAll Stamp) (sym (at x m)) k; packet = refl; row = refl; col = refl; pre = refl; rd = refl; implied = refl };
      writes = tt;
    }

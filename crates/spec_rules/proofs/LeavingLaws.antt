-- What leaves, and the least instant by the number of waiting writes, written out for each command: the forms that code computes.
-- Assumes nothing.
use Rattle.std.specs.Prelude.{None, Some}
use Prim.Native.Nat.{ℕ, ◌+◌, max}
use mathlib.Core.Path.{◌≡◌, refl}
use mathlib.Core.Bool.{Bool, true, false, cond, not, ◌&&◌, ◌||◌}
use mathlib.Core.List.{List, [], ◌∷◌}
use lib.Dec.{leb}
use Rattle.packet.specs.declared.RowPacket.{RowPacket}
use Rattle.packet.specs.declared.ColPacket.TheVariants.{Nocop, Wr, Rd}
use Rattle.settings.specs.declared.PacketAt.{PacketAt}
use Rattle.record.specs.declared.Record.{Record}
use Rattle.record.specs.declared.Record.TheVariants.{RowAt, ColAt}
use Rattle.spec_rules.specs.declared.Write.{Write}
use Rattle.spec_rules.specs.declared.Buffer.TheVariants.{Empty}
use Rattle.spec_rules.specs.declared.Channel.{Channel}
use Rattle.spec_rules.specs.Neighbour.{Context}
use Rattle.spec_rules.specs.Packets.{traits, col_traits, instant}
use Rattle.spec_rules.specs.History.{only_write, leaving}
use Rattle.spec_rules.specs.Channel.{waiting_of, leaving_of}
use Rattle.spec_rules.specs.Earliest.{retire_bound, slot_from}
use Rattle.spec_rules.proofs.TrackLaws.{row_keeps}

-- ---- what leaves

pub leaving-first : (cx : Context) (ch : Channel) (r : Record) (w : Write) (ws : List Write) → waiting_of ch.buffer ≡ w ∷ ws → (traits r).not_read ≡ true
    → leaving_of cx ch r ≡ only_write (leb (w.at.0 + cx.settings.rtr) (instant r)) (Some w)
unfolding leaving
leaving-first cx ch r w ws z n = rw (z, n)

pub leaving-none : (cx : Context) (ch : Channel) (r : Record) → ch.buffer ≡ Empty → leaving_of cx ch r ≡ None
unfolding leaving waiting_of
leaving-none cx ch r z = rw z (go ((traits r).not_read && false))
  where
    go : (b : Bool) → only_write b None ≡ None
    go true = refl
    go false = refl

-- ---- the least instant from t on

module _ (cx : Context) (ch : Channel) (at : PacketAt) (t : ℕ) where
  -- ROW packets and RD leave the waiting writes
  pub slot_row : (p : RowPacket) (ws : List Write) → slot_from cx ch (RowAt at p) t ws ≡ t
  slot_row p [] = refl
  slot_row p (w ∷ ws) = rw (row_keeps at p)

  pub slot-rd : (b c m : ℕ) (x : Bool) (ws : List Write) → slot_from cx ch (ColAt at (Rd b c m x)) t ws ≡ t
  unfolding traits col_traits
  slot-rd b c m x [] = refl
  slot-rd b c m x (w ∷ ws) = refl

  -- NOCOP retires the older one
  pub slot-nocop : (m : ℕ) (w : Write) (ws : List Write) → slot_from cx ch (ColAt at (Nocop m)) t (w ∷ ws) ≡ max t (retire_bound cx ch (ColAt at (Nocop m)) w)
  unfolding traits col_traits
  slot-nocop m w [] = refl
  slot-nocop m w (y ∷ ws) = refl

  -- WR beside one write retires it where it is due at t, or where it is a WRA, and else leaves it
  pub slot-wr-one : (b c m : ℕ) (x : Bool) (w : Write)
      → slot_from cx ch (ColAt at (Wr b c m x)) t (w ∷ []) ≡ cond (w.close || leb (w.at.0 + cx.settings.rtr) t) (max t (retire_bound cx ch (ColAt at (Wr b c m x)) w)) t
  unfolding traits col_traits
  slot-wr-one b c m x w = go w.close
    where
      go : (z : Bool) → cond (not (not (z || false) || false) || leb (w.at.0 + cx.settings.rtr) t) (max t (retire_bound cx ch (ColAt at (Wr b c m x)) w)) t
          ≡ cond (z || leb (w.at.0 + cx.settings.rtr) t) (max t (retire_bound cx ch (ColAt at (Wr b c m x)) w)) t
      go true = refl
      go false = refl

  -- WR beside two retires the older one
  pub slot-wr-two : (b c m : ℕ) (x : Bool) (w y : Write) (ws : List Write) → slot_from cx ch (ColAt at (Wr b c m x)) t (w ∷ y ∷ ws) ≡ max t (retire_bound cx ch (ColAt at (Wr b c m x)) w)
  unfolding traits col_traits
  slot-wr-two b c m x w y ws = refl

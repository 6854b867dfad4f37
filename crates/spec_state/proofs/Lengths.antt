-- The bytes of a state: how many there are, and that each is a byte.
-- Assumes nothing.
use Prim.Native.Nat.{ℕ, ◌-◌}
use mathlib.Core.Path.{◌≡◌}
use mathlib.Core.Bool.{Bool, cond}
use mathlib.Core.List.{List, ◌++◌}
use lib.ListN.{length, length-append}
use Rattle.num.specs.Bytes.{bytes, Bytes}
use Rattle.num.proofs.ByteLaws.{length-bytes}
use Rattle.num.proofs.PartLaws.{Bytes-append, Bytes-bytes, Bytes-zeros}
use Rattle.num.proofs.SpliceLaws.{length-zeros}
use Rattle.settings.specs.declared.PacketAt.{PacketAt}
use Rattle.spec_rules.specs.declared.LastInstants.{LastInstants}
use Rattle.spec_rules.specs.declared.Write.{Write}
use Rattle.spec_rules.specs.declared.Buffer.{Buffer}
use Rattle.spec_rules.specs.declared.Buffer.TheVariants.{Empty, One, Two}
use Rattle.spec_rules.specs.declared.Channel.{Channel}
use Rattle.spec_rules.specs.Neighbour.{bank_count}
use Rattle.spec_rules.specs.Channel.{track_of}
use Rattle.spec_state.specs.ChannelBytes.{bank_tag, instant_plane, banks_bytes, lasts_bytes, count_bytes, write_bytes, buffer_bytes, channel_bytes}
use Rattle.spec_state.proofs.PlaneLaws.{length-plane, Bytes-plane}

-- ---- lengths

pub length-banks : (ch : Channel) → length (banks_bytes ch) ≡ 704
unfolding banks_bytes bank_count
length-banks ch = simp (length-append, length-plane)

pub length-lasts : (l : LastInstants) → length (lasts_bytes l) ≡ 24
unfolding lasts_bytes
length-lasts l = simp (length-append, length-bytes)

pub length-count : (n : ℕ) (due : Bool) → length (count_bytes n due) ≡ 8
unfolding count_bytes
length-count n due = simp (length-append, length-bytes, length-zeros)

pub length-write : (w : Write) → length (write_bytes w) ≡ 8
unfolding write_bytes
length-write w = simp (length-append, length-bytes)

pub length-buffer : (b : Buffer) (due : Bool) → length (buffer_bytes b due) ≡ 24
unfolding buffer_bytes
length-buffer Empty due = simp (length-append, length-count, length-zeros)
length-buffer (One x) due = simp (length-append, length-count, length-write, length-zeros)
length-buffer (Two x y) due = simp (length-append, length-count, length-write)

pub channel-length : (ch : Channel) → length (channel_bytes ch) ≡ 752
unfolding channel_bytes
channel-length ch = simp (length-append, length-banks, length-lasts, length-buffer)

-- ---- every element is a byte

number-first : (n x : ℕ) (ys : List ℕ) → Bytes ys → Bytes (bytes n x ++ ys)
number-first n x ys h = Bytes-append (bytes n x) ys (Bytes-bytes n x) h

plane-first : (f : ℕ → PacketAt) (ys : List ℕ) → Bytes ys → Bytes (instant_plane f ++ ys)
plane-first f ys h = Bytes-append (instant_plane f) ys (Bytes-plane 4 (λ x. (f x).0 - 3) bank_count) h

Bytes-count : (n : ℕ) (due : Bool) → Bytes (count_bytes n due)
unfolding count_bytes
Bytes-count n due = number-first 1 n _ (number-first 1 (cond due 1 0) _ (Bytes-zeros 6))

Bytes-write : (w : Write) → Bytes (write_bytes w)
unfolding write_bytes
Bytes-write w = number-first 1 w.bank _ (number-first 1 w.column _ (number-first 2 (cond w.close 1 0) _ (Bytes-bytes 4 _)))

Bytes-buffer : (b : Buffer) (due : Bool) → Bytes (buffer_bytes b due)
unfolding buffer_bytes
Bytes-buffer Empty due = Bytes-append (count_bytes 0 due) _ (Bytes-count 0 due) (Bytes-zeros 16)
Bytes-buffer (One w) due = Bytes-append (count_bytes 1 due) _ (Bytes-count 1 due) (Bytes-append (write_bytes w) _ (Bytes-write w) (Bytes-zeros 8))
Bytes-buffer (Two x y) due = Bytes-append (count_bytes 2 due) _ (Bytes-count 2 due) (Bytes-append (write_bytes x) _ (Bytes-write x) (Bytes-write y))

Bytes-lasts : (l : LastInstants) → Bytes (lasts_bytes l)
unfolding lasts_bytes
Bytes-lasts l =
    number-first 4 _ _
    (number-first 4 _ _ (number-first 4 _ _ (number-first 4 _ _ (number-first 4 _ _ (Bytes-bytes 4 _)))))

Bytes-banks : (ch : Channel) → Bytes (banks_bytes ch)
unfolding banks_bytes
Bytes-banks ch =
    plane-first (λ x. (track_of ch x).opened) _
    (plane-first (λ x. (track_of ch x).act) _
    (plane-first (λ x. (track_of ch x).pre) _
    (plane-first (λ x. (track_of ch x).rd) _ (plane-first (λ x. (track_of ch x).retire) _ (Bytes-plane 2 (λ x. bank_tag (track_of ch x).bank) bank_count)))))

pub channel-bytes : (ch : Channel) → Bytes (channel_bytes ch)
unfolding channel_bytes
channel-bytes ch =
    Bytes-append (banks_bytes ch) _ (Bytes-banks ch) (Bytes-append (lasts_bytes ch.lasts) _ (Bytes-lasts ch.lasts) (Bytes-buffer ch.buffer ch.due))

-- The state of the channel as 752 bytes, numbers low byte first. An instant is stored less 3, and 0 stands for none, so that every
-- number up to 999,999,997 is a last instant.
-- Assumes nothing.
use Rattle.std.specs.Prelude.{ℕ, zero, suc, ◌+◌, ◌*◌, ◌-◌, Bool, true, false, ◌&&◌, cond, List, [], ◌∷◌, ◌++◌, eqb, leb, get_or}
use Rattle.num.specs.Bytes.{bytes, number, part, zeros}
use Rattle.settings.specs.declared.PacketAt.{PacketAt}
use Rattle.spec_rules.specs.declared.Bank.{Bank}
use Rattle.spec_rules.specs.declared.Bank.TheVariants.{Closed, Open, Refresh}
use Rattle.spec_rules.specs.declared.BankTrack.{BankTrack}
use Rattle.spec_rules.specs.declared.LastInstants.{LastInstants}
use Rattle.spec_rules.specs.declared.Write.{Write}
use Rattle.spec_rules.specs.declared.Buffer.{Buffer}
use Rattle.spec_rules.specs.declared.Buffer.TheVariants.{Empty, One, Two}
use Rattle.spec_rules.specs.declared.Channel.{Channel}
use Rattle.spec_rules.specs.Neighbour.{bank_count}
use Rattle.spec_rules.specs.Channel.{track_of}
use Rattle.spec_rules.specs.Checks.{since}

unfoldable pub channel_length : ℕ
channel_length = 752

-- ---- to bytes

abbrev pub instant_bytes : PacketAt → List ℕ
instant_bytes t = bytes 4 (t.0 - 3)

-- a bank as two bytes: 0 closed, 1 + its row where it is open, 65535 under refresh
unfoldable pub bank_tag : Bank → ℕ
bank_tag Closed = 0
bank_tag (Open r) = r + 1
bank_tag Refresh = 0xFFFF

-- one number of each of the banks from 0 to n - 1, of so many bytes
unfoldable pub plane : ℕ → (ℕ → ℕ) → ℕ → List ℕ
plane width f zero = []
plane width f (suc n) = plane width f n ++ bytes width (f n)

abbrev pub instant_plane : (ℕ → PacketAt) → List ℕ
instant_plane f = plane 4 (λ x. (f x).0 - 3) bank_count

-- 704 bytes of the banks: from 0 the instants of each bank's last ACT or REFA, from 128 ACT, 256 PRER or REFP, 384 RD, 512 retire;
-- from 640 the banks
unfoldable pub banks_bytes : Channel → List ℕ
banks_bytes ch =
    instant_plane (λ x. (track_of ch x).opened)
    ++ (instant_plane (λ x. (track_of ch x).act)
    ++ (instant_plane (λ x. (track_of ch x).pre)
    ++ (instant_plane (λ x. (track_of ch x).rd) ++ (instant_plane (λ x. (track_of ch x).retire) ++ plane 2 (λ x. bank_tag (track_of ch x).bank) bank_count))))

-- 24 bytes: the last instants of the channel, of any packet, ROW, COL, PRER or REFP, RD, implied PRER
unfoldable pub lasts_bytes : LastInstants → List ℕ
lasts_bytes l =
    instant_bytes l.packet ++ (instant_bytes l.row ++ (instant_bytes l.col ++ (instant_bytes l.pre ++ (instant_bytes l.rd ++ instant_bytes l.implied))))

-- 8 bytes: how many writes wait, whether data are due, zeros
unfoldable pub count_bytes : ℕ → Bool → List ℕ
count_bytes count due = bytes 1 count ++ (bytes 1 (cond due 1 0) ++ zeros 6)

-- 8 bytes: bank, column, whether its retire closes the bank, the instant of WR
unfoldable pub write_bytes : Write → List ℕ
write_bytes w = bytes 1 w.bank ++ (bytes 1 w.column ++ (bytes 2 (cond w.close 1 0) ++ instant_bytes w.at))

-- 24 bytes: the writes that wait, older first; the place of one that does not wait is 0
unfoldable pub buffer_bytes : Buffer → Bool → List ℕ
buffer_bytes Empty due = count_bytes 0 due ++ zeros 16
buffer_bytes (One x) due = count_bytes 1 due ++ (write_bytes x ++ zeros 8)
buffer_bytes (Two x y) due = count_bytes 2 due ++ (write_bytes x ++ write_bytes y)

unfoldable pub channel_bytes : Channel → List ℕ
channel_bytes ch = banks_bytes ch ++ (lasts_bytes ch.lasts ++ buffer_bytes ch.buffer ch.due)

-- ---- from bytes

-- the instant that a stored number says, and the one in four bytes
abbrev pub instant_of : ℕ → ℕ
instant_of n = since n 3

abbrev pub instant_in : List ℕ → ℕ → PacketAt
instant_in b at = record { 0 = instant_of (number (part b at 4)) }

unfoldable pub bank_in : ℕ → Bank
bank_in tag = cond (eqb tag 0) Closed (cond (eqb tag 0xFFFF) Refresh (Open (tag - 1)))

unfoldable pub track_in : List ℕ → ℕ → BankTrack
track_in b x =
    record {
      bank = bank_in (number (part b (640 + 2 * x) 2));
      opened = instant_in b (4 * x);
      act = instant_in b (128 + 4 * x);
      pre = instant_in b (256 + 4 * x);
      rd = instant_in b (384 + 4 * x);
      retire = instant_in b (512 + 4 * x);
    }

-- banks 0 to n - 1
unfoldable pub tracks_in : List ℕ → ℕ → List BankTrack
tracks_in b zero = []
tracks_in b (suc n) = tracks_in b n ++ (track_in b n ∷ [])

unfoldable pub lasts_in : List ℕ → LastInstants
lasts_in b =
    record { packet = instant_in b 704; row = instant_in b 708; col = instant_in b 712; pre = instant_in b 716; rd = instant_in b 720; implied = instant_in b 724 }

abbrev pub write_in : List ℕ → ℕ → Write
write_in b at = record { bank = get_or b at 0; column = get_or b (at + 1) 0; at = instant_in b (at + 4); close = eqb (number (part b (at + 2) 2)) 1 }

unfoldable pub buffer_in : List ℕ → Buffer
buffer_in b =
    cond (eqb (get_or b 728 0) 0) Empty (cond (eqb (get_or b 728 0) 1) (One (write_in b 736)) (Two (write_in b 736) (write_in b 744)))

unfoldable pub channel_in : List ℕ → Channel
channel_in b = record { banks = tracks_in b bank_count; lasts = lasts_in b; buffer = buffer_in b; due = eqb (get_or b 729 0) 1 }

-- ---- the bytes that no field uses

-- every byte of a part is 0
abbrev pub zero_part : List ℕ → ℕ → ℕ → Bool
zero_part b at n = eqb (number (part b at n)) 0

-- the two bytes that say whether a write closes its bank
abbrev pub close_right : List ℕ → ℕ → Bool
close_right b at = leb (number (part b (at + 2) 2)) 1

-- two writes wait at most, data are due or not, a write closes its bank or not, and every byte that no field uses is 0
unfoldable pub channel_spare : List ℕ → Bool
channel_spare b =
    (leb (get_or b 728 0) 2 && (leb (get_or b 729 0) 1 && zero_part b 730 6))
    && (cond (eqb (get_or b 728 0) 0) (zero_part b 736 8) (close_right b 736) && cond (leb (get_or b 728 0) 1) (zero_part b 744 8) (close_right b 744))

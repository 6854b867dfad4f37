-- A state that is not refused is read back from its bytes, and bytes of a state are what is written of it.
-- Assumes nothing.
use Prim.Native.Nat.{ℕ, zero, suc, ◌+◌, ◌-◌, ◌*◌, ◌%◌, ◌^◌, ◌<◌, ◌≤◌}
use mathlib.Core.Path.{◌≡◌, refl, sym, ap, ◌∙◌}
use mathlib.Core.Bool.{Bool, true, false, cond, ◌&&◌, ◌||◌, or-true}
use mathlib.Core.List.{List, [], ◌∷◌, ◌++◌, append_assoc}
use native.Mathlib.Nat.{zero-add}
use native.Mathlib.Omega.{arith}
use borrow.Author.Tests.{eqb-true, eqb-false, leb-true, le-leb, ltb-true, ne_eqb}
use lib.Dec.{eqb, leb, ltb}
use lib.ListN.{length, get_or, length-append}
use Rattle.num.specs.Bytes.{bytes, number, part, zeros, Bytes}
use Rattle.num.specs.Search.{all_up_to}
use Rattle.num.proofs.SearchLaws.{all-at}
use Rattle.num.proofs.ByteLaws.{length-bytes, number-bytes, number-one}
use Rattle.num.proofs.PartLaws.{get_d_part, part-part, bytes-part}
use Rattle.num.proofs.SpliceLaws.{length-zeros}
use Rattle.settings.specs.declared.PacketAt.{PacketAt}
use Rattle.settings.specs.Settings.{valid}
use Rattle.settings.specs.Instants.{horizon, is_instant}
use Rattle.settings.proofs.SettingsLaws.{bounds}
use Rattle.spec_rules.specs.declared.Bank.{Bank}
use Rattle.spec_rules.specs.declared.Bank.TheVariants.{Closed, Open, Refresh}
use Rattle.spec_rules.specs.declared.BankTrack.{BankTrack}
use Rattle.spec_rules.specs.declared.LastInstants.{LastInstants}
use Rattle.spec_rules.specs.declared.Write.{Write}
use Rattle.spec_rules.specs.declared.Buffer.{Buffer}
use Rattle.spec_rules.specs.declared.Buffer.TheVariants.{Empty, One, Two}
use Rattle.spec_rules.specs.declared.Channel.{Channel}
use Rattle.spec_rules.specs.Neighbour.{bank_count, Context}
use Rattle.spec_rules.specs.History.{any_write, all_writes}
use Rattle.spec_rules.specs.Channel.{idle, track_of, state_of, waiting_of}
use Rattle.spec_rules.specs.Checks.{since}
use Rattle.spec_rules.proofs.Bools.{and_left, and_right}
use Rattle.spec_state.specs.Valid.{is_stamp, bank_valid, track_valid, write_valid, lasts_valid, channel_valid}
use Rattle.spec_state.specs.ChannelBytes.{instant_bytes, bank_tag, plane, instant_plane, banks_bytes, lasts_bytes, count_bytes, write_bytes, buffer_bytes, channel_bytes, instant_of, instant_in, bank_in, track_in, tracks_in, lasts_in, write_in, buffer_in, channel_in, zero_part, close_right, channel_spare}
use Rattle.spec_state.proofs.EachInstant.{TrackAll, WritesAll, LastsAll, All, all_more}
use Rattle.spec_state.proofs.Stamps.{Stamp, IsInstant, Stamped, instant-stamp}
use Rattle.spec_state.proofs.NextValid.{Sound, valid-sound}
use Rattle.spec_state.proofs.Lengths.{length-banks, length-lasts, length-count, length-write}
use Rattle.spec_state.proofs.PlaneLaws.{length-plane, plane-at, plane-part, part-split, part-both, tracks-at, tracks-are}

-- ---- one number

-- an instant, or none, is read back from its four bytes
abbrev pub Back : ℕ → Type 0
Back t = instant_of (number (bytes 4 (t - 3))) ≡ t

-- the instant of a WR is one, and read back
abbrev pub SomeBack : ℕ → Type 0
SomeBack t = (4 ≤ t) × Back t

pub some_back : (t : ℕ) → 4 ≤ t → t < 2 ^ 32 → Back t
some_back t l m =
    let e : number (bytes 4 (t - 3)) ≡ t - 3 = number-bytes 4 (t - 3) (omega arith) in
    rw (e, ne_eqb (t - 3) 0 (λ z. omega arith)) (omega arith)

instant-low : (t : ℕ) → is_instant t ≡ true → (4 ≤ t) × (t ≤ horizon)
instant-low t i = (leb-true 4 t (and_left (leb 4 t) _ i), leb-true t horizon (and_right (leb 4 t) _ i))

-- those in range are
pub stamp-back : (t : ℕ) → is_stamp t ≡ true → Back t
stamp-back t h = go (eqb t 0) refl h
  where
    go : (z : Bool) → eqb t 0 ≡ z → z || is_instant t ≡ true → Back t
    go true e i = rw (eqb-true t 0 e, number-bytes 4 0 (omega arith))
    go false e i = let k = instant-low t i in some_back t k.0 (omega (arith, k.1))

-- a stored number is what is written of the instant that it says
pub stored-in : (n : ℕ) → instant_of n - 3 ≡ n
stored-in n = go (eqb n 0) refl
  where
    go : (z : Bool) → eqb n 0 ≡ z → cond z 0 (n + 3) - 3 ≡ n
    go true e = sym (eqb-true n 0 e)
    go false e = omega arith

-- rows are at most 512, so no open row has the tag of another state
tag_is : (cx : Context) (k : Bank) → cx.settings.rows ≤ 512 → bank_valid cx k ≡ true → (bank_tag k < 256 ^ 2) × (bank_in (bank_tag k) ≡ k)
unfolding bank_in bank_tag bank_valid
tag_is cx Closed m h = (omega arith, refl)
tag_is cx (Open r) m h = (omega (arith, below), go (eqb (bank_tag (Open r)) 0) (eqb (bank_tag (Open r)) 65535) refl refl)
  where
    below : r < cx.settings.rows
    below = ltb-true r cx.settings.rows h

    go : (z q : Bool) → eqb (bank_tag (Open r)) 0 ≡ z → eqb (bank_tag (Open r)) 65535 ≡ q → cond z Closed (cond q Refresh (Open (bank_tag (Open r) - 1))) ≡ Open r
    go true q e f = absurd (omega (arith, eqb-true (bank_tag (Open r)) 0 e))
    go false true e f = absurd (omega (arith, eqb-true (bank_tag (Open r)) 65535 f, below))
    go false false e f = ap Open (omega arith)
tag_is cx Refresh m h = (omega arith, refl)

tag_back : (cx : Context) (k : Bank) → cx.settings.rows ≤ 512 → bank_valid cx k ≡ true → bank_in (number (bytes 2 (bank_tag k))) ≡ k
tag_back cx k m h = ap bank_in (number-bytes 2 (bank_tag k) (tag_is cx k m h).0) ∙ (tag_is cx k m h).1

-- a tag that was read is written
tag_in_lem : (n : ℕ) → bank_tag (bank_in n) ≡ n
unfolding bank_in bank_tag
tag_in_lem n = go (eqb n 0) (eqb n 65535) refl refl
  where
    go : (z r : Bool) → eqb n 0 ≡ z → eqb n 65535 ≡ r → bank_tag (cond z Closed (cond r Refresh (Open (n - 1)))) ≡ n
    go true r e f = sym (eqb-true n 0 e)
    go false true e f = sym (eqb-true n 65535 f)
    go false false e f = let z = eqb-false n 0 e in omega arith

-- ---- waiting writes

-- the bank and column of a write are in range
abbrev WriteIn : Context → Write → Type 0
WriteIn cx w = (w.bank < bank_count) × (w.column < cx.settings.columns)

abbrev pub WritesIn : Context → List Write → Type 0
WritesIn cx [] = Unit {0}
WritesIn cx (w ∷ ws) = WriteIn cx w × WritesIn cx ws

pub in-write : (cx : Context) (ws : List Write) → all_writes (write_valid cx) ws ≡ true → WritesIn cx ws
unfolding write_valid
in-write cx [] h = tt
in-write cx (w ∷ ws) h =
    let g = and_left (write_valid cx w) _ h in (
      (ltb-true _ _ (and_left (ltb w.bank bank_count) _ g), ltb-true _ _ (and_left (ltb w.column cx.settings.columns) _ (and_right (ltb w.bank bank_count) _ g))),
      in-write cx ws (and_right (write_valid cx w) _ h),
    )

-- ---- the parts of the bytes

record Parts (b : List ℕ) (ch : Channel) : Type 0 where
  opened : part b 0 128 ≡ instant_plane (λ x. (track_of ch x).opened)
  act : part b 128 128 ≡ instant_plane (λ x. (track_of ch x).act)
  pre : part b 256 128 ≡ instant_plane (λ x. (track_of ch x).pre)
  rd : part b 384 128 ≡ instant_plane (λ x. (track_of ch x).rd)
  retire : part b 512 128 ≡ instant_plane (λ x. (track_of ch x).retire)
  bank : part b 640 64 ≡ plane 2 (λ x. bank_tag (track_of ch x).bank) 32
  lasts : part b 704 24 ≡ lasts_bytes ch.lasts
  buffer : part b 728 24 ≡ buffer_bytes ch.buffer ch.due

parts : (b : List ℕ) (ch : Channel) → part b 0 752 ≡ channel_bytes ch → Parts b ch
unfolding channel_bytes banks_bytes bank_count
parts b ch h =
    let whole = part-split b 0 704 48 _ _ (length-banks ch) h in
    let p1 = part-split b 0 128 576 _ _ (length-plane 4 (λ x. (track_of ch x).opened.0 - 3) 32) whole.0 in
    let p2 = part-split b 128 128 448 _ _ (length-plane 4 (λ x. (track_of ch x).act.0 - 3) 32) p1.1 in
    let p3 = part-split b 256 128 320 _ _ (length-plane 4 (λ x. (track_of ch x).pre.0 - 3) 32) p2.1 in
    let p4 = part-split b 384 128 192 _ _ (length-plane 4 (λ x. (track_of ch x).rd.0 - 3) 32) p3.1 in
    let p5 = part-split b 512 128 64 _ _ (length-plane 4 (λ x. (track_of ch x).retire.0 - 3) 32) p4.1 in
    let p7 = part-split b 704 24 24 _ _ (length-lasts ch.lasts) whole.1 in
    record { opened = p1.0; act = p2.0; pre = p3.0; rd = p4.0; retire = p5.0; bank = p5.1; lasts = p7.0; buffer = p7.1 }

parts_whole : (b : List ℕ) (ch : Channel) → Parts b ch → channel_bytes ch ≡ part b 0 752
unfolding channel_bytes banks_bytes bank_count
parts_whole b ch p =
    part-both b 0 704 48 _ _
    (part-both b 0 128 576 _ _ (sym p.opened)
    (part-both b 128 128 448 _ _ (sym p.act)
    (part-both b 256 128 320 _ _ (sym p.pre) (part-both b 384 128 192 _ _ (sym p.rd) (part-both b 512 128 64 _ _ (sym p.retire) (sym p.bank))))))
    (part-both b 704 24 24 _ _ (sym p.lasts) (sym p.buffer))

-- ---- written, then read

-- an instant of bank x in a plane
plane-back : (b : List ℕ) (at : ℕ) (f : ℕ → PacketAt) (x : ℕ) → part b at 128 ≡ instant_plane f → x < 32 → Back (f x).0 → instant_in b (at + 4 * x) ≡ f x
unfolding bank_count
plane-back b at f x p l v = ap (λ (n : ℕ). record { 0 = n }) (ap (λ (q : List ℕ). instant_of (number q)) (plane-at b at 4 (λ y. (f y).0 - 3) 32 x p l) ∙ v)

track-back : (cx : Context) (b : List ℕ) (ch : Channel) (x : ℕ) → Parts b ch → x < 32 → cx.settings.rows ≤ 512 → TrackAll Back (track_of ch x)
    → bank_valid cx (state_of ch x) ≡ true → track_in b x ≡ track_of ch x
unfolding track_in
track-back cx b ch x p l m v r =
    let first : instant_in b (4 * x) ≡ (track_of ch x).opened = rw zero-add at (plane-back b 0 (λ y. (track_of ch y).opened) x p.opened l v.opened) in
    rw (
      first,
      plane-back b 128 (λ y. (track_of ch y).act) x p.act l v.act,
      plane-back b 256 (λ y. (track_of ch y).pre) x p.pre l v.pre,
      plane-back b 384 (λ y. (track_of ch y).rd) x p.rd l v.rd,
      plane-back b 512 (λ y. (track_of ch y).retire) x p.retire l v.retire,
      plane-at b 640 2 (λ y. bank_tag (track_of ch y).bank) 32 x p.bank l,
      tag_back cx (track_of ch x).bank m r,
    )

-- an instant at its place
pub instant-back : (b : List ℕ) (at : ℕ) (t : PacketAt) → part b at 4 ≡ instant_bytes t → Back t.0 → instant_in b at ≡ t
instant-back b at t p v = ap (λ (n : ℕ). record { 0 = n }) (ap (λ (q : List ℕ). instant_of (number q)) p ∙ v)

number-zeros : (n : ℕ) → number (zeros n) ≡ 0
unfolding number
number-zeros zero = refl
number-zeros (suc n) = rw (number-zeros n)

pub zero-back : (b : List ℕ) (at n : ℕ) → part b at n ≡ zeros n → zero_part b at n ≡ true
zero-back b at n h = rw (h, number-zeros n)

lasts-back : (b : List ℕ) (ch : Channel) → LastsAll Back ch → part b 704 24 ≡ lasts_bytes ch.lasts → lasts_in b ≡ ch.lasts
unfolding lasts_bytes lasts_in
lasts-back b ch v h =
    let l : LastInstants = ch.lasts in
    let p1 = part-split b 704 4 20 _ _ (length-bytes 4 (l.packet.0 - 3)) h in
    let p2 = part-split b 708 4 16 _ _ (length-bytes 4 (l.row.0 - 3)) p1.1 in
    let p3 = part-split b 712 4 12 _ _ (length-bytes 4 (l.col.0 - 3)) p2.1 in
    let p4 = part-split b 716 4 8 _ _ (length-bytes 4 (l.pre.0 - 3)) p3.1 in
    let p5 = part-split b 720 4 4 _ _ (length-bytes 4 (l.rd.0 - 3)) p4.1 in
    rw (
      instant-back b 704 l.packet p1.0 v.packet,
      instant-back b 708 l.row p2.0 v.row,
      instant-back b 712 l.col p3.0 v.col,
      instant-back b 716 l.pre p4.0 v.pre,
      instant-back b 720 l.rd p5.0 v.rd,
      instant-back b 724 l.implied p5.1 v.implied,
    )

-- one byte at its place
byte-back : (b : List ℕ) (at n : ℕ) → part b at 1 ≡ bytes 1 n → n < 256 → at < length b → get_or b at 0 ≡ n
byte-back b at n h m l = sym (number-one b at l) ∙ ap number h ∙ number-bytes 1 n m

-- a test as one number
bit-back : (q : Bool) → (eqb (cond q 1 0) 1 ≡ q) × (leb (cond q 1 0) 1 ≡ true) × (cond q 1 0 < 256)
bit-back true = (refl, refl, omega arith)
bit-back false = (refl, refl, omega arith)

-- the number of writes that wait, and whether data are due
count-back : (b : List ℕ) (n : ℕ) (due : Bool) (rest : List ℕ) → 752 ≤ length b → n < 3 → part b 728 24 ≡ count_bytes n due ++ rest
    → (get_or b 728 0 ≡ n) × (eqb (get_or b 729 0) 1 ≡ due) × (leb (get_or b 729 0) 1 ≡ true) × (zero_part b 730 6 ≡ true) × (part b 736 16 ≡ rest)
unfolding count_bytes
count-back b n due rest l m h =
    let whole = part-split b 728 8 16 _ _ (length-count n due) h in
    let p1 = part-split b 728 1 7 _ _ (length-bytes 1 n) whole.0 in
    let p2 = part-split b 729 1 6 _ _ (length-bytes 1 (cond due 1 0)) p1.1 in
    let byte : get_or b 729 0 ≡ cond due 1 0 = byte-back b 729 (cond due 1 0) p2.0 (bit-back due).2 (omega arith) in
    (byte-back b 728 n p1.0 (omega arith) (omega arith), rw byte (bit-back due).0, rw byte (bit-back due).1, zero-back b 730 6 p2.1, whole.1)

write-back : (cx : Context) (b : List ℕ) (at : ℕ) (w : Write) → at + 8 ≤ length b → cx.settings.columns ≤ 128 → WriteIn cx w → Back w.at.0 → part b at 8 ≡ write_bytes w
    → (write_in b at ≡ w) × (close_right b at ≡ true)
unfolding write_bytes bank_count
write-back cx b at w l m i v h =
    let close : ℕ = cond w.close 1 0 in
    let bank : w.bank < 32 = i.0 in
    let column : w.column < cx.settings.columns = i.1 in
    let p1 = part-split b at 1 7 (bytes 1 w.bank) (bytes 1 w.column ++ (bytes 2 close ++ instant_bytes w.at)) (length-bytes 1 w.bank) h in
    let p2 = part-split b (at + 1) 1 6 (bytes 1 w.column) (bytes 2 close ++ instant_bytes w.at) (length-bytes 1 w.column) p1.1 in
    let second : at + 1 + 1 ≡ at + 2 = omega arith in
    let fourth : at + 2 + 2 ≡ at + 4 = omega arith in
    let p3 = part-split b (at + 2) 2 4 (bytes 2 close) (instant_bytes w.at) (length-bytes 2 close) (rw second at p2.1) in
    let bit : number (part b (at + 2) 2) ≡ close = ap number p3.0 ∙ number-bytes 2 close (omega (arith, (bit-back w.close).2)) in
    let says : (write_in b at).close ≡ w.close = ap (λ (n : ℕ). eqb n 1) bit ∙ (bit-back w.close).0 in (
      rw (
        byte-back b at w.bank p1.0 (omega arith) (omega arith),
        byte-back b (at + 1) w.column p2.0 (omega arith) (omega arith),
        instant-back b (at + 4) w.at (rw fourth at p3.1) v,
        says,
      ),
      rw bit (bit-back w.close).1,
    )

buffer-back : (cx : Context) (b : List ℕ) (buffer : Buffer) (due : Bool) → 752 ≤ length b → cx.settings.columns ≤ 128
    → WritesIn cx (waiting_of buffer) → WritesAll SomeBack (waiting_of buffer) → part b 728 24 ≡ buffer_bytes buffer due
    → (buffer_in b ≡ buffer) × (eqb (get_or b 729 0) 1 ≡ due) × (channel_spare b ≡ true)
unfolding buffer_bytes buffer_in channel_spare waiting_of
buffer-back cx b Empty due l m i v h =
    let q = count-back b 0 due (zeros 16) l (omega arith) h in
    let p = part-split b 736 8 8 (zeros 8) (zeros 8) (length-zeros 8) q.4 in
    (rw q.0, q.1, rw (q.0, q.2, q.3, zero-back b 736 8 p.0, zero-back b 744 8 p.1))
buffer-back cx b (One w) due l m i v h =
    let q = count-back b 1 due (write_bytes w ++ zeros 8) l (omega arith) h in
    let p = part-split b 736 8 8 (write_bytes w) (zeros 8) (length-write w) q.4 in
    let one = write-back cx b 736 w (omega arith) m i.0 v.0.1 p.0 in
    (rw (q.0, one.0), q.1, rw (q.0, q.2, q.3, one.1, zero-back b 744 8 p.1))
buffer-back cx b (Two x y) due l m i v h =
    let q = count-back b 2 due (write_bytes x ++ write_bytes y) l (omega arith) h in
    let p = part-split b 736 8 8 (write_bytes x) (write_bytes y) (length-write x) q.4 in
    let one = write-back cx b 736 x (omega arith) m i.0 v.0.1 p.0 in
    let other = write-back cx b 744 y (omega arith) m i.1.0 v.1.0.1 p.1 in
    (rw (q.0, one.0, other.0), q.1, rw (q.0, q.2, q.3, one.1, other.1))

-- what a state must be for that: instants that fit their bytes, open rows, and banks and columns of waiting writes in range
pub record Kept (cx : Context) (ch : Channel) : Type 0 where
  pub instants : All Back SomeBack ch
  pub rows_in : (x : ℕ) → x < bank_count → bank_valid cx (state_of ch x) ≡ true
  pub write-in : WritesIn cx (waiting_of ch.buffer)

pub channel-back : (cx : Context) (ch : Channel) (b : List ℕ) → valid cx.settings ≡ true → Kept cx ch → 752 ≤ length b
    → part b 0 752 ≡ channel_bytes ch → (channel_in b ≡ ch) × (channel_spare b ≡ true)
unfolding channel_in bank_count
channel-back cx ch b v k n h =
    let m = bounds cx.settings v in
    let p : Parts b ch = parts b ch h in
    let banks : tracks_in b 32 ≡ ch.banks =
    sym (tracks-are b ch.banks 32 k.instants.lasts.size (λ x l. sym (track-back cx b ch x p l m.rows-most (k.instants.lasts.banks x l) (k.rows_in x l)))) in
    let q = lasts-back b ch k.instants.lasts p.lasts in
    let w = buffer-back cx b ch.buffer ch.due n m.columns-most k.write-in k.instants.writes p.buffer in
    (rw (banks, q, w.0, w.1), w.2)

pub valid-kept : (cx : Context) (ch : Channel) → channel_valid cx ch ≡ true → Kept cx ch
valid-kept cx ch c =
    let k : Sound cx ch = valid-sound cx ch c in
    record {
      instants = all_more Stamp IsInstant Back SomeBack stamp-back (λ t i. ((instant-low t i).0, stamp-back t (instant-stamp t i))) ch k.stamped;
      rows_in = k.rows_in;
      write-in = in-write cx (waiting_of ch.buffer) k.write;
    }

pub channel-decode-encode : (cx : Context) (ch : Channel) (b : List ℕ) → valid cx.settings ≡ true → channel_valid cx ch ≡ true → 752 ≤ length b
    → part b 0 752 ≡ channel_bytes ch → (channel_in b ≡ ch) × (channel_spare b ≡ true)
channel-decode-encode cx ch b v c = channel-back cx ch b v (valid-kept cx ch c)

-- ---- read, then written

-- a byte is the one that is written of it
one_byte : (b : List ℕ) (i : ℕ) → Bytes b → i < length b → bytes 1 (get_or b i 0) ≡ part b i 1
one_byte b i w l = rw (← number-one b i l) (bytes-part b i 1 w (omega arith))

-- an instant, and bytes that are 0
pub instant-in : (b : List ℕ) (at : ℕ) → Bytes b → at + 4 ≤ length b → instant_bytes (instant_in b at) ≡ part b at 4
instant-in b at w l = ap (bytes 4) (stored-in (number (part b at 4))) ∙ bytes-part b at 4 w l

pub bytes-zero : (n : ℕ) → bytes n 0 ≡ zeros n
unfolding bytes
bytes-zero zero = refl
bytes-zero (suc n) = rw (bytes-zero n)

pub zero_in : (b : List ℕ) (at n : ℕ) → Bytes b → at + n ≤ length b → zero_part b at n ≡ true → zeros n ≡ part b at n
zero_in b at n w l z = sym (bytes-zero n) ∙ ap (bytes n) (sym (eqb-true _ 0 z)) ∙ bytes-part b at n w l

-- the planes of the state that bytes say
instants-in : (b : List ℕ) (at : ℕ) (f : BankTrack → PacketAt) → Bytes b → at + 128 ≤ length b → ((x : ℕ) → f (track_in b x) ≡ instant_in b (at + 4 * x))
    → part b at 128 ≡ instant_plane (λ x. f (track_of (channel_in b) x))
unfolding channel_in bank_count
instants-in b at f w l h =
    sym (plane-part b 4 at (λ x. (f (get_or (tracks_in b 32) x idle)).0 - 3) 32 w l
    (λ x m. ap (λ (k : BankTrack). (f k).0 - 3) (tracks-at b 32 x m) ∙ ap (λ (t : PacketAt). t.0 - 3) (h x) ∙ stored-in (number (part b (at + 4 * x) 4))))

tags-in : (b : List ℕ) → Bytes b → 752 ≤ length b → part b 640 64 ≡ plane 2 (λ x. bank_tag (track_of (channel_in b) x).bank) 32
unfolding channel_in bank_count track_in
tags-in b w l =
    sym
    (plane-part b 2 640 (λ x. bank_tag (get_or (tracks_in b 32) x idle).bank) 32 w (omega arith)
    (λ x m. ap (λ (k : BankTrack). bank_tag k.bank) (tracks-at b 32 x m) ∙ tag_in_lem (number (part b (640 + 2 * x) 2))))

lasts-in : (b : List ℕ) → Bytes b → 752 ≤ length b → part b 704 24 ≡ lasts_bytes (lasts_in b)
unfolding lasts_in lasts_bytes
lasts-in b w l =
    sym
    (part-both b 704 4 20 _ _ (instant-in b 704 w (omega arith))
    (part-both b 708 4 16 _ _ (instant-in b 708 w (omega arith))
    (part-both b 712 4 12 _ _ (instant-in b 712 w (omega arith))
    (part-both b 716 4 8 _ _ (instant-in b 716 w (omega arith)) (part-both b 720 4 4 _ _ (instant-in b 720 w (omega arith)) (instant-in b 724 w (omega arith)))))))

-- a number that is 0 or 1, as a test
bit_in : (n : ℕ) → leb n 1 ≡ true → cond (eqb n 1) 1 0 ≡ n
bit_in n h = go (eqb n 1) refl
  where
    go : (q : Bool) → eqb n 1 ≡ q → cond q 1 0 ≡ n
    go true e = sym (eqb-true n 1 e)
    go false e = omega (arith, leb-true n 1 h, eqb-false n 1 e)

write-in : (b : List ℕ) (at : ℕ) → Bytes b → at + 8 ≤ length b → close_right b at ≡ true → write_bytes (write_in b at) ≡ part b at 8
unfolding write_bytes
write-in b at w l z =
    let close : ℕ = number (part b (at + 2) 2) in
    let second : at + 1 + 1 ≡ at + 2 = omega arith in
    let fourth : at + 2 + 2 ≡ at + 4 = omega arith in
    part-both b at 1 7 (bytes 1 (get_or b at 0)) _ (one_byte b at w (omega arith))
    (part-both b (at + 1) 1 6 (bytes 1 (get_or b (at + 1) 0)) _ (one_byte b (at + 1) w (omega arith))
    (rw second (part-both b (at + 2) 2 4 (bytes 2 (cond (eqb close 1) 1 0)) _ (ap (bytes 2) (bit_in close z) ∙ bytes-part b (at + 2) 2 w (omega arith)) (rw fourth (instant-in b (at + 4) w (omega arith))))))

count-in : (b : List ℕ) (n : ℕ) → Bytes b → 752 ≤ length b → get_or b 728 0 ≡ n → leb (get_or b 729 0) 1 ≡ true → zero_part b 730 6 ≡ true
    → count_bytes n (eqb (get_or b 729 0) 1) ≡ part b 728 8
unfolding count_bytes
count-in b n w l e d z =
    part-both b 728 1 7 (bytes 1 n) _ (ap (bytes 1) (sym e) ∙ one_byte b 728 w (omega arith))
    (part-both b 729 1 6 (bytes 1 (cond (eqb (get_or b 729 0) 1) 1 0)) _ (ap (bytes 1) (bit_in (get_or b 729 0) d) ∙ one_byte b 729 w (omega arith))
    (zero_in b 730 6 w (omega arith) z))

-- what `channel_spare` says, test by test
record Spare (b : List ℕ) : Type 0 where
  count : leb (get_or b 728 0) 2 ≡ true
  due : leb (get_or b 729 0) 1 ≡ true
  after-due : zero_part b 730 6 ≡ true
  first : cond (eqb (get_or b 728 0) 0) (zero_part b 736 8) (close_right b 736) ≡ true
  second : cond (leb (get_or b 728 0) 1) (zero_part b 744 8) (close_right b 744) ≡ true

spare-tests : (b : List ℕ) → channel_spare b ≡ true → Spare b
unfolding channel_spare
spare-tests b e =
    let counts : Bool = leb (get_or b 728 0) 2 && (leb (get_or b 729 0) 1 && zero_part b 730 6) in
    let c = and_left counts _ e in
    let d = and_right (leb (get_or b 728 0) 2) _ c in
    let f = and_right counts _ e in
    record {
      count = and_left (leb (get_or b 728 0) 2) _ c;
      due = and_left (leb (get_or b 729 0) 1) _ d;
      after-due = and_right (leb (get_or b 729 0) 1) _ d;
      first = and_left (cond (eqb (get_or b 728 0) 0) (zero_part b 736 8) (close_right b 736)) _ f;
      second = and_right (cond (eqb (get_or b 728 0) 0) (zero_part b 736 8) (close_right b 736)) _ f;
    }

buffer-in : (b : List ℕ) → Bytes b → 752 ≤ length b → Spare b → part b 728 24 ≡ buffer_bytes (buffer_in b) (eqb (get_or b 729 0) 1)
unfolding buffer_in buffer_bytes
buffer-in b w l k = go (eqb (get_or b 728 0) 0) refl (eqb (get_or b 728 0) 1) refl
  where
    due : Bool
    due = eqb (get_or b 729 0) 1

    counted : (n : ℕ) → get_or b 728 0 ≡ n → count_bytes n due ≡ part b 728 8
    counted n e = count-in b n w l e k.due k.after-due

    go : (z : Bool) → eqb (get_or b 728 0) 0 ≡ z → (o : Bool) → eqb (get_or b 728 0) 1 ≡ o
        → part b 728 24 ≡ buffer_bytes (cond z Empty (cond o (One (write_in b 736)) (Two (write_in b 736) (write_in b 744)))) due
    go true e o f =
        let none : get_or b 728 0 ≡ 0 = eqb-true _ 0 e in
        sym (part-both b 728 8 16 (count_bytes 0 due) (zeros 16) (counted 0 none)
        (part-both b 736 8 8 (zeros 8) (zeros 8) (zero_in b 736 8 w (omega arith) (rw none at k.first)) (zero_in b 744 8 w (omega arith) (rw none at k.second))))
    go false e true f =
        let one : get_or b 728 0 ≡ 1 = eqb-true _ 1 f in
        sym (part-both b 728 8 16 (count_bytes 1 due) (write_bytes (write_in b 736) ++ zeros 8) (counted 1 one)
        (part-both b 736 8 8 (write_bytes (write_in b 736)) (zeros 8) (write-in b 736 w (omega arith) (rw one at k.first)) (zero_in b 744 8 w (omega arith) (rw one at k.second))))
    go false e false f =
        let both : get_or b 728 0 ≡ 2 = omega (arith, leb-true (get_or b 728 0) 2 k.count, eqb-false (get_or b 728 0) 0 e, eqb-false (get_or b 728 0) 1 f) in
        sym (part-both b 728 8 16 (count_bytes 2 due) (write_bytes (write_in b 736) ++ write_bytes (write_in b 744)) (counted 2 both)
        (part-both b 736 8 8 (write_bytes (write_in b 736)) (write_bytes (write_in b 744)) (write-in b 736 w (omega arith) (rw both at k.first)) (write-in b 744 w (omega arith) (rw both at k.second))))

pub channel-encode-decode : (b : List ℕ) → Bytes b → 752 ≤ length b → channel_spare b ≡ true → channel_bytes (channel_in b) ≡ part b 0 752
unfolding channel_in track_in
channel-encode-decode b w l v =
    let k : Spare b = spare-tests b v in
    parts_whole b (channel_in b)
    record {
      opened = instants-in b 0 (λ k. k.opened) w (omega arith) (λ x. rw zero-add);
      act = instants-in b 128 (λ k. k.act) w (omega arith) (λ x. refl);
      pre = instants-in b 256 (λ k. k.pre) w (omega arith) (λ x. refl);
      rd = instants-in b 384 (λ k. k.rd) w (omega arith) (λ x. refl);
      retire = instants-in b 512 (λ k. k.retire) w (omega arith) (λ x. refl);
      bank = tags-in b w l;
      lasts = lasts-in b w l;
      buffer = buffer-in b w l k;
    }

-- The stores of one turn of the walk make the banks of the next state, and what the walk keeps beside that state stays right.
-- Assumes nothing.
use Prim.Native.Nat.{ℕ, zero, suc, ◌≤◌, ◌<◌, max}
use mathlib.Core.Path.{◌≡◌, refl, sym, ◌∙◌, ap}
use mathlib.Core.Bool.{Bool, true, false, cond}
use mathlib.Core.List.{List}
use native.Mathlib.Omega.{arith}
use borrow.Author.Tests.{lt-ltb, ltb-true}
use lib.Dec.{eqb, ltb}
use lib.ListN.{length, get_or, set, replicate}
use lib.Seq.{set-get_or}
use Rattle.settings.specs.declared.Settings.{Settings}
use Rattle.settings.specs.declared.PacketAt.{PacketAt}
use Rattle.packet.specs.declared.RowPacket.TheVariants.{Act, Prer, Refa, Refp}
use Rattle.packet.specs.declared.ColPacket.TheVariants.{Nocop, Wr, Rd}
use Rattle.packet.specs.Row.{row_fits}
use Rattle.packet.specs.Col.{col_fits}
use Rattle.record.specs.declared.Record.{Record}
use Rattle.record.specs.declared.Record.TheVariants.{RowAt, ColAt, DataOf}
use Rattle.record.specs.Record.{record_fits}
use Rattle.spec_rules.specs.declared.BankTrack.{BankTrack}
use Rattle.spec_rules.specs.declared.Write.{Write}
use Rattle.spec_rules.specs.declared.Buffer.{Buffer}
use Rattle.spec_rules.specs.declared.Buffer.TheVariants.{Empty, One, Two}
use Rattle.spec_rules.specs.Channel.{idle, waiting_of, buffer_of}
use Rattle.spec_rules.proofs.Bools.{not-both, and_left}
use Rattle.chan_view.specs.declared.View.{View}
use Rattle.chan_view.specs.declared.Held.{Held}
use Rattle.chan_view.specs.Form.Beside.{low_of, high_of, first_near, last_near, slot_of}
use Rattle.chan_view.specs.Form.View.{row_view, col_view, seen_of, held_of}
use Rattle.chan_step.specs.Form.Banks.{act_track, refa_track, prer_track, side_track, read_track, retired_track, changed, closed_banks, row_banks, col_banks, retired_banks, banks_next}
use Rattle.chan_step.specs.Form.Lasts.{left_buffer, joined_buffer, col_buffer, buffer_next}
use Rattle.chan_step.proofs.BankLaws.{changed-at, length-changed, closed-near}
use Rattle.check_walk.specs.Form.Turn.{view_in, opened_track, newest_next, no_lasts, channel_of, three_stores, closed_near}

-- ---- the banks that records name

pub fits-bank : (s : Settings) (r : Record) → record_fits s r ≡ true → (view_in (seen_of r)).bank < 32
unfolding record_fits row_fits col_fits view_in seen_of row_view col_view
fits-bank s (RowAt t (Act b r)) p = ltb-true b 32 (and_left (ltb b 32) _ p)
fits-bank s (RowAt t (Prer b)) p = ltb-true b 32 p
fits-bank s (RowAt t (Refa b)) p = ltb-true b 32 p
fits-bank s (RowAt t (Refp b)) p = ltb-true b 32 p
fits-bank s (ColAt t (Nocop m)) p = omega arith
fits-bank s (ColAt t (Wr b c m q)) p = ltb-true b 32 (and_left (ltb b 32) _ p)
fits-bank s (ColAt t (Rd b c m q)) p = ltb-true b 32 (and_left (ltb b 32) _ p)
fits-bank s (DataOf t d) p = omega arith

-- the waiting writes have one too
abbrev pub HeldWithin : Held → Type 0
HeldWithin h = (h.waits ≡ true → h.bank < 32) × (h.two ≡ true → h.next < 32)

abbrev pub Within : Buffer → Type 0
Within b = HeldWithin (held_of b false)

pub held-within : (b : Buffer) (due : Bool) → Within b → HeldWithin (held_of b due)
unfolding held_of
held-within Empty due f = f
held-within (One x) due f = f
held-within (Two x y) due f = f

pub within_none : Within Empty
unfolding held_of
within_none = (λ p. not-both false p refl, λ p. not-both false p refl)

left-within : (out : Bool) (b : Buffer) → Within b → Within (left_buffer out b)
unfolding left_buffer buffer_of waiting_of held_of
left-within out Empty f = go out
  where
    go : (out : Bool) → Within (left_buffer out Empty)
    go true = f
    go false = f
left-within true (One x) f = (λ p. not-both false p refl, λ p. not-both false p refl)
left-within false (One x) f = f
left-within true (Two x y) f = (λ p. f.1 refl, λ p. not-both false p refl)
left-within false (Two x y) f = f

joined-within : (b : Buffer) (w : Write) → w.bank < 32 → Within b → Within (joined_buffer b w)
unfolding joined_buffer buffer_of waiting_of held_of
joined-within Empty w i f = (λ p. i, λ p. not-both false p refl)
joined-within (One x) w i f = (f.0, λ p. i)
joined-within (Two x y) w i f = (f.0, λ p. i)

pub within-next : (r : Record) (out : Bool) (b : Buffer) → (view_in (seen_of r)).bank < 32 → Within b → Within (buffer_next r out b)
unfolding buffer_next col_buffer view_in seen_of col_view
within-next (RowAt t p) out b i f = f
within-next (ColAt t (Nocop m)) out b i f = left-within out b f
within-next (ColAt t (Wr x c m q)) out b i f = joined-within (left_buffer out b) _ i (left-within out b f)
within-next (ColAt t (Rd x c m q)) out b i f = left-within out b f
within-next (DataOf t d) out b i f = f

-- ---- the newest ACT or REFA

-- no bank was opened later
abbrev pub Opened : ℕ → List BankTrack → Type 0
Opened u l = (x : ℕ) → x < 32 → (get_or l x idle).opened.0 ≤ u

all-idle : (n x : ℕ) → get_or (replicate n idle) x idle ≡ idle
all-idle zero x = refl
all-idle (suc n) zero = refl
all-idle (suc n) (suc x) = all-idle n x

-- none was opened at first
pub opened-fresh : Opened 0 (replicate 32 idle)
opened-fresh x h = rw (all-idle 32 x) (omega arith)

pub opened-same : (u : ℕ) (l m : List BankTrack) → l ≡ m → Opened u m → Opened u l
opened-same u l m q o = rw q o

module _ (u : ℕ) (l : List BankTrack) (e : length l ≡ 32) (o : Opened u l) where
  changed-opened : (f : BankTrack → BankTrack) → ((k : BankTrack) → k.opened.0 ≤ u → (f k).opened.0 ≤ u) → (x : ℕ) → Opened u (changed f x l)
  changed-opened f g x i h = rw (changed-at f x l i (omega arith)) (go (eqb i x))
    where
      go : (t : Bool) → (cond t (f (get_or l i idle)) (get_or l i idle)).opened.0 ≤ u
      go true = g (get_or l i idle) (o i h)
      go false = o i h

  retired-opened : (out : Bool) (w : ℕ) (t : PacketAt) → Opened u (retired_banks out w t l)
  retired-opened true w t = changed-opened (retired_track t) (λ k m. m) w
  retired-opened false w t = o

pub length-retired : (out : Bool) (w : ℕ) (t : PacketAt) (l : List BankTrack) → length (retired_banks out w t l) ≡ length l
length-retired true w t l = length-changed (retired_track t) w l
length-retired false w t l = refl

pub length-closed : (t : PacketAt) (b low high : ℕ) (l : List BankTrack) → length (closed_banks t b low high l) ≡ length l
length-closed t b low high l = length-changed (side_track t) high _ ∙ length-changed (side_track t) low _ ∙ length-changed (prer_track t) b l

pub length-next : (s : Settings) (r : Record) (l : List BankTrack) → length (banks_next s r l) ≡ length l
unfolding banks_next row_banks col_banks
length-next s (RowAt t (Act b row)) l = length-changed (act_track row t) b l
length-next s (RowAt t (Prer b)) l = length-closed t b (low_of s b) (high_of s b) l
length-next s (RowAt t (Refa b)) l = length-changed (refa_track t) b l
length-next s (RowAt t (Refp b)) l = length-closed t b (low_of s b) (high_of s b) l
length-next s (ColAt t (Nocop m)) l = refl
length-next s (ColAt t (Wr b c m q)) l = refl
length-next s (ColAt t (Rd b c m q)) l = length-changed (read_track t) b l
length-next s (DataOf t d) l = refl

module _ (s : Settings) (u : ℕ) (l : List BankTrack) (e : length l ≡ 32) (o : Opened u l) where
  opens-opened : (t : PacketAt) (f : BankTrack → BankTrack) → ((k : BankTrack) → (f k).opened ≡ t) → (x : ℕ) → Opened (max u t.0) (changed f x l)
  opens-opened t f g x = changed-opened (max u t.0) l e (λ i h. omega (arith, o i h)) f (λ k n. rw (g k) (omega arith)) x

  pub closes-opened : (t : PacketAt) (b : ℕ) → Opened u (closed_banks t b (low_of s b) (high_of s b) l)
  closes-opened t b =
      let l1 : List BankTrack = changed (prer_track t) b l in
      let e1 : length l1 ≡ 32 = length-changed (prer_track t) b l ∙ e in
      let l2 : List BankTrack = changed (side_track t) (low_of s b) l1 in
      let e2 : length l2 ≡ 32 = length-changed (side_track t) (low_of s b) l1 ∙ e1 in
      changed-opened u l2 e2 (changed-opened u l1 e1 (changed-opened u l e o (prer_track t) (λ k m. m) b) (side_track t) (λ k m. m) (low_of s b)) (side_track t) (λ k m. m) (high_of s b)

  own-opened : (r : Record) → Opened (newest_next (view_in (seen_of r)) u) (banks_next s r l)
  unfolding view_in seen_of row_view col_view banks_next row_banks col_banks
  own-opened (RowAt t (Act b row)) = opens-opened t (act_track row t) (λ k. refl) b
  own-opened (RowAt t (Prer b)) = closes-opened t b
  own-opened (RowAt t (Refa b)) = opens-opened t (refa_track t) (λ k. refl) b
  own-opened (RowAt t (Refp b)) = closes-opened t b
  own-opened (ColAt t (Nocop m)) = o
  own-opened (ColAt t (Wr b c m q)) = o
  own-opened (ColAt t (Rd b c m q)) = changed-opened u l e o (read_track t) (λ k m. m) b
  own-opened (DataOf t d) = o

pub opened-next : (s : Settings) (r : Record) (u : ℕ) (out : Bool) (w : ℕ) (t : PacketAt) (l : List BankTrack) → length l ≡ 32 → Opened u l
    → Opened (newest_next (view_in (seen_of r)) u) (banks_next s r (retired_banks out w t l))
opened-next s r u out w t l e o = own-opened s u (retired_banks out w t l) (length-retired out w t l ∙ e) (retired-opened u l e o out w t) r

-- ---- the stores

abbrev pub with_rd : ℕ → BankTrack → BankTrack
with_rd t k = record { bank = k.bank; opened = k.opened; act = k.act; pre = k.pre; rd = record { 0 = t }; retire = k.retire }

abbrev pub with_retire : ℕ → BankTrack → BankTrack
with_retire t k = record { bank = k.bank; opened = k.opened; act = k.act; pre = k.pre; rd = k.rd; retire = record { 0 = t } }

-- of a COL packet other than RD, at the bank of the older write
abbrev pub retire_store : Bool → ℕ → PacketAt → List BankTrack → List BankTrack
retire_store out w t l = set l w (with_retire (cond out t.0 (get_or l w idle).retire.0) (get_or l w idle))

-- of a packet, where the older write, to bank w, leaves or does not
abbrev pub own_stores : View → ℕ → ℕ → ℕ → ℕ → Bool → List BankTrack → List BankTrack
own_stores v x y z w out l =
    cond v.opens (set l x (opened_track v (get_or l x idle)))
    (cond v.precharges (three_stores v.at x y z l)
    (cond v.reads (set l x (with_rd v.at.0 (get_or l x idle))) (cond v.other (retire_store out w v.at l) l)))

pub slot-in : (b : ℕ) → b < 32 → slot_of b ≡ b
slot-in b i = rw (lt-ltb b 32 i)

-- they are those of the next state
retire-stored : (out : Bool) (w : ℕ) (t : PacketAt) (l : List BankTrack) → (out ≡ true → w < 32) → retire_store out (slot_of w) t l ≡ retired_banks out w t l
unfolding changed
retire-stored true w t l f = rw (slot-in w (f refl))
retire-stored false w t l f = set-get_or l (slot_of w) idle

pub close-stored : (s : Settings) (l : List BankTrack) → length l ≡ 32 → (t : PacketAt) (b : ℕ) → b < 32
    → closed_near s t b l ≡ closed_banks t b (low_of s b) (high_of s b) l
unfolding changed
close-stored s l e t b i = rw (slot-in b i) (sym (closed-near s t b (channel_of l no_lasts Empty false) e))

module _ (s : Settings) (w : ℕ) (l : List BankTrack) (e : length l ≡ 32) where
  abbrev stored_at : View → Bool → List BankTrack
  stored_at v out = own_stores v (slot_of v.bank) (first_near s (slot_of v.bank)) (last_near s (slot_of v.bank)) (slot_of w) out l

  -- only a COL packet other than RD retires
  pub turn-stored : (r : Record) (out : Bool) → (out ≡ true → w < 32) → ((view_in (seen_of r)).other ≡ false → out ≡ false) → (view_in (seen_of r)).bank < 32
      → stored_at (view_in (seen_of r)) out ≡ banks_next s r (retired_banks out w (view_in (seen_of r)).at l)
  unfolding view_in seen_of row_view col_view banks_next row_banks col_banks changed
  turn-stored (RowAt t (Act b row)) out f g i = rw (g refl, slot-in b i)
  turn-stored (RowAt t (Prer b)) out f g i = rw (g refl) (close-stored s l e t b i)
  turn-stored (RowAt t (Refa b)) out f g i = rw (g refl, slot-in b i)
  turn-stored (RowAt t (Refp b)) out f g i = rw (g refl) (close-stored s l e t b i)
  turn-stored (ColAt t (Nocop m)) out f g i = retire-stored out w t l f
  turn-stored (ColAt t (Wr b c m q)) out f g i = retire-stored out w t l f
  turn-stored (ColAt t (Rd b c m q)) out f g i = rw (g refl, slot-in b i)
  turn-stored (DataOf t d) out f g i = rw (g refl)

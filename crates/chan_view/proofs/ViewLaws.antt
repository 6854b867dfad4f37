-- Views say what records and the write buffer are to the rules.
-- Assumes nothing.
use Rattle.std.specs.Prelude.{Option, None, Some}
use Prim.Native.Nat.{ℕ, ◌+◌}
use mathlib.Core.Path.{◌≡◌, refl, ap, ◌∙◌}
use mathlib.Core.Bool.{Bool, true, false, not, ◌&&◌, ◌||◌, or-false, cond, or-true, and-true, and-false}
use mathlib.Core.List.{[], ◌∷◌}
use native.Mathlib.Omega.{arith}
use Rattle.settings.specs.declared.Settings.{Settings}
use Rattle.settings.specs.declared.PacketAt.{PacketAt}
use Rattle.packet.specs.declared.RowPacket.{RowPacket}
use Rattle.packet.specs.declared.RowPacket.TheVariants.{Act, Prer, Refa, Refp}
use Rattle.packet.specs.declared.ColPacket.{ColPacket}
use Rattle.packet.specs.declared.ColPacket.TheVariants.{Nocop, Wr, Rd}
use Rattle.record.specs.declared.Record.{Record}
use Rattle.record.specs.declared.Record.TheVariants.{RowAt, ColAt, DataOf}
use Rattle.spec_rules.specs.declared.Write.{Write}
use Rattle.spec_rules.specs.declared.Buffer.{Buffer}
use Rattle.spec_rules.specs.declared.Buffer.TheVariants.{Empty, One, Two}
use Rattle.spec_rules.specs.declared.Channel.{Channel}
use Rattle.chan_view.specs.declared.View.{View}
use Rattle.chan_view.specs.declared.Held.{Held}
use Rattle.chan_view.specs.declared.Seen.TheVariants.{Packet}
use Rattle.spec_rules.specs.Neighbour.{context_of}
use Rattle.spec_rules.specs.Packets.{Traits, traits, row_traits, col_traits, instant, is_packet}
use Rattle.spec_rules.specs.History.{only, only_write, first, passed, bank_of, leaving, left, any_write, retire_implies, has}
use Rattle.spec_rules.specs.Rules.{longest_delay, stays}
use Rattle.spec_rules.specs.Channel.{waiting_of, newest_due, due_of}
use Rattle.spec_rules.proofs.Bools.{not-both}
use Rattle.spec_rules.proofs.ByRule.{implied_bank}
use Rattle.chan_view.specs.Form.View.{row_view, col_view, seen_of, held_of, leaves, leaves_closing, implies_by, centre_of, stays_by, delay_of}

-- the traits that a view stands for
abbrev pub traits_of : View → Traits
traits_of v =
    record {
      opens = only v.opens (Some v.bank);
      acts = only v.acts (Some v.bank);
      precharges = only v.precharges (Some v.bank);
      reads = only v.reads (Some v.bank);
      writes = only v.writes (Some v.bank);
      retires = None;
      implies = only (v.reads && v.close) (Some v.bank);
      row = v.row;
      col = v.col;
      not_read = v.other;
      masked = v.masked;
    }

-- record r is a packet with view v
pub record Shows (r : Record) (v : View) : Type 0 where
  pub traits-of : traits r ≡ traits_of v
  pub instant-of : instant r ≡ v.at.0
  pub packet-of : is_packet r ≡ true
  -- a packet that may retire does none of these; an RD does not precharge
  pub retires-alone : (v.other && (v.opens || (v.precharges || v.reads))) ≡ false
  pub reads-alone : (v.precharges && v.reads) ≡ false
  pub delay-of : (s : Settings) → longest_delay (context_of s) r ≡ delay_of s v

pub row_shows : (t : PacketAt) (p : RowPacket) → Shows (RowAt t p) (row_view t p)
unfolding traits row_traits instant is_packet longest_delay row_view
row_shows t (Act b r) = record { traits-of = refl; instant-of = refl; packet-of = refl; retires-alone = refl; reads-alone = refl; delay-of = λ s. refl }
row_shows t (Prer b) = record { traits-of = refl; instant-of = refl; packet-of = refl; retires-alone = refl; reads-alone = refl; delay-of = λ s. refl }
row_shows t (Refa b) = record { traits-of = refl; instant-of = refl; packet-of = refl; retires-alone = refl; reads-alone = refl; delay-of = λ s. refl }
row_shows t (Refp b) = record { traits-of = refl; instant-of = refl; packet-of = refl; retires-alone = refl; reads-alone = refl; delay-of = λ s. refl }

pub col-shows : (t : PacketAt) (p : ColPacket) → Shows (ColAt t p) (col_view t p)
unfolding traits col_traits instant is_packet longest_delay col_view context_of
col-shows t (Nocop m) = record { traits-of = refl; instant-of = refl; packet-of = refl; retires-alone = refl; reads-alone = refl; delay-of = λ s. refl }
col-shows t (Wr b c m x) = record { traits-of = refl; instant-of = refl; packet-of = refl; retires-alone = refl; reads-alone = refl; delay-of = λ s. refl }
col-shows t (Rd b c m true) = record { traits-of = refl; instant-of = refl; packet-of = refl; retires-alone = refl; reads-alone = refl; delay-of = λ s. refl }
col-shows t (Rd b c m false) = record { traits-of = refl; instant-of = refl; packet-of = refl; retires-alone = refl; reads-alone = refl; delay-of = λ s. refl }

pub seen-shows : (r : Record) (v : View) → seen_of r ≡ Packet v → Shows r v
unfolding seen_of
seen-shows (RowAt t p) v e = let q : row_view t p ≡ v = cc in rw q at (row_shows t p)
seen-shows (ColAt t p) v e = let q : col_view t p ≡ v = cc in rw q at (col-shows t p)
seen-shows (DataOf t d) v e = absurd (let z : ◌≡◌ {A = ℕ} 0 1 = cc in omega arith)

-- ---- the write buffer

module _ (s : Settings) (b : Buffer) (due : Bool) (r : Record) (v : View) (h : Shows r v) where
  -- the older write, where this says that it leaves
  abbrev pub oldest : Bool → Option Write
  oldest leaves = only_write leaves (first (waiting_of b))

  -- the write that a packet retires, and its bank
  pub leaving-is : leaving (context_of s) (waiting_of b) r ≡ oldest (leaves s (held_of b due) v)
  unfolding leaving waiting_of held_of context_of
  leaving-is = rw (h.traits-of, h.instant-of) (go b)
    where
      none-leaves : (c : Bool) → only_write (c && false) None ≡ None
      none-leaves true = refl
      none-leaves false = refl

      go : (b : Buffer) → only_write (v.other && passed (context_of s) (first (waiting_of b)) v.at.0) (first (waiting_of b)) ≡ only_write (leaves s (held_of b due) v) (first (waiting_of b))
      go Empty = none-leaves v.other
      go (One x) = refl
      go (Two x y) = refl

  pub leaving-bank : bank_of (leaving (context_of s) (waiting_of b) r) ≡ only (leaves s (held_of b due) v) (Some (held_of b due).bank)
  unfolding waiting_of held_of
  leaving-bank = ap bank_of leaving-is ∙ go b
    where
      flag : (c : Bool) (x : Write) → bank_of (only_write c (Some x)) ≡ only c (Some x.bank)
      flag true x = refl
      flag false x = refl

      go : (b : Buffer) → bank_of (only_write (leaves s (held_of b due) v) (first (waiting_of b))) ≡ only (leaves s (held_of b due) v) (Some (held_of b due).bank)
      go Empty = refl
      go (One x) = flag (leaves s (held_of (One x) due) v) x
      go (Two x y) = flag (leaves s (held_of (Two x y) due) v) x

  -- the bank that its retire closes
  pub leaving-closes : retire_implies (leaving (context_of s) (waiting_of b) r) ≡ only (leaves_closing s (held_of b due) v) (Some (held_of b due).bank)
  unfolding waiting_of held_of
  leaving-closes = ap retire_implies leaving-is ∙ go b
    where
      flag : (c : Bool) (x : Write) → retire_implies (only_write c (Some x)) ≡ only (x.close && c) (Some x.bank)
      flag true x = rw (and-true x.close)
      flag false x = rw (and-false x.close)

      go : (b : Buffer) → retire_implies (only_write (leaves s (held_of b due) v) (first (waiting_of b))) ≡ only (leaves_closing s (held_of b due) v) (Some (held_of b due).bank)
      go Empty = refl
      go (One x) = flag (leaves s (held_of (One x) due) v) x
      go (Two x y) = flag (leaves s (held_of (Two x y) due) v) x

  -- a test on the writes that it leaves
  pub left-any : (p : ℕ → Bool → Bool)
      → any_write (λ w. p w.bank w.close) (left (leaving (context_of s) (waiting_of b) r) (waiting_of b))
      ≡ ((((held_of b due).waits && not (leaves s (held_of b due) v)) && p (held_of b due).bank (held_of b due).close) || ((held_of b due).two && p (held_of b due).next (held_of b due).next_close))
  unfolding waiting_of held_of
  left-any p = ap (λ (o : Option Write). any_write (λ w. p w.bank w.close) (left o (waiting_of b))) leaving-is ∙ go b
    where
      one : (c : Bool) (x : Write) → any_write (λ w. p w.bank w.close) (left (only_write c (Some x)) (x ∷ [])) ≡ ((not c && p x.bank x.close) || false)
      one true x = refl
      one false x = refl

      both : (c : Bool) (x y : Write)
          → any_write (λ w. p w.bank w.close) (left (only_write c (Some x)) (x ∷ y ∷ [])) ≡ ((not c && p x.bank x.close) || p y.bank y.close)
      both true x y = or-false (p y.bank y.close)
      both false x y = rw (or-false (p y.bank y.close))

      go : (b : Buffer)
          → any_write (λ w. p w.bank w.close) (left (only_write (leaves s (held_of b due) v) (first (waiting_of b))) (waiting_of b))
          ≡ ((((held_of b due).waits && not (leaves s (held_of b due) v)) && p (held_of b due).bank (held_of b due).close) || ((held_of b due).two && p (held_of b due).next (held_of b due).next_close))
      go Empty = refl
      go (One x) = one (leaves s (held_of (One x) due) v) x
      go (Two x y) = both (leaves s (held_of (Two x y) due) v) x y

  -- a closing write is left waiting
  pub left-closing : any_write (λ w. w.close) (left (leaving (context_of s) (waiting_of b) r) (waiting_of b))
      ≡ (((held_of b due).close && not (leaves s (held_of b due) v)) || (held_of b due).next_close)
  unfolding held_of
  left-closing = left-any (λ x close. close) ∙ go b
    where
      swap : (l : Bool) (x y : Bool) → ((not l && x) || y) ≡ ((x && not l) || y)
      swap true x y = rw (and-false x)
      swap false x y = rw (and-true x)

      go : (b : Buffer)
          → ((((held_of b due).waits && not (leaves s (held_of b due) v)) && (held_of b due).close) || ((held_of b due).two && (held_of b due).next_close))
          ≡ (((held_of b due).close && not (leaves s (held_of b due) v)) || (held_of b due).next_close)
      go Empty = refl
      go (One x) = swap (leaves s (held_of (One x) due) v) x.close false
      go (Two x y) = swap (leaves s (held_of (Two x y) due) v) x.close y.close

  -- a packet that opens, precharges or reads retires nothing
  pub retires-none : (v.opens || (v.precharges || v.reads)) ≡ true → leaves s (held_of b due) v ≡ false
  retires-none q = rw (rw (q, and-true v.other) at h.retires-alone) (and-false (held_of b due).waits)

  pub keeps-bank : (v.opens || (v.precharges || v.reads)) ≡ true → leaves_closing s (held_of b due) v ≡ false
  keeps-bank q = rw (retires-none q) (and-false (held_of b due).close)

  pub rda-keeps : (v.reads && v.close) ≡ true → leaves_closing s (held_of b due) v ≡ false
  rda-keeps q = keeps-bank (go v.reads v.close q)
    where
      go : (a c : Bool) → (a && c) ≡ true → (v.opens || (v.precharges || a)) ≡ true
      go true c q = rw (or-true v.precharges, or-true v.opens)
      go false c q = not-both false q refl

  -- a packet that opens a bank names the bank in the middle of those that it concerns
  pub opens-centre : v.opens ≡ true → centre_of s (held_of b due) v ≡ v.bank
  opens-centre q = rw (keeps-bank (rw q))

  -- a packet with a PRER of its own implies none
  pub precharges-alone : v.precharges ≡ true → implies_by s (held_of b due) v ≡ false
  precharges-alone q = rw (keeps-bank (rw q (or-true v.opens)), rw q at h.reads-alone)

  -- the bank of its own PRER
  pub precharges-at : (traits r).precharges ≡ only v.precharges (Some (centre_of s (held_of b due) v))
  precharges-at = rw h.traits-of (go v.precharges refl)
    where
      go : (c : Bool) → v.precharges ≡ c → only c (Some v.bank) ≡ only c (Some (centre_of s (held_of b due) v))
      go true q = rw (keeps-bank (rw q (or-true v.opens)))
      go false q = refl

  -- whether it may leave the waiting writes as they are
  pub stays-is : stays (waiting_of b) (traits r) ≡ stays_by (held_of b due) v
  unfolding waiting_of held_of
  stays-is = rw h.traits-of (go b)
    where
      flag : (c : Bool) (x : ℕ) → has (only c (Some x)) ≡ c
      flag true x = refl
      flag false x = refl

      go : (b : Buffer) → stays (waiting_of b) (traits_of v) ≡ stays_by (held_of b due) v
      go Empty = refl
      go (One x) = rw (flag v.writes v.bank)
      go (Two x y) = refl

-- the bank of the PRER that a packet implies
module _ (s : Settings) (ch : Channel) (r : Record) (v : View) (h : Shows r v) where
  abbrev buffered : Held
  buffered = held_of ch.buffer ch.due

  pub implies-at : implied_bank (context_of s) ch r ≡ only (implies_by s buffered v) (Some (centre_of s buffered v))
  implies-at = go (v.reads && v.close) refl
    where
      retired : (c : Bool) (a b : ℕ) → only c (Some a) ≡ only c (Some (cond c a b))
      retired true a b = refl
      retired false a b = refl

      go : (c : Bool) → (v.reads && v.close) ≡ c → implied_bank (context_of s) ch r ≡ only ((v.reads && v.close) || leaves_closing s buffered v) (Some (centre_of s buffered v))
      go true q = rw (h.traits-of, q, rda-keeps s ch.buffer ch.due r v h q)
      go false q = rw (h.traits-of, q, leaving-closes s ch.buffer ch.due r v h) (retired (leaves_closing s buffered v) buffered.bank v.bank)

-- the data that are due
pub held-due : (s : Settings) (ch : Channel) → due_of (context_of s) ch ≡ only (held_of ch.buffer ch.due).due (Some ((held_of ch.buffer ch.due).newest.0 + s.cwd))
unfolding due_of waiting_of held_of context_of
held-due s ch = go ch.buffer ch.due
  where
    go : (b : Buffer) (due : Bool) → only due (newest_due (context_of s) (waiting_of b)) ≡ only (held_of b due).due (Some ((held_of b due).newest.0 + s.cwd))
    go Empty true = refl
    go Empty false = refl
    go (One x) due = refl
    go (Two x y) due = refl

-- a test on the banks of the waiting writes
pub held_any : (b : Buffer) (due : Bool) (p : ℕ → Bool)
    → any_write (λ w. p w.bank) (waiting_of b) ≡ (((held_of b due).waits && p (held_of b due).bank) || ((held_of b due).two && p (held_of b due).next))
unfolding waiting_of held_of
held_any Empty due p = refl
held_any (One x) due p = refl
held_any (Two x y) due p = rw (or-false (p y.bank))

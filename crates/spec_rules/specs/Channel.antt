-- The tracked state of the channel: what it is after each record. An instant of 0 stands for none.
-- Assumes nothing.
use Rattle.std.specs.Prelude.{ℕ, suc, ◌+◌, Bool, false, ◌||◌, cond, List, [], ◌∷◌, eqb, get_or, replicate, Option, None, Some}
use Rattle.settings.specs.declared.PacketAt.{PacketAt}
use Rattle.record.specs.declared.Record.{Record}
use Rattle.record.specs.declared.Record.TheVariants.{RowAt, ColAt, DataOf}
use Rattle.spec_rules.specs.declared.Bank.{Bank}
use Rattle.spec_rules.specs.declared.Bank.TheVariants.{Closed}
use Rattle.spec_rules.specs.declared.BankTrack.{BankTrack}
use Rattle.spec_rules.specs.declared.Write.{Write}
use Rattle.spec_rules.specs.declared.Buffer.{Buffer}
use Rattle.spec_rules.specs.declared.Buffer.TheVariants.{Empty, One, Two}
use Rattle.spec_rules.specs.declared.Channel.{Channel}
use Rattle.spec_rules.specs.Neighbour.{bank_count, Context}
use Rattle.spec_rules.specs.Packets.{traits, instant}
use Rattle.spec_rules.specs.History.{bank_by, rest, leaving, loads, joined, only, retire_implies, closed_by, closes_bank, closes, has}

-- no instant
abbrev pub never : PacketAt
never = record { 0 = 0 }

abbrev pub idle : BankTrack
idle = record { bank = Closed; opened = never; act = never; pre = never; rd = never; retire = never }

-- "A fresh model or checker has every bank closed, the buffer empty and no earlier record."
unfoldable pub fresh : Channel
fresh =
    record {
      banks = replicate bank_count idle;
      lasts = record { packet = never; row = never; col = never; pre = never; rd = never; implied = never };
      buffer = Empty;
      due = false;
    }

-- bank x with its last instants, and its state
abbrev pub track_of : Channel → ℕ → BankTrack
track_of ch x = get_or ch.banks x idle

abbrev pub state_of : Channel → ℕ → Bank
state_of ch x = (track_of ch x).bank

-- the writes that wait, oldest first; and the buffer of such a list
unfoldable pub waiting_of : Buffer → List Write
waiting_of Empty = []
waiting_of (One x) = x ∷ []
waiting_of (Two x y) = x ∷ y ∷ []

unfoldable pub buffer_of : List Write → Buffer
buffer_of [] = Empty
buffer_of (x ∷ []) = One x
buffer_of (x ∷ y ∷ ws) = Two x y

-- the instant at which the newest write's data are due
abbrev pub newest_due : Context → List Write → Option ℕ
newest_due cx [] = None
newest_due cx (x ∷ []) = Some (x.at.0 + cx.settings.cwd)
newest_due cx (x ∷ y ∷ ws) = Some (y.at.0 + cx.settings.cwd)

unfoldable pub due_of : Context → Channel → Option ℕ
due_of cx ch = only ch.due (newest_due cx (waiting_of ch.buffer))

-- ---- the state after a record

-- whether a bank is x, where there is one
abbrev pub in_bank : Option ℕ → ℕ → Bool
in_bank None x = false
in_bank (Some b) x = eqb x b

module _ {A B : Type 0} where
  -- a function of the index and the element, over a list
  abbrev pub imap : (ℕ → A → B) → ℕ → List A → List B
  imap f i [] = []
  imap f i (x ∷ xs) = f i x ∷ imap f (suc i) xs

unfoldable pub bank_next : Context → Record → ℕ → Bank → Bank
bank_next cx (RowAt t p) x before = bank_by cx p x before
bank_next cx (ColAt t p) x before = before
bank_next cx (DataOf t d) x before = before

-- bank x after a packet
unfoldable pub track_next : Context → Channel → Record → ℕ → BankTrack → BankTrack
track_next cx ch r x k =
    let t : PacketAt = record { 0 = instant r } in
    record {
      bank = bank_next cx r x k.bank;
      opened = cond (in_bank (traits r).opens x) t k.opened;
      act = cond (in_bank (traits r).acts x) t k.act;
      pre = cond (in_bank (traits r).precharges x || closes cx (state_of ch) r x) t k.pre;
      rd = cond (in_bank (traits r).reads x) t k.rd;
      retire = k.retire;
    }

-- a packet itself, once the write that it retires has left
unfoldable pub after_packet : Context → Channel → Record → Channel
after_packet cx ch r =
    let t : PacketAt = record { 0 = instant r } in
    record {
      banks = imap (track_next cx ch r) 0 ch.banks;
      lasts = record {
        packet = t;
        row = cond (traits r).row t ch.lasts.row;
        col = cond (traits r).col t ch.lasts.col;
        pre = cond (has (traits r).precharges) t ch.lasts.pre;
        rd = cond (has (traits r).reads) t ch.lasts.rd;
        implied = ch.lasts.implied;
      };
      buffer = buffer_of (joined (loads r) (waiting_of ch.buffer));
      due = has (traits r).writes;
    }

-- bank x after a retire at t
unfoldable pub track_retired : ℕ → Write → ℕ → BankTrack → BankTrack
track_retired t w x k =
    record {
      bank = k.bank;
      opened = k.opened;
      act = k.act;
      pre = k.pre;
      rd = k.rd;
      retire = cond (eqb x w.bank) (record { 0 = t }) k.retire;
    }

-- a retire at t, of the older write
unfoldable pub after_retire : ℕ → Option Write → Channel → Channel
after_retire t None ch = ch
after_retire t (Some w) ch =
    record {
      banks = imap (track_retired t w) 0 ch.banks;
      lasts = ch.lasts;
      buffer = buffer_of (rest (waiting_of ch.buffer));
      due = ch.due;
    }

-- bank x after an implied PRER to bank b at t
unfoldable pub track_implied : Context → (ℕ → Bank) → ℕ → ℕ → ℕ → BankTrack → BankTrack
track_implied cx state t b x k =
    record {
      bank = closed_by cx (Some b) x k.bank;
      opened = k.opened;
      act = k.act;
      pre = cond (eqb x b || closes_bank cx state (Some b) x) (record { 0 = t }) k.pre;
      rd = k.rd;
      retire = k.retire;
    }

-- an implied PRER at t
unfoldable pub after_implied : Context → ℕ → Option ℕ → Channel → Channel
after_implied cx t None ch = ch
after_implied cx t (Some b) ch =
    record {
      banks = imap (track_implied cx (state_of ch) t b) 0 ch.banks;
      lasts = record {
        packet = ch.lasts.packet;
        row = ch.lasts.row;
        col = ch.lasts.col;
        pre = record { 0 = t };
        rd = ch.lasts.rd;
        implied = record { 0 = t };
      };
      buffer = ch.buffer;
      due = ch.due;
    }

unfoldable pub after_data : Channel → Channel
after_data ch =
    record { banks = ch.banks; lasts = ch.lasts; buffer = ch.buffer; due = false }

-- the write that a record retires in a state
abbrev pub leaving_of : Context → Channel → Record → Option Write
leaving_of cx ch r = leaving cx (waiting_of ch.buffer) r

-- the state after a record: a retire, the PRER that it implies, the packet itself, the PRER that it implies
unfoldable pub after : Context → Channel → Record → Channel
after cx ch (RowAt t p) = after_packet cx ch (RowAt t p)
after cx ch (ColAt t p) =
    let r : Record = ColAt t p in
    let o : Option Write = leaving_of cx ch r in
    let u : ℕ = t.0 + cx.settings.offp in
    after_implied cx u (traits r).implies (after_packet cx (after_implied cx u (retire_implies o) (after_retire t.0 o ch)) r)
after cx ch (DataOf t d) = after_data ch

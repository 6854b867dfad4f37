-- The PRER that a record implies: which records do, that it comes in time, and that it may be stored before the packet itself.
-- Assumes nothing.
use Rattle.std.specs.Prelude.{Some}
use Prim.Native.Nat.{ℕ, ◌+◌, ◌≤◌, ◌<◌, max}
use mathlib.Core.Path.{◌≡◌, refl, sym, ◌∙◌, ap}
use mathlib.Core.Bool.{Bool, true, false, ◌&&◌, ◌||◌, cond, and-false}
use mathlib.Core.List.{List}
use native.Mathlib.Omega.{arith}
use borrow.Author.Tests.{leb-true}
use lib.Dec.{eqb, leb}
use lib.ListN.{length, get_or}
use lib.Seq.{ext_get_or}
use Rattle.settings.specs.declared.Settings.{Settings}
use Rattle.settings.specs.declared.PacketAt.{PacketAt}
use Rattle.settings.specs.Instants.{horizon, is_instant}
use Rattle.packet.specs.declared.RowPacket.{RowPacket}
use Rattle.packet.specs.declared.RowPacket.TheVariants.{Act, Prer, Refa, Refp}
use Rattle.packet.specs.declared.ColPacket.{ColPacket}
use Rattle.packet.specs.declared.ColPacket.TheVariants.{Nocop, Wr, Rd}
use Rattle.record.specs.declared.Record.{Record}
use Rattle.record.specs.declared.Record.TheVariants.{RowAt, ColAt, DataOf}
use Rattle.spec_rules.specs.declared.BankTrack.{BankTrack}
use Rattle.spec_rules.specs.declared.LastInstants.{LastInstants}
use Rattle.spec_rules.specs.declared.Buffer.{Buffer}
use Rattle.spec_rules.specs.declared.Buffer.TheVariants.{Empty, One, Two}
use Rattle.spec_rules.specs.declared.Channel.{Channel}
use Rattle.spec_rules.specs.Neighbour.{Context, context_of}
use Rattle.spec_rules.specs.Packets.{col_traits, instant}
use Rattle.spec_rules.specs.History.{retire_implies}
use Rattle.spec_rules.specs.Rules.{longest_delay, implied_delay}
use Rattle.spec_rules.specs.Channel.{never, idle, leaving_of}
use Rattle.spec_rules.specs.Checks.{check_of, checks, judged}
use Rattle.spec_rules.proofs.Bools.{not-both, and_left, and_right}
use Rattle.spec_rules.proofs.BrokenLaws.{lowest-none}
use Rattle.chan_view.specs.declared.View.{View}
use Rattle.chan_view.specs.declared.Seen.{Seen}
use Rattle.chan_view.specs.declared.Seen.TheVariants.{Packet, Data}
use Rattle.chan_view.specs.declared.Held.{Held}
use Rattle.chan_view.specs.Form.View.{plain, row_view, col_view, seen_of, held_of, leaves_closing, implies_by}
use Rattle.chan_view.proofs.ViewLaws.{seen-shows, leaving-closes}
use Rattle.chan_step.specs.Form.Banks.{prer_track, side_track, read_track, retired_track, changed, closed_banks, col_banks, retired_banks, banks_next}
use Rattle.chan_step.specs.Form.Lasts.{lasts_next, implied_lasts}
use Rattle.chan_step.proofs.BankLaws.{changed-at, length-changed}
use Rattle.chan_least.proofs.QuickLaws.{is_plain}
use Rattle.check_walk.specs.Form.Turn.{view_in, implied_at, implied_stores, lasts_implied}

-- ---- which records imply a PRER

row-implies : (s : Settings) (h : Held) (t : PacketAt) (p : RowPacket) → implies_by s h (row_view t p) ≡ false
unfolding row_view
row-implies s h t (Act b row) = rw (and-false h.waits) (and-false h.close)
row-implies s h t (Prer b) = rw (and-false h.waits) (and-false h.close)
row-implies s h t (Refa b) = rw (and-false h.waits) (and-false h.close)
row-implies s h t (Refp b) = rw (and-false h.waits) (and-false h.close)

-- none that is no RDA, while no closing write waits
pub plain-implies : (s : Settings) (h : Held) (r : Record) → is_plain r ≡ true → h.close ≡ false → implies_by s h (view_in (seen_of r)) ≡ false
unfolding is_plain view_in seen_of col_view
plain-implies s h (RowAt t p) i c = row-implies s h t p
plain-implies s h (ColAt t (Nocop m)) i c = rw c
plain-implies s h (ColAt t (Wr b x m q)) i c = rw c
plain-implies s h (ColAt t (Rd b x m true)) i c = not-both false i refl
plain-implies s h (ColAt t (Rd b x m false)) i c = rw c
plain-implies s h (DataOf t d) i c = rw c

-- no data
pub data-implies : (s : Settings) (h : Held) → implies_by s h (plain never) ≡ false
data-implies s h = rw (and-false h.waits) (and-false h.close)

-- whether data are due says nothing here
same-implies : (s : Settings) (v : View) (b : Buffer) (due : Bool) → implies_by s (held_of b false) v ≡ implies_by s (held_of b due) v
unfolding held_of
same-implies s v Empty due = refl
same-implies s v (One x) due = refl
same-implies s v (Two x y) due = refl

pub same-stores : (s : Settings) (v : View) (b : Buffer) (due : Bool) (l : List BankTrack) → implied_stores s v (held_of b false) l ≡ implied_stores s v (held_of b due) l
unfolding held_of
same-stores s v Empty due l = refl
same-stores s v (One x) due l = refl
same-stores s v (Two x y) due l = refl

pub same-lasts : (s : Settings) (v : View) (b : Buffer) (due : Bool) (l : LastInstants) → lasts_implied s v (held_of b false) l ≡ lasts_implied s v (held_of b due) l
same-lasts s v b due l = ap (λ (i : Bool). cond i (implied_lasts (implied_at s v) l) l) (same-implies s v b due)

-- rule 1: that PRER comes in time
module _ (s : Settings) (ch : Channel) (r : Record) (v : View) (e : seen_of r ≡ Packet v) (j : judged (context_of s) ch r ≡ 0) where
  abbrev cx : Context
  cx = context_of s

  abbrev buffered : Held
  buffered = held_of ch.buffer ch.due

  both-fit : leb (instant r + longest_delay cx r) horizon && leb (instant r + implied_delay cx (leaving_of cx ch r)) horizon ≡ true
  unfolding judged checks
  both-fit =
      let within : Bool = is_instant (instant r) && (leb (instant r + longest_delay cx r) horizon && leb (instant r + implied_delay cx (leaving_of cx ch r)) horizon) in
      and_right (is_instant (instant r)) _ (and_left within (check_of cx ch r 1) (lowest-none 0 (checks cx ch r) j 0))

  own-fits : v.reads ≡ true → v.close ≡ true → instant r + s.offp ≤ horizon
  own-fits a b =
      let d : longest_delay cx r ≡ max s.cac s.offp = (seen-shows r v e).delay-of s ∙ rw (a, b) in
      let n : instant r + longest_delay cx r ≤ horizon = leb-true _ _ (and_left (leb (instant r + longest_delay cx r) horizon) _ both-fit) in
      omega arith

  retired-fits : leaves_closing s buffered v ≡ true → instant r + s.offp ≤ horizon
  unfolding context_of
  retired-fits c =
      let i : retire_implies (leaving_of cx ch r) ≡ Some buffered.bank = leaving-closes s ch.buffer ch.due r v (seen-shows r v e) ∙ rw c in
      let d : implied_delay cx (leaving_of cx ch r) ≡ s.offp = rw i in
      let n : instant r + implied_delay cx (leaving_of cx ch r) ≤ horizon = leb-true _ _ (and_right (leb (instant r + longest_delay cx r) horizon) _ both-fit) in
      omega arith

  flags-fit : implies_by s buffered v ≡ true → instant r + s.offp ≤ horizon
  flags-fit q = go v.reads v.close refl refl q
    where
      go : (a b : Bool) → v.reads ≡ a → v.close ≡ b → (a && b) || leaves_closing s buffered v ≡ true → instant r + s.offp ≤ horizon
      go true true a b q = own-fits a b
      go true false a b q = retired-fits q
      go false b a c q = retired-fits q

pub implied-fits : (s : Settings) (ch : Channel) (r : Record) → judged (context_of s) ch r ≡ 0 → implies_by s (held_of ch.buffer false) (view_in (seen_of r)) ≡ true
    → (view_in (seen_of r)).at.0 + s.offp ≤ horizon
unfolding view_in
implied-fits s ch r j q = go (seen_of r) refl
  where
    go : (u : Seen) → seen_of r ≡ u → (view_in (seen_of r)).at.0 + s.offp ≤ horizon
    go (Packet v) e =
        let n : instant r + s.offp ≤ horizon = flags-fit s ch r v e j (sym (same-implies s v ch.buffer ch.due) ∙ rw e at q) in
        rw e (omega (arith, (seen-shows r v e).instant-of))
    go (Data d) e = not-both _ (rw e at q) (data-implies s (held_of ch.buffer false))

-- ---- a PRER before a packet or after it

-- two changes that do not meet
changed-swap : (f g : BankTrack → BankTrack) → ((k : BankTrack) → f (g k) ≡ g (f k)) → (x y : ℕ) (l : List BankTrack) → changed f x (changed g y l) ≡ changed g y (changed f x l)
changed-swap f g c x y l =
    ext_get_or idle _ _ (length-changed f x _ ∙ length-changed g y l ∙ sym (length-changed g y _ ∙ length-changed f x l))
    (λ i h. let n : i < length l = omega (arith, length-changed f x (changed g y l), length-changed g y l) in
    changed-at f x (changed g y l) i (omega (arith, length-changed g y l)) ∙ ap (λ (k : BankTrack). cond (eqb i x) (f k) k) (changed-at g y l i n)
    ∙ go (eqb i x) (eqb i y) (get_or l i idle)
    ∙ sym (changed-at g y (changed f x l) i (omega (arith, length-changed f x l)) ∙ ap (λ (k : BankTrack). cond (eqb i y) (g k) k) (changed-at f x l i n)))
  where
    go : (a b : Bool) (k : BankTrack) → cond a (f (cond b (g k) k)) (cond b (g k) k) ≡ cond b (g (cond a (f k) k)) (cond a (f k) k)
    go true true k = c k
    go true false k = refl
    go false true k = refl
    go false false k = refl

closed-swap : (f : BankTrack → BankTrack) (t : PacketAt) → ((k : BankTrack) → f (prer_track t k) ≡ prer_track t (f k)) → ((k : BankTrack) → f (side_track t k) ≡ side_track t (f k))
    → (x b low high : ℕ) (l : List BankTrack) → changed f x (closed_banks t b low high l) ≡ closed_banks t b low high (changed f x l)
closed-swap f t p s x b low high l =
    changed-swap f (side_track t) s x high _
    ∙ ap (changed (side_track t) high) (changed-swap f (side_track t) s x low _ ∙ ap (changed (side_track t) low) (changed-swap f (prer_track t) p x b l))

-- a COL packet, with the retire that it makes, and the PRER
col-swap : (s : Settings) (t a u : PacketAt) (p : ColPacket) (out : Bool) (w b low high : ℕ) (l : List BankTrack)
    → banks_next s (ColAt t p) (retired_banks out w a (closed_banks u b low high l)) ≡ closed_banks u b low high (banks_next s (ColAt t p) (retired_banks out w a l))
unfolding banks_next col_banks
col-swap s t a u p out w b low high l = ap (col_banks t p) (retired out) ∙ packet p
  where
    retired : (out : Bool) → retired_banks out w a (closed_banks u b low high l) ≡ closed_banks u b low high (retired_banks out w a l)
    retired true = closed-swap (retired_track a) u (λ k. refl) (λ k. refl) w b low high l
    retired false = refl

    packet : (p : ColPacket) → col_banks t p (closed_banks u b low high (retired_banks out w a l)) ≡ closed_banks u b low high (col_banks t p (retired_banks out w a l))
    packet (Nocop m) = refl
    packet (Wr x c m q) = refl
    packet (Rd x c m q) = closed-swap (read_track t) u (λ k. refl) (λ k. refl) x b low high _

-- and in the last instants
lasts-swap : (t u : PacketAt) (p : ColPacket) (l : LastInstants) → lasts_next (ColAt t p) (implied_lasts u l) ≡ implied_lasts u (lasts_next (ColAt t p) l)
unfolding lasts_next col_traits
lasts-swap t u (Nocop m) l = refl
lasts-swap t u (Wr b c m q) l = refl
lasts-swap t u (Rd b c m q) l = refl

-- so of a record that implies one
pub implied-swap : (s : Settings) (h : Held) (r : Record) → implies_by s h (view_in (seen_of r)) ≡ true → (a u : PacketAt) (out : Bool) (w b low high : ℕ) (l : List BankTrack) (k : LastInstants)
    → (banks_next s r (retired_banks out w a (closed_banks u b low high l)) ≡ closed_banks u b low high (banks_next s r (retired_banks out w a l))) × (lasts_next r (implied_lasts u k) ≡ implied_lasts u (lasts_next r k))
unfolding view_in seen_of
implied-swap s h (RowAt t p) q a u out w b low high l k = not-both _ q (row-implies s h t p)
implied-swap s h (ColAt t p) q a u out w b low high l k = (col-swap s t a u p out w b low high l, lasts-swap t u p k)
implied-swap s h (DataOf t d) q a u out w b low high l k = not-both _ q (data-implies s h)

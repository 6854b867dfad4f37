-- What a COL command stores and records on ready bytes is one step of the plan.
-- Assumes nothing.
use Rattle.std.specs.Prelude.{Option, None, Some}
use Prim.Native.Nat.{ℕ, ◌+◌, ◌-◌, ◌<◌, ◌≤◌}
use mathlib.Core.Path.{◌≡◌, refl, sym, ap, ap₂, ◌∙◌}
use mathlib.Core.Bool.{Bool, true, false, cond}
use mathlib.Core.List.{List, [], ◌∷◌, ◌++◌, append-nil}
use native.Mathlib.Omega.{arith}
use lib.ListN.{length}
use Rattle.num.specs.Bytes.{bytes, splice}
use Rattle.num.proofs.SpliceLaws.{splice-more}
use Rattle.settings.specs.declared.Settings.{Settings}
use Rattle.settings.proofs.SettingsLaws.{bounds}
use Rattle.packet.specs.declared.ColPacket.TheVariants.{Nocop, Wr, Rd}
use Rattle.packet.specs.Col.{col_word}
use Rattle.record.specs.declared.Dualoct.{Dualoct}
use Rattle.record.specs.declared.Place.{Place}
use Rattle.record.specs.declared.Record.{Record}
use Rattle.record.specs.declared.Record.TheVariants.{ColAt}
use Rattle.record.specs.Record.{record_fields, record_bytes}
use Rattle.spec_rules.specs.declared.Write.{Write}
use Rattle.spec_rules.specs.Neighbour.{context_of}
use Rattle.spec_rules.specs.History.{first, only_write}
use Rattle.spec_rules.specs.Channel.{waiting_of, leaving_of}
use Rattle.spec_rules.specs.Earliest.{placed_at, under}
use Rattle.spec_rules.proofs.Bools.{not-both, and_left}
use Rattle.spec_state.specs.ChannelBytes.{write_in}
use Rattle.spec_state.specs.Form.Stores.{implied_stored, col_stored, rd_stored, retire_stored, shift_stored, write_stored, beside_stored, behind_stored}
use Rattle.spec_state.proofs.ColLaws.{wr-none, wr-beside, wr-instead, wr-behind}
use Rattle.spec_plan.specs.declared.PlannerState.{PlannerState}
use Rattle.spec_plan.specs.Plan.{col_packet, carried, slot, leaver, sent, flushed, loaded, written}
use Rattle.spec_plan.specs.Call.{list_bytes}
use Rattle.spec_plan.specs.PlannerBytes.{planner_bytes, planner_in}
use Rattle.spec_plan.proofs.Invariant.{Inv}
use Rattle.spec_plan.proofs.SentLaws.{read-gone, here-leaving, flushed-gone}
use Rattle.plan_bytes.specs.Form.Numbers.{half, waits_in, held_bank, held_closes, two_in, now_stored}
use Rattle.plan_bytes.specs.Form.Drawn.{bare, Ready, Rested, OpenAt, Drawn}
use Rattle.plan_bytes.proofs.States.{rest_in, two-waits, two_is, one-is, none_is, waiting-is}
use Rattle.plan_bytes.proofs.ReadyLaws.{readies, inv, plain, held-bank, held-early, held-open, sides-shut, ready, held_plain, Says, said}
use Rattle.plan_bytes.proofs.Puts.{Plain}
use Rattle.plan_bytes.proofs.Compose.{length_fields, one-record}
use Rattle.plan_packets.specs.Form.ColSlots.{rd_at, rda_at, nocop_at, closing_at, wr_base, retires_in, wr_from, wr_at, carried_in, rda_stored, nocop_stored, closing_stored, alone_stored, newer_stored, moved_stored, instead_stored, wr_stored}
use Rattle.plan_packets.proofs.cols.Slots.{rd-slot, rda-slot, nocop-slot, closing-slot, wr-slot, wr-leaver}
use Rattle.plan_packets.proofs.cols.Puts.{rd-bytes, rda-bytes, nocop-bytes, closing-bytes, alone-bytes, newer-bytes, moved-bytes}

-- the instant of a WR by the code's steps
pub placed-at : (s : Settings) (b : List ℕ) (x v t : ℕ) (q : Bool) → v ≡ wr_base s b x → q ≡ retires_in s b v → t ≡ wr_from s b v q → (t ≡ wr_at s b x) × (q ≡ retires_in s b (wr_base s b x))
unfolding wr_at
placed-at s b x v t q e f g = (g ∙ rw (f, e), f ∙ rw e)

module _ (s : Settings) (top : ℕ) (b : List ℕ) (k : Ready s top b) (h : top ≤ 1000012000) where
  abbrev p : PlannerState
  p = planner_in b

  abbrev known : Inv (context_of s) p
  known = inv s top b k

  -- the least instant of each command
  pub rd-says : (x c : ℕ) → x < 32 → Says s b (rd_at s b x) (col_packet (Rd x c 0xFFFF false))
  rd-says x c l = said s top b k h (rd_at s b x) (col_packet (Rd x c 0xFFFF false)) (rd-slot s b known.low x c 0xFFFF l)

  pub rda-says : (x c : ℕ) → x < 32 → Says s b (rda_at s b x) (col_packet (Rd x c 0xFFFF true))
  rda-says x c l = said s top b k h (rda_at s b x) (col_packet (Rd x c 0xFFFF true)) (rda-slot s b known.low x c 0xFFFF l)

  pub nocop-says : waits_in b ≡ true → held_closes b ≡ false → Says s b (nocop_at s b) (col_packet (Nocop 0xFFFF))
  nocop-says w f = said s top b k h (nocop_at s b) (col_packet (Nocop 0xFFFF)) (nocop-slot s b known.low 0xFFFF w (held-bank s top b k w) (held-early s top b k w) f)

  pub closing-says : waits_in b ≡ true → held_closes b ≡ true → Says s b (closing_at s b) (col_packet (Nocop 0xFFFF))
  closing-says w f = said s top b k h (closing_at s b) (col_packet (Nocop 0xFFFF)) (closing-slot s b known.low 0xFFFF w (held-bank s top b k w) (held-early s top b k w) f)

  -- an implied PRER, as it is stored
  then-implied : (v : ℕ) (r : Record) → Says s b v r → v + s.offp ≡ slot (context_of s) p r + s.offp - 3
  then-implied v r e = omega (arith, e.instant)

  -- what has been stored and recorded for a packet, whose least instant is v as it is stored
  module _ (room : List ℕ) (at : ℕ) (left room' : List ℕ) (to : ℕ) (next : to ≡ at + 32) where
    -- RD or RDA, by the bytes that are left
    read-drawn : (x c : ℕ) (close : Bool) (v : ℕ) → let r : Record = col_packet (Rd x c 0xFFFF close) in Says s b v r → left ≡ planner_bytes (sent (context_of s) r (bare p)).planner
        → room' ≡ splice room at (record_fields (v + 3) 1 (col_word s.device (Rd x c 0xFFFF close)) 0 0) → Drawn s (sent (context_of s) r (bare p)) room at left room' to
    unfolding sent placed_at under record_bytes
    read-drawn x c close v e f g =
        record {
          planner = f;
          records = g ∙ ap (λ (n : ℕ). splice room at (record_fields n 1 (col_word s.device (Rd x c 0xFFFF close)) 0 0)) e.instant
              ∙ ap (λ (o : Option Write). splice room at (record_fields (slot (context_of s) p (col_packet (Rd x c 0xFFFF close))) 1 (col_word s.device (Rd x c (carried o p.mask) close)) 0 0)) (sym (read-gone (context_of s) x c 0xFFFF close (bare p)))
              ∙ ap (splice room at) (sym (one-record s _));
          next = next;
        }

    pub rd-drawn : (x c : ℕ) → x < 32 → let v : ℕ = rd_at s b x in left ≡ now_stored (rd_stored b x v) v
        → room' ≡ splice room at (record_fields (v + 3) 1 (col_word s.device (Rd x c 0xFFFF false)) 0 0) → Drawn s (sent (context_of s) (col_packet (Rd x c 0xFFFF false)) (bare p)) room at left room' to
    rd-drawn x c l f g =
        let e : Says s b (rd_at s b x) (col_packet (Rd x c 0xFFFF false)) = rd-says x c l in
        read-drawn x c false (rd_at s b x) e
        (f ∙ ap₂ (λ (l : List ℕ) (n : ℕ). now_stored (rd_stored l x n) n) (sym (readies s top b k).exact) e.stored ∙ rd-bytes (context_of s) p (plain s top b k) x c l) g

    pub rda-drawn : (x c : ℕ) → x < 32 → OpenAt b x → let v : ℕ = rda_at s b x in left ≡ rda_stored b x v (v + s.offp)
        → room' ≡ splice room at (record_fields (v + 3) 1 (col_word s.device (Rd x c 0xFFFF true)) 0 0) → Drawn s (sent (context_of s) (col_packet (Rd x c 0xFFFF true)) (bare p)) room at left room' to
    unfolding rda_stored context_of
    rda-drawn x c l o f g =
        let v : ℕ = rda_at s b x in
        let r : Record = col_packet (Rd x c 0xFFFF true) in
        let e : Says s b v r = rda-says x c l in
        read-drawn x c true v e
        (f
        ∙ ap (λ (u : ℕ). now_stored (implied_stored (rd_stored b x v) x u) v) (then-implied v r e)
        ∙ ap₂ (λ (l : List ℕ) (n : ℕ). now_stored (implied_stored (rd_stored l x n) x (slot (context_of s) p r + s.offp - 3)) n) (sym (readies s top b k).exact) e.stored
        ∙ rda-bytes (context_of s) p (plain s top b k) x c l (sides-shut s top b k x l o)) g

    rest-count : length (rest_in b) ≡ cond (two_in b) 1 0
    rest-count = go (two_in b)
      where
        go : (q : Bool) → length (cond q (write_in b 744 ∷ []) []) ≡ cond q 1 0
        go true = refl
        go false = refl

    -- NOCOP, by the bytes that are left
    module _ (w : waits_in b ≡ true) where
      abbrev r : Record
      r = col_packet (Nocop 0xFFFF)

      -- the mask that it carries
      held-mask : half b 760 ≡ carried (leaver (context_of s) p r) p.mask
      unfolding planner_in
      held-mask = sym (ap (λ (o : Option Write). carried o p.mask) (flushed-gone (context_of s) (bare p) ∙ ap first (waiting-is b w)))

      flushed-drawn : (v : ℕ) → Says s b v r → left ≡ planner_bytes (flushed (context_of s) (bare p)).planner
          → room' ≡ splice room at (record_fields (v + 3) 1 (col_word s.device (Nocop (half b 760))) 0 0) → Drawn s (flushed (context_of s) (bare p)) room at left room' to
      unfolding flushed sent placed_at under record_bytes
      flushed-drawn v e f g =
          record {
            planner = f;
            records = g
                ∙ ap₂ (λ (n m : ℕ). splice room at (record_fields n 1 (col_word s.device (Nocop m)) 0 0)) e.instant held-mask
                ∙ ap (splice room at) (sym (one-record s _));
            next = next;
          }

      pub nocop-drawn : held_closes b ≡ false → let v : ℕ = nocop_at s b in left ≡ nocop_stored b v
          → room' ≡ splice room at (record_fields (v + 3) 1 (col_word s.device (Nocop (half b 760))) 0 0) → Drawn s (flushed (context_of s) (bare p)) room at left room' to
      unfolding nocop_stored planner_in
      nocop-drawn c f g =
          let v : ℕ = nocop_at s b in
          let e : Says s b v r = nocop-says w c in
          flushed-drawn v e
          (f
          ∙ ap (λ (n : ℕ). splice (now_stored (col_stored (shift_stored (retire_stored b (held_bank b) v) n) v) v) 760 (bytes 2 (half b 762))) (sym rest-count)
          ∙ ap₂ (λ (l : List ℕ) (n : ℕ). splice (now_stored (col_stored (shift_stored (retire_stored l (held_bank b) n) (length (rest_in b))) n) n) 760 (bytes 2 (half b 762))) (sym (readies s top b k).exact) e.stored
          ∙ nocop-bytes (context_of s) p (plain s top b k) (write_in b 736) (rest_in b) (waiting-is b w) (held-bank s top b k w) c) g

      pub closing-drawn : held_closes b ≡ true → let v : ℕ = closing_at s b in left ≡ closing_stored b v (v + s.offp)
          → room' ≡ splice room at (record_fields (v + 3) 1 (col_word s.device (Nocop (half b 760))) 0 0) → Drawn s (flushed (context_of s) (bare p)) room at left room' to
      unfolding closing_stored planner_in context_of
      closing-drawn c f g =
          let v : ℕ = closing_at s b in
          let e : Says s b v r = closing-says w c in
          let u : ℕ = slot (context_of s) p r + s.offp - 3 in
          flushed-drawn v e
          (f
          ∙ ap₂ (λ (n u : ℕ). splice (now_stored (col_stored (implied_stored (shift_stored (retire_stored b (held_bank b) v) n) (held_bank b) u) v) v) 760 (bytes 2 (half b 762))) (sym rest-count) (then-implied v r e)
          ∙ ap₂ (λ (l : List ℕ) (n : ℕ). splice (now_stored (col_stored (implied_stored (shift_stored (retire_stored l (held_bank b) n) (length (rest_in b))) (held_bank b) u) n) n) 760 (bytes 2 (half b 762))) (sym (readies s top b k).exact) e.stored
          ∙ closing-bytes (context_of s) p (plain s top b k) (write_in b 736) (rest_in b) (waiting-is b w) (held-bank s top b k w) c (sides-shut s top b k (held_bank b) (held-bank s top b k w) (held-open s top b k w))) g

-- ---- WR and D, of bytes at rest

module _ (s : Settings) (top : ℕ) (b : List ℕ) (rest : Rested s top b) (h : top ≤ 1000012000) where
  k : Ready s top b
  k = ready s top b rest

  abbrev p' : PlannerState
  p' = planner_in b

  abbrev low : 4 ≤ p'.now.0
  low = (inv s top b k).low

  pub wr-says : (x c : ℕ) (close : Bool) → x < 32 → Says s b (wr_at s b x) (col_packet (Wr x c 0xFFFF close))
  wr-says x c close l = said s top b k h (wr_at s b x) (col_packet (Wr x c 0xFFFF close)) (wr-slot s b low x c 0xFFFF close l (held-bank s top b k) (held-early s top b k) (held_plain s top b rest))

  -- what a WR retires waits
  pub leaves-bank : (v : ℕ) (q : Bool) → q ≡ retires_in s b v → q ≡ true → held_bank b < 32
  unfolding retires_in
  leaves-bank v q e f = held-bank s top b k (and_left (waits_in b) _ (sym e ∙ f))

  module _ (close : Bool) (at : Place) (mask : ℕ) (d : Dualoct) (l : at.bank < 32) (c : at.column < s.columns) where
    abbrev wr : Record
    wr = col_packet (Wr at.bank at.column 0xFFFF close)

    -- where it could stand, and whether it retires the older write
    abbrev v0 : ℕ
    v0 = wr_base s b at.bank

    abbrev leaves : Bool
    leaves = retires_in s b v0

    leaver-is : leaver (context_of s) p' wr ≡ only_write leaves (Some (write_in b 736))
    leaver-is = wr-leaver s b low at.bank at.column 0xFFFF close l (held-bank s top b k) (held-early s top b k) (held_plain s top b rest)

    carried-is : carried_in b leaves ≡ carried (leaver (context_of s) p' wr) p'.mask
    unfolding planner_in
    carried-is = go leaves ∙ sym (ap (λ (o : Option Write). carried o p'.mask) leaver-is)
      where
        go : (q : Bool) → carried_in b q ≡ carried (only_write q (Some (write_in b 736))) p'.mask
        go true = refl
        go false = refl

    columns : at.column < 256
    columns = omega (arith, (bounds s (readies s top b k).figures).columns-most)

    abbrev placed : Record
    placed = ColAt (record { 0 = slot (context_of s) p' wr }) (Wr at.bank at.column (carried (leaver (context_of s) p' wr) p'.mask) close)

    gone-is : leaving_of (context_of s) p'.channel placed ≡ leaver (context_of s) p' wr
    unfolding placed_at under
    gone-is = here-leaving (context_of s) wr (bare p')

    -- the bytes, by what waits and what leaves
    abbrev Becomes : List ℕ → Type 0
    Becomes bytes' = bytes' ≡ planner_bytes (written (context_of s) close at mask d (bare p')).planner

    abbrev t : ℕ
    t = slot (context_of s) p' wr

    abbrev e0 : List ℕ
    e0 = planner_bytes p'

    none-becomes : waits_in b ≡ false → Becomes (alone_stored e0 at.bank at.column close mask (t - 3))
    unfolding alone_stored waiting_of retires_in
    none-becomes w =
        let i : Plain p'.channel = plain s top b k in
        alone-bytes (context_of s) p' i close at mask d (λ b. col_stored (write_stored b 1 at.bank at.column close (t - 3)) (t - 3))
        (λ q. wr-none (context_of s) p'.channel q i.size i.write i.no_due t at.bank at.column _ close l columns false (none_is b w))
        None [] (leaver-is ∙ rw w) (rw (none_is b w)) refl

    one-becomes : waits_in b ≡ true → two_in b ≡ false → leaves ≡ true → Becomes (alone_stored (retire_stored e0 (held_bank b) (t - 3)) at.bank at.column close mask (t - 3))
    unfolding alone_stored waiting_of
    one-becomes w n q =
        let i : Plain p'.channel = plain s top b k in
        let o : leaver (context_of s) p' wr ≡ Some (write_in b 736) = leaver-is ∙ rw q in
        alone-bytes (context_of s) p' i close at mask d (λ b'. col_stored (write_stored (retire_stored b' (held_bank b) (t - 3)) 1 at.bank at.column close (t - 3)) (t - 3))
        (λ r. wr-instead (context_of s) p'.channel r i.size i.write i.no_due t (write_in b 736) (held-bank s top b k w) (held_plain s top b rest w) at.bank at.column _ close l columns false (one-is b w n) (gone-is ∙ o))
        (Some (write_in b 736)) (write_in b 736 ∷ []) o (rw (one-is b w n)) refl

    newer-becomes : waits_in b ≡ true → two_in b ≡ false → leaves ≡ false → Becomes (newer_stored e0 at.bank at.column close mask (t - 3))
    unfolding newer_stored waiting_of
    newer-becomes w n q =
        let i : Plain p'.channel = plain s top b k in
        let o : leaver (context_of s) p' wr ≡ None = leaver-is ∙ rw q in
        newer-bytes (context_of s) p' i close at mask d (λ b. col_stored (beside_stored b 2 at.bank at.column close (t - 3)) (t - 3))
        (λ r. wr-beside (context_of s) p'.channel r i.size i.write i.no_due t at.bank at.column _ close l columns false (write_in b 736) (one-is b w n) (gone-is ∙ o))
        (write_in b 736) o (rw (one-is b w n))

    moved-becomes : two_in b ≡ true → leaves ≡ true → Becomes (moved_stored (retire_stored e0 (held_bank b) (t - 3)) at.bank at.column close (half b 762) mask (t - 3))
    unfolding moved_stored waiting_of planner_in
    moved-becomes n q =
        let i : Plain p'.channel = plain s top b k in
        let o : leaver (context_of s) p' wr ≡ Some (write_in b 736) = leaver-is ∙ rw q in
        moved-bytes (context_of s) p' i close at mask d (λ b'. col_stored (behind_stored (retire_stored b' (held_bank b) (t - 3)) 2 at.bank at.column close (t - 3)) (t - 3))
        (λ r. wr-behind (context_of s) p'.channel r i.size i.write i.no_due t (write_in b 736) (held-bank s top b k (two-waits b n)) (held_plain s top b rest (two-waits b n)) at.bank at.column _ close l columns false (write_in b 744) (two_is b n) (gone-is ∙ o))
        (write_in b 736) (write_in b 744) o (rw (two_is b n))

    -- as the code stores it, on other bytes that are these
    abbrev stored_by : List ℕ → ℕ → List ℕ
    stored_by l n =
        cond leaves
        (cond (two_in b) (moved_stored (retire_stored l (held_bank b) n) at.bank at.column close (half b 762) mask n) (alone_stored (retire_stored l (held_bank b) n) at.bank at.column close mask n))
        (cond (waits_in b) (newer_stored l at.bank at.column close mask n) (alone_stored l at.bank at.column close mask n))

    quiet : waits_in b ≡ false → leaves ≡ false
    unfolding retires_in
    quiet w = rw w

    full : waits_in b ≡ true → two_in b ≡ true → leaves ≡ true
    unfolding retires_in
    full w n = rw (w, n)

    stored-becomes : Becomes (stored_by e0 (t - 3))
    stored-becomes = go (waits_in b) refl (two_in b) refl leaves refl
      where
        go : (w : Bool) → waits_in b ≡ w → (n : Bool) → two_in b ≡ n → (q : Bool) → leaves ≡ q
            → Becomes (cond q (cond n (moved_stored (retire_stored e0 (held_bank b) (t - 3)) at.bank at.column close (half b 762) mask (t - 3)) (alone_stored (retire_stored e0 (held_bank b) (t - 3)) at.bank at.column close mask (t - 3)))
            (cond w (newer_stored e0 at.bank at.column close mask (t - 3)) (alone_stored e0 at.bank at.column close mask (t - 3))))
        go false w n e true q = not-both leaves q (quiet w)
        go false w n e false q = none-becomes w
        go true w true e true q = moved-becomes e q
        go true w true e false q = not-both leaves (full w e) q
        go true w false e true q = one-becomes w e q
        go true w false e false q = newer-becomes w e q

    pub wr-drawn : (room : List ℕ) (start : ℕ) (left room1 room2 : List ℕ) (to wr-mask : ℕ) → to ≡ start + 64 → start + 32 ≤ length room → let v : ℕ = wr_at s b at.bank in
        left ≡ wr_stored b at.bank at.column close mask leaves v
        → room1 ≡ splice room start (record_fields (v + 3) 1 (col_word s.device (Wr at.bank at.column wr-mask close)) 0 0)
        → wr-mask ≡ carried_in b leaves
        → room2 ≡ splice room1 (start + 32) (record_fields (v + 3 + s.cwd) 2 0 d.dqa d.dqb)
        → Drawn s (written (context_of s) close at mask d (bare p')) room start left room2 to
    unfolding written loaded sent placed_at under record_bytes list_bytes wr_stored instead_stored context_of
    wr-drawn room start left room1 room2 to wr-mask next fits f g same h =
        let v : ℕ = wr_at s b at.bank in
        let e : Says s b v wr = wr-says at.bank at.column close l in
        let then : v + 3 + s.cwd ≡ t + s.cwd = omega (arith, e.instant) in
        record {
          planner = f ∙ ap₂ stored_by (sym (readies s top b k).exact) e.stored ∙ stored-becomes;
          records = h
              ∙ ap₂ (λ (l : List ℕ) (n : ℕ). splice l (start + 32) (record_fields n 2 0 d.dqa d.dqb)) (g ∙ ap₂ (λ (n m : ℕ). splice room start (record_fields n 1 (col_word s.device (Wr at.bank at.column m close)) 0 0)) e.instant (same ∙ carried-is)) then
              ∙ splice-more room start _ _ 32 (length_fields t 1 (col_word s.device (Wr at.bank at.column (carried (leaver (context_of s) p' wr) p'.mask) close)) 0 0) fits
              ∙ ap (λ (l : List ℕ). splice room start (record_fields t 1 (col_word s.device (Wr at.bank at.column (carried (leaver (context_of s) p' wr) p'.mask) close)) 0 0 ++ l)) (sym (append-nil _));
          next = next;
        }

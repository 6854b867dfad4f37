-- The test of each rule of the table, written out: the form in which code that names the rule computes it.
-- Assumes nothing.
use Rattle.std.specs.Prelude.{Option, None, Some}
use Prim.Native.Nat.{ℕ, zero, suc, ◌+◌, ◌-◌, max}
use mathlib.Core.Path.{◌≡◌, refl, sym, ap, ap₂, ◌∙◌}
use mathlib.Core.Bool.{Bool, true, false, not, ◌&&◌, cond, and-true}
use mathlib.Core.List.{List, [], ◌∷◌}
use lib.Dec.{eqb, leb, leb-zero}
use native.Mathlib.Omega.{arith}
use Rattle.settings.specs.declared.PacketAt.{PacketAt}
use Rattle.record.specs.declared.Record.{Record}
use Rattle.record.specs.declared.Record.TheVariants.{RowAt, ColAt, DataOf}
use Rattle.packet.specs.declared.RowPacket.{RowPacket}
use Rattle.packet.specs.declared.RowPacket.TheVariants.{Act, Prer, Refa, Refp}
use Rattle.packet.specs.declared.ColPacket.{ColPacket}
use Rattle.packet.specs.declared.ColPacket.TheVariants.{Nocop, Wr, Rd}
use Rattle.spec_rules.specs.declared.Write.{Write}
use Rattle.spec_rules.specs.declared.Channel.{Channel}
use Rattle.spec_rules.specs.Neighbour.{Context, near, bank_count}
use Rattle.spec_rules.specs.Packets.{traits, row_traits, col_traits, retire_traits, implied_traits, instant, is_packet}
use Rattle.spec_rules.specs.History.{leaving, bank_of, only, retire_implies, Deed, retire_deeds, implied_deeds, deeds}
use Rattle.spec_rules.specs.Distances.{Kind, packet, ROW, COL, ACT, only_act, PRER, RD, WR, retire, implied, bank_as, Banks, any, same, same_or_neighbour, others, same_neighbour_or_closed, Distance, rule◌from◌to◌for◌is◌, distances, each}
use Rattle.spec_rules.specs.Channel.{track_of, waiting_of, leaving_of}
use Rattle.spec_rules.specs.Checks.{since, asks, max_up_to, bound_of, bound_banks, bound_by, bound, check_of}
use Rattle.spec_rules.proofs.Bools.{not-both, leb-max}
use Rattle.spec_rules.proofs.TrackLaws.{keeps-all, row_keeps}

-- data are of no kind
data-none : (a : Kind) (r : Record) → is_packet r ≡ false → bank_as a (traits r) ≡ None
unfolding is_packet traits
data-none a (RowAt t p) e = not-both true refl e
data-none a (ColAt t p) e = not-both true refl e
data-none packet (DataOf t d) e = refl
data-none ROW (DataOf t d) e = refl
data-none COL (DataOf t d) e = refl
data-none ACT (DataOf t d) e = refl
data-none only_act (DataOf t d) e = refl
data-none PRER (DataOf t d) e = refl
data-none RD (DataOf t d) e = refl
data-none WR (DataOf t d) e = refl
data-none retire (DataOf t d) e = refl
data-none implied (DataOf t d) e = refl

-- a record itself is no retire
never-retire : (r : Record) → (traits r).retires ≡ None
unfolding traits row_traits col_traits
never-retire (RowAt t (Act b row)) = refl
never-retire (RowAt t (Prer b)) = refl
never-retire (RowAt t (Refa b)) = refl
never-retire (RowAt t (Refp b)) = refl
never-retire (ColAt t (Nocop m)) = refl
never-retire (ColAt t (Wr b c m x)) = refl
never-retire (ColAt t (Rd b c m x)) = refl
never-retire (DataOf t d) = refl

abbrev either : Option ℕ → Option ℕ → Option ℕ
either None o = o
either (Some b) o = Some b

-- the bank of the PRER that a record implies: by itself, or by the retire that it makes
abbrev pub implied_bank : Context → Channel → Record → Option ℕ
implied_bank cx ch r = either (traits r).implies (retire_implies (leaving_of cx ch r))

module _ (cx : Context) (ch : Channel) (d : Distance) where
  abbrev passes : Deed → Bool
  passes x = leb (bound cx ch d x.traits) x.at

  abbrev asks_of : Option ℕ → ℕ
  asks_of o = bound_of o (bound_by cx ch d.banks d.earlier d.cycles)

  asks_nothing : (o : Option ℕ) (t : ℕ) → o ≡ None → leb (asks_of o) t ≡ true
  asks_nothing o t e = ap (λ (o : Option ℕ). leb (asks_of o) t) e ∙ leb-zero t

  -- an implied PRER, where there is one, before other deeds
  by-implied : (u : ℕ) (o : Option ℕ) (l : List Deed) → each passes (implied_deeds u o l) ≡ leb (bound_of o (λ b. asks_of (bank_as d.later (implied_traits b)))) u && each passes l
  by-implied u None l = ap (λ (b : Bool). b && each passes l) (sym (leb-zero u))
  by-implied u (Some b) l = refl

  -- a line that asks nothing of an implied PRER
  no-implied : ((b : ℕ) → bank_as d.later (implied_traits b) ≡ None) → (u : ℕ) (o : Option ℕ) (l : List Deed) → each passes (implied_deeds u o l) ≡ each passes l
  no-implied e u None l = refl
  no-implied e u (Some b) l = ap (λ (x : Bool). x && each passes l) (asks_nothing (bank_as d.later (implied_traits b)) u (e b))

  -- a line that asks of a packet alone; of a retire alone
  by-packet : (r : Record) → ((b : ℕ) → bank_as d.later (retire_traits b) ≡ None) → ((b : ℕ) → bank_as d.later (implied_traits b) ≡ None)
      → each passes (deeds cx (waiting_of ch.buffer) r) ≡ leb (asks_of (bank_as d.later (traits r))) (instant r)
  unfolding deeds instant is_packet
  by-packet (RowAt t p) retires no-prer = and-true _
  by-packet (ColAt t p) retires no-prer =
      no-implied no-prer (t.0 + cx.settings.offp) (traits (ColAt t p)).implies _
      ∙ ap (λ (b : Bool). leb (asks_of (bank_as d.later (traits (ColAt t p)))) t.0 && b) (no-implied no-prer (t.0 + cx.settings.offp) (retire_implies (leaving_of cx ch (ColAt t p))) _ ∙ go (leaving_of cx ch (ColAt t p)))
      ∙ and-true _
    where
      go : (o : Option Write) → each passes (retire_deeds t.0 o) ≡ true
      go None = refl
      go (Some w) = ap (λ (b : Bool). b && true) (asks_nothing (bank_as d.later (retire_traits w.bank)) t.0 (retires w.bank))
  by-packet (DataOf t x) retires no-prer = sym (asks_nothing (bank_as d.later (traits (DataOf t x))) t.0 (data-none d.later (DataOf t x) refl))

  by-retire : (r : Record) → bank_as d.later (traits r) ≡ None → ((b : ℕ) → bank_as d.later (retire_traits b) ≡ Some b) → ((b : ℕ) → bank_as d.later (implied_traits b) ≡ None)
      → each passes (deeds cx (waiting_of ch.buffer) r) ≡ leb (asks_of (bank_of (leaving_of cx ch r))) (instant r)
  unfolding deeds instant traits
  by-retire (RowAt t p) no-packet is-retire no-prer =
      ap (λ (b : Bool). b && true) (asks_nothing (bank_as d.later (traits (RowAt t p))) t.0 no-packet)
      ∙ sym (asks_nothing (bank_of (leaving_of cx ch (RowAt t p))) t.0 (ap bank_of (keeps-all cx (RowAt t p) (waiting_of ch.buffer) (row_keeps t p))))
  by-retire (ColAt t p) no-packet is-retire no-prer =
      no-implied no-prer (t.0 + cx.settings.offp) (traits (ColAt t p)).implies _
      ∙ ap (λ (b : Bool). b && each passes (implied_deeds (t.0 + cx.settings.offp) (retire_implies (leaving_of cx ch (ColAt t p))) (retire_deeds t.0 (leaving_of cx ch (ColAt t p))))) (asks_nothing (bank_as d.later (traits (ColAt t p))) t.0 no-packet)
      ∙ no-implied no-prer (t.0 + cx.settings.offp) (retire_implies (leaving_of cx ch (ColAt t p))) _
      ∙ go (leaving_of cx ch (ColAt t p))
    where
      go : (o : Option Write) → each passes (retire_deeds t.0 o) ≡ leb (asks_of (bank_of o)) t.0
      go None = sym (leb-zero t.0)
      go (Some w) = and-true _ ∙ ap (λ (o : Option ℕ). leb (asks_of o) t.0) (is-retire w.bank)
  by-retire (DataOf t x) no-packet is-retire no-prer = sym (asks_nothing (bank_of (leaving_of cx ch (DataOf t x))) t.0 (ap bank_of (keeps-all cx (DataOf t x) (waiting_of ch.buffer) refl)))

-- ---- lines that ask of PRERs, implied ones too

row-implies : (t : PacketAt) (p : RowPacket) → (traits (RowAt t p)).implies ≡ None
unfolding traits row_traits
row-implies t (Act b row) = refl
row-implies t (Prer b) = refl
row-implies t (Refa b) = refl
row-implies t (Refp b) = refl

module _ (cx : Context) (ch : Channel) where
  pub no-implied-bank : (r : Record) → (traits r).implies ≡ None → (traits r).not_read ≡ false → implied_bank cx ch r ≡ None
  no-implied-bank r e n = rw (e, keeps-all cx r (waiting_of ch.buffer) n)

  pub row-implied-bank : (t : PacketAt) (p : RowPacket) → implied_bank cx ch (RowAt t p) ≡ None
  row-implied-bank t p = no-implied-bank (RowAt t p) (row-implies t p) (row_keeps t p)

  module _ (n : ℕ) (kind : Kind) (banks : Banks) (cycles : ℕ) where
    abbrev line : Distance
    line = rule n from kind to PRER for banks is cycles

    abbrev asked : Option ℕ → ℕ → Bool
    asked o t = leb (bound_of o (bound_by cx ch banks kind cycles)) t

    asks_none : (o : Option ℕ) (t : ℕ) → o ≡ None → asked o t ≡ true
    asks_none o t e = ap (λ (o : Option ℕ). asked o t) e ∙ leb-zero t

    by-precharge : (r : Record) → each (passes cx ch line) (deeds cx (waiting_of ch.buffer) r) ≡ asked (traits r).precharges (instant r) && asked (implied_bank cx ch r) (instant r + cx.settings.offp)
    unfolding deeds instant traits col_traits retire_traits implied_traits
    by-precharge (RowAt t p) = ap (λ (b : Bool). asked (traits (RowAt t p)).precharges t.0 && b) (sym (asks_none (implied_bank cx ch (RowAt t p)) (t.0 + cx.settings.offp) (row-implied-bank t p)))
    by-precharge (ColAt t p) =
        let u : ℕ = t.0 + cx.settings.offp in
        let o : Option Write = leaving_of cx ch (ColAt t p) in
        by-implied cx ch line u (traits (ColAt t p)).implies _
        ∙ ap (λ (b : Bool). asked (traits (ColAt t p)).implies u && (asked (traits (ColAt t p)).precharges t.0 && b)) (by-implied cx ch line u (retire_implies o) _ ∙ ap (λ (b : Bool). asked (retire_implies o) u && b) (retired o))
        ∙ both p
      where
        retired : (o : Option Write) → each (passes cx ch line) (retire_deeds t.0 o) ≡ true
        retired None = refl
        retired (Some w) = simp (leb-zero)

        both : (p : ColPacket) → asked (traits (ColAt t p)).implies (t.0 + cx.settings.offp) && (asked (traits (ColAt t p)).precharges t.0 && (asked (retire_implies (leaving_of cx ch (ColAt t p))) (t.0 + cx.settings.offp) && true))
            ≡ asked (traits (ColAt t p)).precharges t.0 && asked (implied_bank cx ch (ColAt t p)) (t.0 + cx.settings.offp)
        both (Nocop m) = simp (leb-zero, and-true)
        both (Wr b c m x) = simp (leb-zero, and-true)
        both (Rd b c m true) = rw (keeps-all cx (ColAt t (Rd b c m true)) (waiting_of ch.buffer) refl) (simp (leb-zero, and-true))
        both (Rd b c m false) = rw (keeps-all cx (ColAt t (Rd b c m false)) (waiting_of ch.buffer) refl) (simp (leb-zero, and-true))
    by-precharge (DataOf t x) = rw (no-implied-bank (DataOf t x) refl refl) (simp leb-zero)

-- the two lines of rule 5 in one pass over the banks
both-max : (f g k : ℕ → ℕ) → ((x : ℕ) → max (f x) (g x) ≡ k x) → (n : ℕ) → max (max_up_to f n) (max_up_to g n) ≡ max_up_to k n
unfolding max_up_to
both-max f g k e zero = omega arith
both-max f g k e (suc n) = swap (max_up_to f n) (f n) (max_up_to g n) (g n) ∙ ap₂ max (both-max f g k e n) (e n)
  where
    swap : (a b c d : ℕ) → max (max a b) (max c d) ≡ max (max a c) (max b d)
    swap a b c d = omega arith

module _ (cx : Context) (ch : Channel) where
  -- tRC for same or neighbour, else tRR
  abbrev pub act_bound : ℕ → ℕ
  act_bound b = max_up_to (λ x. asks (Some (cond (near cx b x) cx.settings.rc cx.settings.rr)) (track_of ch x).opened.0) bank_count

  pub act-once : (b : ℕ) → max (bound_banks cx ch (near cx) ACT cx.settings.rc b) (bound_banks cx ch (λ b x. not (near cx b x)) ACT cx.settings.rr b) ≡ act_bound b
  act-once b = both-max _ _ _ (λ x. go (near cx b x) (track_of ch x).opened.0) bank_count
    where
      go : (c : Bool) (l : ℕ) → max (asks (only c (Some cx.settings.rc)) l) (asks (only (not c) (Some cx.settings.rr)) l) ≡ asks (Some (cond c cx.settings.rc cx.settings.rr)) l
      go true l = omega arith
      go false l = omega arith

  module _ (r : Record) where
    abbrev t : ℕ
    t = instant r

    plain : (d : Distance) → ((b : ℕ) → bank_as d.later (retire_traits b) ≡ None) → ((b : ℕ) → bank_as d.later (implied_traits b) ≡ None)
        → each (passes cx ch d) (deeds cx (waiting_of ch.buffer) r) ≡ leb (asks_of cx ch d (bank_as d.later (traits r))) t
    plain d e i = by-packet cx ch d r e i

    pub check1 : check_of cx ch r 1 ≡ leb (bound_of (bank_as packet (traits r)) (λ b. since ch.lasts.packet.0 0)) t
    unfolding check_of distances retire_traits implied_traits
    check1 = and-true _ ∙ plain (rule 1 from packet to packet for any is 0) (λ b. refl) (λ b. refl)

    pub check2 : check_of cx ch r 2 ≡ leb (bound_of (bank_as ROW (traits r)) (λ b. since ch.lasts.row.0 4)) t
    unfolding check_of distances retire_traits implied_traits
    check2 = and-true _ ∙ plain (rule 2 from ROW to ROW for any is 4) (λ b. refl) (λ b. refl)

    pub check3 : check_of cx ch r 3 ≡ leb (bound_of (bank_as COL (traits r)) (λ b. since ch.lasts.col.0 cx.settings.cc)) t
    unfolding check_of distances retire_traits implied_traits
    check3 = and-true _ ∙ plain (rule 3 from COL to COL for any is cx.settings.cc) (λ b. refl) (λ b. refl)

    pub check5 : check_of cx ch r 5 ≡ leb (bound_of (traits r).opens act_bound) t
    unfolding check_of distances retire_traits implied_traits
    check5 =
        ap (λ (b : Bool). each (passes cx ch (rule 5 from ACT to ACT for same_or_neighbour is cx.settings.rc)) (deeds cx (waiting_of ch.buffer) r) && b) (and-true _)
        ∙ ap₂ ◌&&◌ (plain (rule 5 from ACT to ACT for same_or_neighbour is cx.settings.rc) (λ b. refl) (λ b. refl)) (plain (rule 5 from ACT to ACT for others is cx.settings.rr) (λ b. refl) (λ b. refl))
        ∙ go (traits r).opens
      where
        go : (o : Option ℕ) → leb (bound_of o (bound_banks cx ch (near cx) ACT cx.settings.rc)) t && leb (bound_of o (bound_banks cx ch (λ b x. not (near cx b x)) ACT cx.settings.rr)) t ≡ leb (bound_of o act_bound) t
        go None = rw (leb-zero t)
        go (Some b) = sym (leb-max _ _ t) ∙ ap (λ (n : ℕ). leb n t) (act-once b)

    -- a PRER in its own time, and an implied one in its
    abbrev prers : (ℕ → ℕ) → Bool
    prers bound = leb (bound_of (traits r).precharges bound) t && leb (bound_of (implied_bank cx ch r) bound) (t + cx.settings.offp)

    pub check6 : check_of cx ch r 6 ≡ prers (bound_banks cx ch (near cx) ACT cx.settings.ras)
    unfolding check_of distances
    check6 = and-true _ ∙ by-precharge cx ch 6 ACT same_or_neighbour cx.settings.ras r

    pub check7 : check_of cx ch r 7 ≡ leb (bound_of (traits r).opens (bound_banks cx ch (near cx) PRER cx.settings.rp)) t
    unfolding check_of distances retire_traits implied_traits
    check7 = and-true _ ∙ plain (rule 7 from PRER to ACT for same_neighbour_or_closed is cx.settings.rp) (λ b. refl) (λ b. refl)

    pub check8 : check_of cx ch r 8 ≡ prers (λ b. since ch.lasts.pre.0 cx.settings.pp)
    unfolding check_of distances
    check8 = and-true _ ∙ by-precharge cx ch 8 PRER any cx.settings.pp r

    pub check10 : check_of cx ch r 10
        ≡ leb (bound_of (traits r).reads (bound_banks cx ch (λ b x. eqb x b) only_act cx.settings.rcd)) t
        && (leb (bound_of (bank_of (leaving_of cx ch r)) (bound_banks cx ch (λ b x. eqb x b) only_act cx.settings.rcd)) t
        && leb (bound_of (traits r).writes (bound_banks cx ch (λ b x. eqb x b) only_act (cx.settings.rcd - cx.settings.rtr))) t)
    unfolding check_of distances retire_traits implied_traits
    check10 =
        ap₂ ◌&&◌ (plain (rule 10 from only_act to RD for same is cx.settings.rcd) (λ b. refl) (λ b. refl))
        (ap₂ ◌&&◌ (by-retire cx ch (rule 10 from only_act to retire for same is cx.settings.rcd) r (never-retire r) (λ b. refl) (λ b. refl))
        (and-true _ ∙ plain (rule 10 from only_act to WR for same is cx.settings.rcd - cx.settings.rtr) (λ b. refl) (λ b. refl)))

    pub check11 : check_of cx ch r 11 ≡ leb (bound_of (traits r).writes (λ b. since ch.lasts.rd.0 (cx.settings.cc + cx.settings.cac - cx.settings.cwd))) t
    unfolding check_of distances retire_traits implied_traits
    check11 = and-true _ ∙ plain (rule 11 from RD to WR for any is cx.settings.cc + cx.settings.cac - cx.settings.cwd) (λ b. refl) (λ b. refl)

    pub check13 : check_of cx ch r 13 ≡ prers (bound_banks cx ch (near cx) RD cx.settings.rdp) && prers (bound_banks cx ch (near cx) retire cx.settings.rtp)
    unfolding check_of distances
    check13 = ap₂ ◌&&◌ (by-precharge cx ch 13 RD same_or_neighbour cx.settings.rdp r) (and-true _ ∙ by-precharge cx ch 13 retire same_or_neighbour cx.settings.rtp r)

    pub check17 : check_of cx ch r 17 ≡ leb (bound_of (bank_as ROW (traits r)) (λ b. since ch.lasts.implied.0 0)) t
    unfolding check_of distances retire_traits implied_traits
    check17 = and-true _ ∙ plain (rule 17 from implied to ROW for any is 0) (λ b. refl) (λ b. refl)

-- No instant of a state is above a top: a record at most at a later one keeps that, and every packet stands at most 64 after it.
-- Assumes nothing.
use Rattle.std.specs.Prelude.{Option, None, Some}
use Prim.Native.Nat.{ℕ, ◌+◌, ◌-◌, ◌<◌, ◌≤◌, max}
use mathlib.Core.Path.{◌≡◌}
use mathlib.Core.Bool.{Bool, true, false, not, ◌&&◌, ◌||◌, cond}
use mathlib.Core.List.{List, [], ◌∷◌}
use native.Mathlib.Omega.{arith}
use lib.Dec.{eqb, leb}
use Rattle.settings.specs.declared.Settings.{Settings}
use Rattle.settings.specs.Settings.{valid, highs}
use Rattle.settings.proofs.SettingsLaws.{timing-range}
use Rattle.record.specs.declared.Record.{Record}
use Rattle.spec_rules.specs.declared.Write.{Write}
use Rattle.spec_rules.specs.declared.Channel.{Channel}
use Rattle.spec_rules.specs.Neighbour.{bank_count, Context, near}
use Rattle.spec_rules.specs.Packets.{Traits, traits, retire_traits, implied_traits}
use Rattle.spec_rules.specs.History.{only, retire_implies}
use Rattle.spec_rules.specs.Distances.{Kind, packet, ROW, COL, ACT, only_act, PRER, RD, WR, retire, implied, bank_as, Banks, any, same, same_or_neighbour, others, same_neighbour_or_closed, Distance, distances}
use Rattle.spec_rules.specs.Channel.{track_of, waiting_of}
use Rattle.spec_rules.specs.Checks.{asks, bound_of, max_line, last_on, last_at, bound_banks, bound_by, bound, bounds}
use Rattle.spec_rules.specs.Earliest.{earliest, bound_implied, may_stay, retire_bound, slot_from, least_from}
use Rattle.spec_state.proofs.EachInstant.{WritesAll, All, all_more}
use Rattle.plan_bytes.proofs.Since.{since-top, max-top}

-- ---- no instant above a top

abbrev pub Under : ℕ → Channel → Type 0
Under top ch = All (λ t. t ≤ top) (λ t. t ≤ top) ch

pub under_more : (top high : ℕ) → top ≤ high → (ch : Channel) → Under top ch → Under high ch
under_more top high l ch k = all_more (λ t. t ≤ top) (λ t. t ≤ top) (λ t. t ≤ high) (λ t. t ≤ high) (λ t h. omega arith) (λ t h. omega arith) ch k

-- ---- what the table asks is at most 64 after the top

-- each distance of the table is at most 64
Lines : List Distance → Type 0
Lines [] = Unit {0}
Lines (d ∷ l) = (d.cycles ≤ 64) × Lines l

lines : (s : Settings) → valid s ≡ true → Lines (distances s)
unfolding distances highs Lines
lines s v =
    let rc : s.rc ≤ 64 = (timing-range s v 0 (omega arith)).1 in
    let ras : s.ras ≤ 64 = (timing-range s v 1 (omega arith)).1 in
    let rp : s.rp ≤ 64 = (timing-range s v 2 (omega arith)).1 in
    let pp : s.pp ≤ 64 = (timing-range s v 3 (omega arith)).1 in
    let rr : s.rr ≤ 64 = (timing-range s v 4 (omega arith)).1 in
    let rcd : s.rcd ≤ 64 = (timing-range s v 5 (omega arith)).1 in
    let rdp : s.rdp ≤ 64 = (timing-range s v 7 (omega arith)).1 in
    let rtp : s.rtp ≤ 64 = (timing-range s v 8 (omega arith)).1 in
    let cc : s.cc ≤ 16 = (timing-range s v 9 (omega arith)).1 in
    let cac : s.cac ≤ 12 = (timing-range s v 10 (omega arith)).1 in
    (omega arith, (omega arith, (omega arith, (rc, (rr, (ras, (rp, (pp, (rcd, (rcd, (omega arith, (omega arith, (rdp, (rtp, (omega arith, tt)))))))))))))))

module _ (cx : Context) (ch : Channel) (top : ℕ) (k : Under top ch) where
  on-top : (a : Kind) → last_on ch a ≤ top
  on-top packet = k.lasts.packet
  on-top ROW = k.lasts.row
  on-top COL = k.lasts.col
  on-top ACT = omega arith
  on-top only_act = omega arith
  on-top PRER = k.lasts.pre
  on-top RD = k.lasts.rd
  on-top WR = omega arith
  on-top retire = omega arith
  on-top implied = k.lasts.implied

  at_top : (a : Kind) (x : ℕ) → x < bank_count → last_at (track_of ch x) a ≤ top
  at_top packet x m = omega arith
  at_top ROW x m = omega arith
  at_top COL x m = omega arith
  at_top ACT x m = (k.lasts.banks x m).opened
  at_top only_act x m = (k.lasts.banks x m).act
  at_top PRER x m = (k.lasts.banks x m).pre
  at_top RD x m = (k.lasts.banks x m).rd
  at_top WR x m = omega arith
  at_top retire x m = (k.lasts.banks x m).retire
  at_top implied x m = omega arith

  banks-top : (counts : ℕ → ℕ → Bool) (a : Kind) (g b : ℕ) → g ≤ 64 → bound_banks cx ch counts a g b ≤ top + 64
  banks-top counts a g b l = max-top _ bank_count (top + 64) (λ x m. go (counts b x) (last_at (track_of ch x) a) (at_top a x m))
    where
      go : (q : Bool) (t : ℕ) → t ≤ top → asks (only q (Some g)) t ≤ top + 64
      go true t h = since-top t g top h l
      go false t h = omega arith

  by-top : (w : Banks) (a : Kind) (g b : ℕ) → g ≤ 64 → bound_by cx ch w a g b ≤ top + 64
  by-top any a g b l = since-top (last_on ch a) g top (on-top a) l
  by-top same a g b l = banks-top (λ b x. eqb x b) a g b l
  by-top same_or_neighbour a g b l = banks-top (near cx) a g b l
  by-top others a g b l = banks-top (λ b x. not (near cx b x)) a g b l
  by-top same_neighbour_or_closed a g b l = banks-top (near cx) a g b l

  bound-top : (d : Distance) (t : Traits) → d.cycles ≤ 64 → bound cx ch d t ≤ top + 64
  bound-top d t l = go (bank_as d.later t)
    where
      go : (o : Option ℕ) → bound_of o (bound_by cx ch d.banks d.earlier d.cycles) ≤ top + 64
      go None = omega arith
      go (Some b) = by-top d.banks d.earlier d.cycles b l

  lines-top : (l : List Distance) (t : Traits) → Lines l → max_line (λ d. bound cx ch d t) l ≤ top + 64
  unfolding Lines
  lines-top [] t e = omega arith
  lines-top (d ∷ l) t e = omega (arith, bound-top d t e.0, lines-top l t e.1)

  bounds-top : valid cx.settings ≡ true → (t : Traits) → bounds cx ch t ≤ top + 64
  unfolding bounds
  bounds-top v t = lines-top (distances cx.settings) t (lines cx.settings v)

  implied-top : valid cx.settings ≡ true → (r : Record) (o : Option ℕ) → bound_implied cx ch r o ≤ top + 64
  implied-top v r None = omega arith
  implied-top v r (Some b) = bounds-top v (implied_traits b)

  -- every packet
  pub least-top : valid cx.settings ≡ true → (r : Record) (now : ℕ) → now ≤ top → least_from cx ch r now ≤ top + 64
  unfolding least_from earliest highs
  least-top v r now h = go (waiting_of ch.buffer) k.writes
    where
      most : (a b t : ℕ) → a ≤ t → b ≤ t → max a b ≤ t
      most a b t h g = omega arith

      less : (a g t : ℕ) → a ≤ t → a - g ≤ t
      less a g t h = omega arith

      t0 : ℕ
      t0 = max now (earliest cx ch r)

      base : t0 ≤ top + 64
      base = most now _ (top + 64) (omega arith) (most 4 _ (top + 64) (omega arith) (most _ _ (top + 64) (bounds-top v (traits r)) (less _ cx.settings.offp (top + 64) (implied-top v r (traits r).implies))))

      either : (w : Write) → w.at.0 ≤ top → (q : Bool) → cond q (max t0 (retire_bound cx ch r w)) t0 ≤ top + 64
      either w e true =
          let late : w.at.0 + cx.settings.rtr ≤ top + 64 = omega (arith, (timing-range cx.settings v 6 (omega arith)).1) in
          most _ _ (top + 64) base (most _ _ (top + 64) late (most _ _ (top + 64) (bounds-top v (retire_traits w.bank)) (less _ cx.settings.offp (top + 64) (implied-top v r (retire_implies (Some w))))))
      either w e false = base

      go : (ws : List Write) → WritesAll (λ t. t ≤ top) ws → slot_from cx ch r t0 ws ≤ top + 64
      go [] e = base
      go (w ∷ ws) e = either w e.0 ((traits r).not_read && (not (may_stay cx ch r (w ∷ ws)) || leb (w.at.0 + cx.settings.rtr) t0))

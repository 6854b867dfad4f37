-- The quick test on the tracks that stand at the indices of a bank and its neighbours, with the newest ACT or REFA of all banks:
-- where it passes, a record breaks no rule. Of a record that implies no PRER, while no closing write waits, it passes just there where
-- tRR is not above tRC.
-- Assumes nothing.
use Prim.Native.Nat.{ℕ, zero, suc, ◌+◌, ◌≤◌, ◌<◌, max}
use mathlib.Core.Path.{◌≡◌, refl, ap, ap₂, ◌∙◌, sym}
use mathlib.Core.Bool.{Bool, true, false, not, ◌&&◌, ◌||◌, cond}
use native.Mathlib.Nat.{le_antisymm}
use native.Mathlib.Omega.{arith}
use borrow.Author.Tests.{eqb-true, leb-true, le-leb, not-true}
use lib.Dec.{eqb, leb}
use lib.ListN.{length}
use Rattle.num.proofs.SearchLaws.{all-at, all-intro}
use Rattle.settings.specs.declared.Settings.{Settings}
use Rattle.settings.specs.declared.PacketAt.{PacketAt}
use Rattle.settings.specs.declared.DataAt.{DataAt}
use Rattle.settings.specs.Instants.{is_instant}
use Rattle.packet.specs.declared.RowPacket.TheVariants.{Act, Prer, Refa, Refp}
use Rattle.packet.specs.declared.ColPacket.TheVariants.{Nocop, Wr, Rd}
use Rattle.record.specs.declared.Record.{Record}
use Rattle.record.specs.declared.Record.TheVariants.{RowAt, ColAt, DataOf}
use Rattle.spec_rules.specs.declared.BankTrack.{BankTrack}
use Rattle.spec_rules.specs.declared.LastInstants.{LastInstants}
use Rattle.spec_rules.specs.declared.Channel.{Channel}
use Rattle.spec_rules.specs.Neighbour.{bank_count, context_of, near}
use Rattle.spec_rules.specs.History.{is_closed}
use Rattle.spec_rules.specs.Distances.{ACT}
use Rattle.spec_rules.specs.Channel.{idle, track_of}
use Rattle.spec_rules.specs.Checks.{since, max_up_to, judged}
use Rattle.spec_rules.proofs.Bools.{neither, and_left, and_right, leb-max_up_to}
use Rattle.spec_rules.proofs.ByRule.{act-once}
use Rattle.chan_view.specs.declared.View.{View}
use Rattle.chan_view.specs.declared.Seen.TheVariants.{Packet, Data}
use Rattle.chan_view.specs.declared.Held.{Held}
use Rattle.chan_view.specs.declared.Tracks.{Tracks}
use Rattle.chan_view.specs.Form.Beside.{low_of, high_of, first_near, last_near, tracks_of}
use Rattle.chan_view.specs.Form.View.{col_view, seen_of, held_of}
use Rattle.chan_view.proofs.NearLaws.{Beside, own, low, high, Below, no-low, one-low, Above, no-high, one-high, below, above, near-beside}
use Rattle.chan_view.proofs.PlaceLaws.{past}
use Rattle.chan_view.proofs.BoundLaws.{since-max, latest-near}
use Rattle.chan_step.specs.Form.Lasts.{retires_by}
use Rattle.chan_judge.specs.Form.Tests.{act_term, act_over}
use Rattle.chan_judge.proofs.JudgeLaws.{judged-data}
use Rattle.chan_least.specs.Form.Least.{on_row, open_bound, opened_near, pre_near, rd_near, retire_near}
use Rattle.chan_least.specs.Form.Quick.{comes_well, act_by, closed_near, loses, loses_none, opens_well, closes_well, reads_well, writes_well, leaves_well, row_well, col_well, record_well}
use Rattle.chan_least.proofs.LeastLaws.{near-latest}
use Rattle.chan_least.proofs.QuickLaws.{is_plain, packet-well}

-- ---- tracks that the test does not tell apart

pub record Alike (h : Held) (k j : Tracks) : Type 0 where
  pub same-own : k.own ≡ j.own
  pub same-held : h.waits ≡ true → k.held ≡ j.held
  pub same_next : h.two ≡ true → k.next ≡ j.next
  pub closed : closed_near k ≡ closed_near j
  pub opened : opened_near k ≡ opened_near j
  pub pre : pre_near k ≡ pre_near j
  pub rd : rd_near k ≡ rd_near j
  pub retire : retire_near k ≡ retire_near j

module _ (s : Settings) (h : Held) (k j : Tracks) (a : Alike h k j) where
  loses-same : (b : ℕ) → loses_none s b h k ≡ loses_none s b h j
  loses-same b = ap₂ (λ (x y : Bool). not x && not y) (go h.waits h.bank k.held j.held a.same-held) (go h.two h.next k.next j.next a.same_next)
    where
      go : (u : Bool) (x : ℕ) (i n : BankTrack) → (u ≡ true → i ≡ n) → loses s b u x i ≡ loses s b u x n
      go true x i n q = rw (q refl)
      go false x i n q = refl

  leaves-same : (t : PacketAt) (stays : Bool) (m : ℕ) (passed : Bool) → leaves_well s t k stays m (h.waits && passed) ≡ leaves_well s t j stays m (h.waits && passed)
  unfolding leaves_well
  leaves-same t stays m passed = go h.waits refl
    where
      go : (u : Bool) → h.waits ≡ u → leaves_well s t k stays m (u && passed) ≡ leaves_well s t j stays m (u && passed)
      go true q = rw (a.same-held q)
      go false q = refl

  well-alike : (r : Record) (l : LastInstants) (act : ℕ) → record_well s r h k l act ≡ record_well s r h j l act
  unfolding record_well row_well col_well opens_well closes_well reads_well writes_well retires_by seen_of col_view
  well-alike (RowAt t (Act b row)) l act = rw (a.closed, a.pre)
  well-alike (RowAt t (Prer b)) l act = rw (loses-same b, a.opened, a.rd, a.retire)
  well-alike (RowAt t (Refa b)) l act = rw (a.closed, a.pre)
  well-alike (RowAt t (Refp b)) l act = rw (loses-same b, a.opened, a.rd, a.retire)
  well-alike (ColAt t (Nocop m)) l act = rw (leaves-same t (not h.waits) m (leb (h.at.0 + s.rtr) t.0))
  well-alike (ColAt t (Wr b c m x)) l act = rw (leaves-same t (not h.two) m (leb (h.at.0 + s.rtr) t.0), a.same-own)
  well-alike (ColAt t (Rd b c m x)) l act = rw a.same-own
  well-alike (DataOf t d) l act = refl

-- ---- the tracks at the indices of a bank, of the first and the last near it, and of the waiting writes' banks

pub record Met (s : Settings) (ch : Channel) (b : ℕ) (k : Tracks) : Type 0 where
  pub size : length ch.banks ≡ 32
  pub at_own : k.own ≡ track_of ch b
  pub at_low : k.low ≡ track_of ch (first_near s b)
  pub at_high : k.high ≡ track_of ch (last_near s b)
  pub at_held : (held_of ch.buffer ch.due).waits ≡ true → k.held ≡ track_of ch (held_of ch.buffer ch.due).bank
  pub at_next : (held_of ch.buffer ch.due).two ≡ true → k.next ≡ track_of ch (held_of ch.buffer ch.due).next

-- a bank that is asked twice
twice-low : (x y : Bool) → x && (x && y) ≡ x && (true && y)
twice-low true y = refl
twice-low false y = refl

twice-high : (x y : Bool) → x && (y && x) ≡ x && (y && true)
twice-high true y = refl
twice-high false y = refl

module _ (s : Settings) (ch : Channel) (b : ℕ) (k : Tracks) (m : Met s ch b k) where
  abbrev held : Held
  held = held_of ch.buffer ch.due

  abbrev around : Tracks
  around = tracks_of s ch.banks b b held

  abbrev shut : ℕ → Bool
  shut x = is_closed (track_of ch x).bank

  none_open : shut 32 ≡ true
  unfolding is_closed
  none_open = ap (λ (x : BankTrack). is_closed x.bank) (past ch.banks m.size 32 (omega arith))

  near-closed : shut b && (shut (first_near s b) && shut (last_near s b)) ≡ shut b && (shut (low_of s b) && shut (high_of s b))
  near-closed = first (below s b) ∙ last (above s b)
    where
      first : Below s b → shut b && (shut (first_near s b) && shut (last_near s b)) ≡ shut b && (shut (low_of s b) && shut (last_near s b))
      first (no-low p q) = rw (p, q, none_open) (twice-low (shut b) (shut (last_near s b)))
      first (one-low p q) = rw q

      last : Above s b → shut b && (shut (low_of s b) && shut (last_near s b)) ≡ shut b && (shut (low_of s b) && shut (high_of s b))
      last (no-high p q) = rw (p, q, none_open) (twice-high (shut b) (shut (low_of s b)))
      last (one-high p q) = rw q

  latest-same : (f : BankTrack → PacketAt) → (f idle).0 ≡ 0
      → ◌≡◌ {A = PacketAt} (record { 0 = max (max (f k.own).0 (f k.low).0) (f k.high).0 }) (record { 0 = max (max (f around.own).0 (f around.low).0) (f around.high).0 })
  latest-same f z = rw (m.at_own, m.at_low, m.at_high) (ap (λ (n : ℕ). record { 0 = n }) (sym (latest-near s (λ x. (f x).0) z ch.banks m.size b)))

  met-alike : Alike held k around
  met-alike =
      record {
        same-own = m.at_own;
        same-held = m.at_held;
        same_next = m.at_next;
        closed = rw (m.at_own, m.at_low, m.at_high) near-closed;
        opened = latest-same (λ x. x.opened) refl;
        pre = latest-same (λ x. x.pre) refl;
        rd = latest-same (λ x. x.rd) refl;
        retire = latest-same (λ x. x.retire) refl;
      }

-- ---- rule 5 by the newest ACT or REFA

since-most : (a b g : ℕ) → a ≤ b → since a g ≤ since b g
since-most a b g h = let e : max a b ≡ b = omega arith in omega (arith, rw e at (since-max a b g))

since-wider : (a g w : ℕ) → g ≤ w → since a g ≤ since a w
since-wider a g w h = go (eqb a 0)
  where
    go : (c : Bool) → cond c 0 (a + g) ≤ cond c 0 (a + w)
    go true = omega arith
    go false = omega arith

-- each is at most the largest
most-of : (f : ℕ → ℕ) (n x : ℕ) → x < n → f x ≤ max_up_to f n
most-of f n x l = leb-true _ _ (all-at (λ x. leb (f x) (max_up_to f n)) n x (sym (leb-max_up_to f n (max_up_to f n)) ∙ le-leb (max_up_to f n) (max_up_to f n) (omega arith)) l)

module _ (s : Settings) (ch : Channel) (b : ℕ) (k : Tracks) (m : Met s ch b k) (newest : PacketAt) where
  abbrev opened_at : ℕ → ℕ
  opened_at x = (track_of ch x).opened.0

  abbrev near_opened : ℕ
  near_opened = max (max (opened_at b) (opened_at (low_of s b))) (opened_at (high_of s b))

  near-opened : (opened_near k).0 ≡ near_opened
  near-opened = ap (λ (p : PacketAt). p.0) (met-alike s ch b k m).opened

  -- it asks no less than rule 5 does, where no bank was opened later
  act-most : ((x : ℕ) → x < 32 → opened_at x ≤ newest.0) → act_over s ch.banks b ≤ act_by s k newest
  unfolding act_over
  act-most h =
      rw near-opened
      (leb-true _ _
      (leb-max_up_to (act_term s ch.banks b) 32 (max (since newest.0 s.rr) (since near_opened s.rc)) ∙ all-intro _ 32 (λ x l. le-leb _ _ (go x l (near (context_of s) b x) refl))))
    where
      beside : (x : ℕ) → Beside s b x → opened_at x ≤ near_opened
      beside x (own q) = rw q (omega arith)
      beside x (low q) = rw q (omega arith)
      beside x (high q) = rw q (omega arith)

      go : (x : ℕ) → x < 32 → (u : Bool) → near (context_of s) b x ≡ u → since (opened_at x) (cond u s.rc s.rr) ≤ max (since newest.0 s.rr) (since near_opened s.rc)
      go x l true q = omega (arith, since-most _ _ s.rc (beside x (near-beside s b x q)))
      go x l false q = omega (arith, since-most _ _ s.rr (h x l))

  -- and just that, where tRR is not above tRC and it is the latest of all
  module _ (r : s.rr ≤ s.rc) where
    far-least : (n : ℕ) → since (max_up_to opened_at n) s.rr ≤ max_up_to (act_term s ch.banks b) n
    unfolding max_up_to
    far-least zero = omega arith
    far-least (suc n) = rw (since-max (max_up_to opened_at n) (opened_at n) s.rr) (omega (arith, far-least n, go (near (context_of s) b n)))
      where
        go : (u : Bool) → since (opened_at n) s.rr ≤ since (opened_at n) (cond u s.rc s.rr)
        go true = since-wider (opened_at n) s.rr s.rc r
        go false = omega arith

    near-least : since near_opened s.rc ≤ act_over s ch.banks b
    unfolding act_over bank_count context_of
    near-least = omega (arith, near-latest s ch m.size ACT s.rc b, act-once (context_of s) ch b)

    far-all : newest.0 ≡ max_up_to opened_at 32 → since newest.0 s.rr ≤ act_over s ch.banks b
    unfolding act_over
    far-all q = rw q (far-least 32)

    act-exact : newest.0 ≡ max_up_to opened_at 32 → act_by s k newest ≡ act_over s ch.banks b
    act-exact q = le_antisymm (rw near-opened (omega (arith, far-all q, near-least))) (act-most (λ x l. rw q (most-of opened_at 32 x l)))

-- ---- the test

and-less : (x y z w : Bool) → (z ≡ true → w ≡ true) → x && (y && z) ≡ true → x && (y && w) ≡ true
and-less true true z w f e = f e
and-less true false z w f e = e
and-less false y z w f e = e

-- a ROW packet of which less is asked
row-less : (l : LastInstants) (x y : ℕ) → x ≤ y → on_row l x ≤ on_row l y
row-less l x y q = later l.packet.0 _ _ (later (since l.row.0 4) _ _ (omega arith))
  where
    later : (p x y : ℕ) → x ≤ y → max p x ≤ max p y
    later p x y q = omega arith

-- an ACT or REFA of which rule 5 asks less
opens-less : (s : Settings) (t : PacketAt) (k : Tracks) (l : LastInstants) (a c : ℕ) (x : Bool) → a ≤ c → x && opens_well s t k l c ≡ true → x && opens_well s t k l a ≡ true
unfolding opens_well open_bound
opens-less s t k l a c x q =
    let pre : ℕ = since (pre_near k).0 s.rp in
    let less : open_bound s l a (pre_near k) ≤ open_bound s l c (pre_near k) = row-less l (max a pre) (max c pre) (omega arith) in
    and-less x (closed_near k) _ _ (λ e. let n : open_bound s l c (pre_near k) ≤ t.0 = leb-true _ _ e in le-leb (open_bound s l a (pre_near k)) t.0 (omega arith))

well-less : (s : Settings) (r : Record) (h : Held) (k : Tracks) (l : LastInstants) (a c : ℕ) → a ≤ c → record_well s r h k l c ≡ true → record_well s r h k l a ≡ true
unfolding record_well row_well
well-less s (RowAt t (Act b row)) h k l a c q e = opens-less s t k l a c (comes_well t h) q e
well-less s (RowAt t (Prer b)) h k l a c q e = e
well-less s (RowAt t (Refa b)) h k l a c q e = opens-less s t k l a c (comes_well t h) q e
well-less s (RowAt t (Refp b)) h k l a c q e = e
well-less s (ColAt t p) h k l a c q e = e
well-less s (DataOf t d) h k l a c q e = e

-- what passes implies no PRER, and no closing write waits
comes-none : (t : PacketAt) (h : Held) (x : Bool) → comes_well t h && x ≡ true → (h.close ≡ false) × (h.next_close ≡ false)
comes-none t h x e = neither h.close _ (neither h.due _ (not-true _ (and_right (is_instant t.0) _ (and_left (comes_well t h) x e)))).1

pub plain-well : (s : Settings) (r : Record) (v : View) → seen_of r ≡ Packet v → (h : Held) (k : Tracks) (l : LastInstants) (act : ℕ) → record_well s r h k l act ≡ true
    → (is_plain r ≡ true) × ((h.close ≡ false) × (h.next_close ≡ false))
unfolding record_well col_well is_plain seen_of
plain-well s (RowAt t p) v q h k l act e = (refl, comes-none t h _ e)
plain-well s (ColAt t (Nocop m)) v q h k l act e = (refl, comes-none t h _ e)
plain-well s (ColAt t (Wr b c m x)) v q h k l act e = (refl, comes-none t h _ e)
plain-well s (ColAt t (Rd b c m x)) v q h k l act e =
    (ap not (neither h.two x (not-true _ (and_left (not (h.two || x)) _ (and_right (comes_well t h) _ e)))).1, comes-none t h _ e)
plain-well s (DataOf t d) v q h k l act e = absurd (let z : ◌≡◌ {A = ℕ} 0 1 = cc in omega arith)

module _ (s : Settings) (ch : Channel) (r : Record) where
  abbrev waiting : Held
  waiting = held_of ch.buffer ch.due

  -- what the test gives
  abbrev pub passing : Tracks → PacketAt → Bool
  passing k newest = record_well s r waiting k ch.lasts (act_by s k newest)

  module _ (v : View) (q : seen_of r ≡ Packet v) (k : Tracks) (m : Met s ch v.bank k) (newest : PacketAt) where
    by-tracks : (act : ℕ) → record_well s r waiting k ch.lasts act ≡ record_well s r waiting (around s ch v.bank k m) ch.lasts act
    by-tracks act = well-alike s waiting k (around s ch v.bank k m) (met-alike s ch v.bank k m) r ch.lasts act

    -- a packet that passes breaks no rule, where no bank was opened later than newest
    pub passes-legal : ((x : ℕ) → x < 32 → (track_of ch x).opened.0 ≤ newest.0) → passing k newest ≡ true → judged (context_of s) ch r ≡ 0
    passes-legal h e =
        let z = plain-well s r v q waiting k ch.lasts (act_by s k newest) e in
        eqb-true _ _
        (packet-well s ch m.size z.1.0 z.1.1 r v q z.0
        ∙ well-less s r waiting (around s ch v.bank k m) ch.lasts _ _ (act-most s ch v.bank k m newest h) (sym (by-tracks (act_by s k newest)) ∙ e))

    -- and one that implies no PRER passes just where it breaks none, while no closing write waits, where tRR is not above tRC and newest
    -- is the latest of all
    pub passes-exact : is_plain r ≡ true → waiting.close ≡ false → waiting.next_close ≡ false → s.rr ≤ s.rc → newest.0 ≡ max_up_to (λ x. (track_of ch x).opened.0) 32
        → passing k newest ≡ eqb (judged (context_of s) ch r) 0
    passes-exact z older newer n p =
        by-tracks (act_by s k newest) ∙ rw (act-exact s ch v.bank k m newest n p) (sym (packet-well s ch m.size older newer r v q z))

  -- data
  pub passes-data : (t : DataAt) → seen_of r ≡ Data t → (k : Tracks) (newest : PacketAt) → passing k newest ≡ eqb (judged (context_of s) ch r) 0
  unfolding seen_of record_well
  passes-data t q k newest = go r q
    where
      go : (r : Record) → seen_of r ≡ Data t → record_well s r waiting k ch.lasts (act_by s k newest) ≡ eqb (judged (context_of s) ch r) 0
      go (RowAt u p) q = absurd (let z : ◌≡◌ {A = ℕ} 0 1 = cc in omega arith)
      go (ColAt u p) q = absurd (let z : ◌≡◌ {A = ℕ} 0 1 = cc in omega arith)
      go (DataOf u d) q = let e : t ≡ u = cc in ap (λ (n : ℕ). eqb n 0) (rw e at (judged-data s ch (DataOf u d) t q))

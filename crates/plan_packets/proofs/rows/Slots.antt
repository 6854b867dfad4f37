-- The least instants of ROW packets in stored numbers are those of the plan.
-- Assumes nothing.
use Rattle.std.specs.Prelude.{Some}
use Prim.Native.Nat.{ℕ, ◌+◌, ◌*◌, ◌<◌, ◌≤◌, max}
use mathlib.Core.Path.{◌≡◌, refl, sym, ap, ap₂, ◌∙◌}
use mathlib.Core.Bool.{Bool, true, false, cond, not}
use mathlib.Core.List.{List}
use native.Mathlib.Nat.{max-zero, zero-add}
use native.Mathlib.Omega.{arith}
use borrow.Author.Tests.{ltb-false}
use lib.Dec.{ltb}
use lib.ListN.{length}
use Rattle.settings.specs.declared.Settings.{Settings}
use Rattle.packet.specs.declared.RowPacket.{RowPacket}
use Rattle.packet.specs.declared.RowPacket.TheVariants.{Act, Prer, Refa, Refp}
use Rattle.spec_rules.specs.declared.BankTrack.{BankTrack}
use Rattle.spec_rules.specs.declared.Channel.{Channel}
use Rattle.spec_rules.specs.Neighbour.{bank_count, context_of, near}
use Rattle.spec_rules.specs.Packets.{traits, row_traits, implied_traits}
use Rattle.spec_rules.specs.History.{only}
use Rattle.spec_rules.specs.Distances.{Kind, ACT, PRER, RD, retire}
use Rattle.spec_rules.specs.Channel.{idle, never, track_of, waiting_of}
use Rattle.spec_rules.specs.Checks.{since, asks, max_up_to, last_at, bound_banks, bounds}
use Rattle.spec_rules.specs.Earliest.{least_from}
use Rattle.spec_rules.proofs.TrackLaws.{row_keeps}
use Rattle.spec_rules.proofs.ByCommand.{act-bounds, prer-bounds, refa-bounds, implied-bounds}
use Rattle.spec_rules.proofs.CheckerRight.{row_plain}
use Rattle.spec_state.specs.ChannelBytes.{instant_of, track_in, lasts_in, channel_in}
use Rattle.chan_view.specs.Form.Beside.{is_first, low_of, high_of, first_near, last_near}
use Rattle.chan_view.specs.Form.Bounds.{three}
use Rattle.chan_view.proofs.NearLaws.{Below, no-low, one-low, below, not_last}
use Rattle.chan_view.proofs.BoundLaws.{near-bound, three-latest}
use Rattle.spec_plan.specs.declared.PlannerState.{PlannerState}
use Rattle.spec_plan.specs.Plan.{row_packet, slot}
use Rattle.spec_plan.specs.PlannerBytes.{planner_in}
use Rattle.plan_bytes.specs.Form.Numbers.{word}
use Rattle.plan_bytes.proofs.Since.{since_none, max-ext, max-since, max-both, since-more}
use Rattle.plan_bytes.proofs.Instants.{said-max, said-since, floored, own-earliest, kept_slot}
use Rattle.plan_bytes.proofs.States.{sized, track-at}
use Rattle.plan_packets.specs.Form.RowSlots.{row_base, most_in, prer_asks, close_at, latest_in, far_in, other_in, open_at}

-- ---- the plan's slots by the state, command by command

module _ (s : Settings) (p : PlannerState) (e : length p.channel.banks ≡ 32) (low : 4 ≤ p.now.0) where
  abbrev ch : Channel
  ch = p.channel

  -- what now and the last packets ask
  abbrev row_floor : ℕ
  row_floor = max (max (max p.now.0 ch.lasts.packet.0) (since ch.lasts.row.0 4)) ch.lasts.implied.0

  -- of a bank and its neighbours
  abbrev near_asks : Kind → ℕ → ℕ → ℕ
  near_asks a gap x = three (last_at (track_of ch x) a) (last_at (track_of ch (low_of s x)) a) (last_at (track_of ch (high_of s x)) a) gap

  -- a ROW packet retires nothing and implies no PRER
  kept : (q : RowPacket) → slot (context_of s) p (row_packet q) ≡ max p.now.0 (max 4 (bounds (context_of s) ch (row_traits q)))
  unfolding slot least_from traits
  kept q =
      kept_slot (context_of s) ch (row_packet q) (row_keeps never q) _ (waiting_of ch.buffer)
      ∙ ap (λ (n : ℕ). max p.now.0 n) (own-earliest (context_of s) ch (row_packet q) (row_plain (context_of s) ch never q))

  -- an implied PRER that is still due stands last in what the table asks of it
  due-last : (asked k : ℕ) → asked ≡ max k (since ch.lasts.implied.0 0)
      → max p.now.0 (max 4 (max (since ch.lasts.packet.0 0) (max (since ch.lasts.row.0 4) asked))) ≡ max row_floor k
  due-last asked k e =
      ap (λ (n : ℕ). max p.now.0 (max 4 (max (since ch.lasts.packet.0 0) (max (since ch.lasts.row.0 4) n)))) (e ∙ ap (λ (n : ℕ). max k n) (since_none ch.lasts.implied.0))
      ∙ floored p low (since ch.lasts.row.0 4) (max k ch.lasts.implied.0)
      ∙ aside _ k ch.lasts.implied.0
    where
      aside : (a k e : ℕ) → max a (max k e) ≡ max (max a e) k
      aside a k e = omega arith

  deeper : (a b k e : ℕ) → b ≡ max k e → max a b ≡ max (max a k) e
  deeper a b k e h = omega (arith, h)

  -- a PRER, of an implied one too
  abbrev pub prer_bound : ℕ → ℕ
  prer_bound x = bounds (context_of s) ch (implied_traits x)

  prer-by : (x : ℕ) → slot (context_of s) p (row_packet (Prer x)) ≡ max row_floor (prer_bound x)
  prer-by x =
      kept (Prer x) ∙ rw (prer-bounds (context_of s) ch x) (due-last _ (prer_bound x) (rw (implied-bounds (context_of s) ch x) (deeper _ _ _ _ (deeper _ _ _ _ (deeper _ _ _ _ refl)))))

  -- REFP acts as PRER, REFA as ACT
  refp-by : (x : ℕ) → slot (context_of s) p (row_packet (Refp x)) ≡ slot (context_of s) p (row_packet (Prer x))
  unfolding row_traits
  refp-by x = kept (Refp x) ∙ sym (kept (Prer x))

  -- all other banks
  abbrev far_asks : ℕ → ℕ
  far_asks x = bound_banks (context_of s) ch (λ b y. not (near (context_of s) b y)) ACT s.rr x

  act_by_lem : (x row : ℕ) → slot (context_of s) p (row_packet (Act x row)) ≡ max row_floor (max (near_asks ACT s.rc x) (max (far_asks x) (near_asks PRER s.rp x)))
  unfolding context_of
  act_by_lem x row = kept (Act x row) ∙ rw (act-bounds (context_of s) ch x row, near-bound s ch e ACT s.rc x, near-bound s ch e PRER s.rp x) (due-last _ _ (deeper _ _ _ _ (deeper _ _ _ _ refl)))

  refa-by : (x row : ℕ) → slot (context_of s) p (row_packet (Refa x)) ≡ slot (context_of s) p (row_packet (Act x row))
  refa-by x row = kept (Refa x) ∙ rw (refa-bounds (context_of s) ch x, ← act-bounds (context_of s) ch x row) (sym (kept (Act x row)))

-- ---- in stored numbers

-- the first and the last of a bank and its neighbours are banks
first-bank : (s : Settings) (x : ℕ) → x < 32 → first_near s x < 32
first-bank s x l = go (below s x)
  where
    go : Below s x → first_near s x < 32
    go (no-low e f) = omega arith
    go (one-low e f) = omega arith

pub last-bank : (s : Settings) (x : ℕ) → x < 32 → last_near s x < 32
unfolding last_near
last-bank s x l = go (is_first s.core (x + 1)) refl
  where
    go : (q : Bool) → is_first s.core (x + 1) ≡ q → cond q x (x + 1) < 32
    go true e = l
    go false e = omega (arith, not_last s.core x e)

module _ (s : Settings) (b : List ℕ) (low : 4 ≤ (planner_in b).now.0) where
  abbrev state : PlannerState
  state = planner_in b

  row-said : instant_of (row_base b) ≡ row_floor s state (sized b) low
  unfolding row_base planner_in channel_in lasts_in
  row-said = simp (said-max, said-since)

  -- a bank and its neighbours, of a plane
  module _ (a : Kind) (plane : ℕ) (z : last_at idle a ≡ 0) (h : (y : ℕ) → last_at (track_in b y) a ≡ instant_of (word b (plane + 4 * y))) (x : ℕ) (l : x < 32) where
    abbrev at : ℕ → ℕ
    at y = last_at (track_of state.channel y) a

    at-is : (y : ℕ) → y < 32 → instant_of (word b (plane + 4 * y)) ≡ at y
    at-is y m = sym (ap (λ (k : BankTrack). last_at k a) (track-at b y m) ∙ h y)

    most-said : instant_of (most_in s b plane x) ≡ max (max (at x) (at (first_near s x))) (at (last_near s x))
    most-said = said-max _ (word b (plane + 4 * last_near s x)) ∙ ap₂ max (said-max (word b (plane + 4 * x)) _ ∙ ap₂ max (at-is x l) (at-is (first_near s x) (first-bank s x l))) (at-is (last_near s x) (last-bank s x l))

    near-said : (g : ℕ) → instant_of (since (most_in s b plane x) g) ≡ near_asks s state (sized b) low a g x
    near-said g =
        said-since (most_in s b plane x) g
        ∙ ap (λ (n : ℕ). since n g) most-said
        ∙ sym (three-latest s (λ k. last_at k a) z state.channel.banks (sized b) x g)

  opened-plane : (y : ℕ) → last_at (track_in b y) ACT ≡ instant_of (word b (0 + 4 * y))
  unfolding track_in
  opened-plane y = rw zero-add

  pre-plane : (y : ℕ) → last_at (track_in b y) PRER ≡ instant_of (word b (256 + 4 * y))
  unfolding track_in
  pre-plane y = refl

  rd-plane : (y : ℕ) → last_at (track_in b y) RD ≡ instant_of (word b (384 + 4 * y))
  unfolding track_in
  rd-plane y = refl

  retire-plane : (y : ℕ) → last_at (track_in b y) retire ≡ instant_of (word b (512 + 4 * y))
  unfolding track_in
  retire-plane y = refl

  pre-last-said : (g : ℕ) → instant_of (since (word b 716) g) ≡ since state.channel.lasts.pre.0 g
  unfolding planner_in channel_in lasts_in
  pre-last-said g = said-since (word b 716) g

  pub prer-said : (x : ℕ) → x < 32 → instant_of (prer_asks s b x) ≡ bounds (context_of s) state.channel (implied_traits x)
  unfolding prer_asks context_of
  prer-said x l =
      rw (implied-bounds (context_of s) state.channel x, near-bound s state.channel (sized b) ACT s.ras x, near-bound s state.channel (sized b) RD s.rdp x, near-bound s state.channel (sized b) retire s.rtp x)
      (said-max (since (most_in s b 0 x) s.ras) _
      ∙ ap₂ max (near-said ACT 0 refl opened-plane x l s.ras)
      (said-max (since (word b 716) s.pp) _
      ∙ ap₂ max (pre-last-said s.pp)
      (said-max (since (most_in s b 384 x) s.rdp) _ ∙ ap₂ max (near-said RD 384 refl rd-plane x l s.rdp) (near-said retire 512 refl retire-plane x l s.rtp))))

  pub prer-slot : (x : ℕ) → x < 32 → instant_of (close_at s b x) ≡ slot (context_of s) state (row_packet (Prer x))
  unfolding close_at
  prer-slot x l = said-max (row_base b) _ ∙ ap₂ max row-said (prer-said x l) ∙ sym (prer-by s state (sized b) low x)

  pub refp-slot : (x : ℕ) → x < 32 → instant_of (close_at s b x) ≡ slot (context_of s) state (row_packet (Refp x))
  refp-slot x l = prer-slot x l ∙ sym (refp-by s state (sized b) low x)

  -- ---- ACT and REFA

  abbrev opened_at : ℕ → ℕ
  opened_at y = (track_of state.channel y).opened.0

  opened-said : (y : ℕ) → y < 32 → instant_of (word b (4 * y)) ≡ opened_at y
  unfolding track_in
  opened-said y m = sym (ap (λ (k : BankTrack). k.opened.0) (track-at b y m))

  -- over all banks, an instant of each
  all_said : (f : ℕ → ℕ) (g : ℕ) → instant_of (since (max_up_to f 32) g) ≡ max_up_to (λ y. since (instant_of (f y)) g) 32
  all_said f g = said-since (max_up_to f 32) g ∙ ap (λ (n : ℕ). since n g) (sym (max-since f 3 32)) ∙ sym (max-since (λ y. instant_of (f y)) g 32)

  module _ (x : ℕ) where
    -- what a bank asks where it is near, and where it is not
    abbrev near_term : ℕ → ℕ
    near_term y = asks (only (near (context_of s) x y) (Some s.rc)) (opened_at y)

    abbrev far_term : ℕ → ℕ
    far_term y = asks (only (not (near (context_of s) x y)) (Some s.rr)) (opened_at y)

    far-said : instant_of (since (far_in s b x) s.rr) ≡ far_asks s state (sized b) low x
    unfolding far_in bank_count
    far-said = all_said (λ y. cond (near (context_of s) x y) 0 (word b (4 * y))) s.rr ∙ max-ext _ far_term 32 (λ y m. go y m (near (context_of s) x y))
      where
        go : (y : ℕ) → y < 32 → (q : Bool) → since (instant_of (cond q 0 (word b (4 * y)))) s.rr ≡ asks (only (not q) (Some s.rr)) (opened_at y)
        go y m true = refl
        go y m false = ap (λ (n : ℕ). since n s.rr) (opened-said y m)

    -- where tRR is at most tRC, the latest of all banks adds nothing to what the near ones ask
    latest-said : s.rr ≤ s.rc → max (near_asks s state (sized b) low ACT s.rc x) (instant_of (since (latest_in b) s.rr)) ≡ max (near_asks s state (sized b) low ACT s.rc x) (far_asks s state (sized b) low x)
    unfolding latest_in bank_count
    latest-said l =
        rw (← near-bound s state.channel (sized b) ACT s.rc x)
        (ap (λ (n : ℕ). max (max_up_to near_term 32) n) (all_said (λ y. word b (4 * y)) s.rr)
        ∙ sym (max-both near_term (λ y. since (instant_of (word b (4 * y))) s.rr) 32)
        ∙ max-ext _ _ 32 (λ y m. ap (λ (n : ℕ). max (near_term y) (since n s.rr)) (opened-said y m) ∙ go y (near (context_of s) x y))
        ∙ max-both near_term far_term 32)
      where
        go : (y : ℕ) (q : Bool) → max (asks (only q (Some s.rc)) (opened_at y)) (since (opened_at y) s.rr) ≡ max (asks (only q (Some s.rc)) (opened_at y)) (asks (only (not q) (Some s.rr)) (opened_at y))
        go y true = since-more (opened_at y) s.rr s.rc l ∙ sym (max-zero _)
        go y false = refl

    other-said : max (near_asks s state (sized b) low ACT s.rc x) (instant_of (since (other_in s b x) s.rr)) ≡ max (near_asks s state (sized b) low ACT s.rc x) (far_asks s state (sized b) low x)
    unfolding other_in
    other-said = go (ltb s.rc s.rr) refl
      where
        go : (q : Bool) → ltb s.rc s.rr ≡ q
            → max (near_asks s state (sized b) low ACT s.rc x) (instant_of (since (cond q (far_in s b x) (latest_in b)) s.rr)) ≡ max (near_asks s state (sized b) low ACT s.rc x) (far_asks s state (sized b) low x)
        go true e = rw far-said
        go false e = latest-said (ltb-false s.rc s.rr e)

  regroup : (a b c d e : ℕ) → max b c ≡ max b d → max a (max b (max c e)) ≡ max a (max b (max d e))
  regroup a b c d e h = ap (λ (n : ℕ). max a n) (left b c e ∙ ap (λ (n : ℕ). max n e) h ∙ sym (left b d e))
    where
      left : (a b c : ℕ) → max a (max b c) ≡ max (max a b) c
      left a b c = omega arith

  pub act-slot : (x row : ℕ) → x < 32 → instant_of (open_at s b x) ≡ slot (context_of s) state (row_packet (Act x row))
  unfolding open_at
  act-slot x row l =
      said-max (row_base b) _
      ∙ ap₂ max row-said
      (said-max (since (most_in s b 0 x) s.rc) _
      ∙ ap₂ max (near-said ACT 0 refl opened-plane x l s.rc) (said-max (since (other_in s b x) s.rr) _ ∙ ap (λ (n : ℕ). max (instant_of (since (other_in s b x) s.rr)) n) (near-said PRER 256 refl pre-plane x l s.rp)))
      ∙ regroup _ _ _ _ _ (other-said x)
      ∙ sym (act_by_lem s state (sized b) low x row)

  pub refa-slot : (x : ℕ) → x < 32 → instant_of (open_at s b x) ≡ slot (context_of s) state (row_packet (Refa x))
  refa-slot x l = act-slot x 0 l ∙ sym (refa-by s state (sized b) low x 0)

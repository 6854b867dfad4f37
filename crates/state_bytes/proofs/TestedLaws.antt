-- What is tested of the bytes of a state is what is asked of the bytes and of the state that they say.
-- Assumes nothing.
use Prim.Native.Nat.{ℕ, zero, suc, ◌+◌, ◌*◌, ◌-◌, ◌/◌, ◌%◌, ◌<◌, ◌≤◌}
use mathlib.Core.Path.{◌≡◌, refl, sym, ap, ap₂, ◌∙◌}
use mathlib.Core.Bool.{Bool, true, false, not, ◌&&◌, ◌||◌, cond, and_assoc, and-true, and-false, or_comm}
use mathlib.Core.List.{List}
use native.Mathlib.Omega.{arith}
use borrow.Author.Tests.{eqb-false, ne_eqb}
use lib.Dec.{eqb, leb}
use lib.ListN.{length}
use Rattle.num.specs.Bytes.{number, part, Bytes}
use Rattle.num.specs.Search.{all_up_to}
use Rattle.num.proofs.SearchLaws.{all-at, all-intro}
use Rattle.num.proofs.PartLaws.{number_fits}
use Rattle.settings.specs.declared.Settings.{Settings}
use Rattle.spec_rules.specs.declared.Bank.{Bank}
use Rattle.spec_rules.specs.Neighbour.{bank_count, Context, context_of}
use Rattle.spec_rules.specs.History.{is_closed}
use Rattle.spec_rules.specs.Channel.{track_of, state_of}
use Rattle.spec_rules.proofs.Bools.{iff-eq, not-both, and_left, and_right, all-ext, all-and}
use Rattle.spec_rules.proofs.NeighbourLaws.{core-neighbours}
use Rattle.spec_state.specs.Valid.{bank_valid, track_valid, lasts_valid, apart}
use Rattle.spec_state.specs.ChannelBytes.{bank_in, track_in, lasts_in, channel_in}
use Rattle.spec_state.proofs.PlaneLaws.{tracks-at}
use Rattle.spec_plan.specs.Planner.{not_refresh}
use Rattle.chan_view.specs.Form.Beside.{is_first, low_of}
use Rattle.chan_view.proofs.NearLaws.{Beside, own, low, high, Below, no-low, one-low, Above, no-high, one-high, below, above, near-beside, near-low, or_right}
use Rattle.state_bytes.specs.Form.Stored.{latest}
use Rattle.state_bytes.specs.Form.Tested.{all_stored, most_tag, tags_right}
use Rattle.state_bytes.proofs.NumberLaws.{stamp-stored, tag-valid, tag-planned, tag-closed}

-- ---- tests joined

pub and-shift : (a b c : Bool) → a && (b && c) ≡ b && (a && c)
and-shift true b c = refl
and-shift false b c = sym (and-false b)

-- ---- neighbours: each bank with the one below it

module _ (s : Settings) (state : ℕ → Bank) where
  abbrev pair : ℕ → ℕ → Bool
  pair x y = is_closed (state x) || is_closed (state y)

  abbrev low_right : ℕ → Bool
  low_right x = eqb (low_of s x) 32 || pair (low_of s x) x

  -- the neighbour below a bank is the bank before it
  before-is : (x : ℕ) → eqb (low_of s x) 32 ≡ false → low_of s x + 1 ≡ x
  before-is x e = go (below s x)
    where
      go : Below s x → low_of s x + 1 ≡ x
      go (no-low p q) = absurd (eqb-false (low_of s x) 32 e p)
      go (one-low p q) = p

  -- the first bank of a run has none below it
  low_first : (x : ℕ) → x < 32 → eqb (low_of s x) 32 ≡ is_first s.core x
  unfolding low_of
  low_first x l = go (is_first s.core x)
    where
      go : (q : Bool) → eqb (cond q 32 (x - 1)) 32 ≡ q
      go true = refl
      go false = ne_eqb (x - 1) 32 (λ z. omega arith)

  low-pair : (x y : ℕ) → x < 32 → y < 32 → y ≡ low_of s x → low_right x ≡ true → pair y x ≡ true
  low-pair x y lx ly e h = rw e (rw (ne_eqb (low_of s x) 32 (λ z. omega arith)) at h)

  pair-of-lows : (x y : ℕ) → x < 32 → y < 32 → (context_of s).nbr x y ≡ true → low_right x ≡ true → low_right y ≡ true → pair x y ≡ true
  pair-of-lows x y lx ly n hx hy = go (near-beside s x y (or_right (eqb y x) _ n)) (near-beside s y x (or_right (eqb x y) _ ((core-neighbours s).symmetric y x ∙ n))) (above s x) (above s y)
    where
      same : y ≡ x → pair x y ≡ true
      same e = not-both ((context_of s).nbr x y) n (rw e ((core-neighbours s).irreflexive x))

      go : Beside s x y → Beside s y x → Above s x → Above s y → pair x y ≡ true
      go (own e) q u v = same e
      go (low e) q u v = or_comm (is_closed (state x)) (is_closed (state y)) ∙ low-pair x y lx ly e hx
      go (high e) (own f) u v = same (sym f)
      go (high e) (low f) u v = low-pair y x ly lx f hy
      go (high e) (high f) (no-high p _) v = absurd (omega arith)
      go (high e) (high f) (one-high p _) (no-high q _) = absurd (omega arith)
      go (high e) (high f) (one-high p _) (one-high q _) = absurd (omega arith)

  low-of-pairs : (x : ℕ) → x < 32 → ((y : ℕ) → y < 32 → not ((context_of s).nbr x y) || pair x y ≡ true) → low_right x ≡ true
  low-of-pairs x l h = go (eqb (low_of s x) 32) refl
    where
      go : (q : Bool) → eqb (low_of s x) 32 ≡ q → q || pair (low_of s x) x ≡ true
      go true e = refl
      go false e =
          let p = before-is x e in
          let n : (context_of s).nbr x (low_of s x) ≡ true = rw (ne_eqb (low_of s x) x (λ z. omega arith)) at (near-low s x (omega arith)) in
          or_comm (is_closed (state (low_of s x))) (is_closed (state x)) ∙ (rw n at (h (low_of s x) (omega arith)))

  pub lows-apart : apart (context_of s) state ≡ all_up_to low_right 32
  unfolding apart bank_count
  lows-apart =
      iff-eq _ _
      (λ h. all-intro low_right 32 (λ x l. low-of-pairs x l (λ y m. all-at _ 32 y (all-at _ 32 x h l) m)))
      (λ h. all-intro _ 32 (λ x l. all-intro _ 32 (λ y m. go x y l m ((context_of s).nbr x y) refl (all-at low_right 32 x h l) (all-at low_right 32 y h m))))
    where
      go : (x y : ℕ) → x < 32 → y < 32 → (q : Bool) → (context_of s).nbr x y ≡ q → low_right x ≡ true → low_right y ≡ true → not q || pair x y ≡ true
      go x y l m true n hx hy = pair-of-lows x y l m n hx hy
      go x y l m false n hx hy = refl

-- ---- the planes

-- five tests at each of 32 indices
abbrev fives : (ℕ → Bool) → ℕ → Bool
fives f x = f x && (f (32 + x) && (f (64 + x) && (f (96 + x) && f (128 + x))))

five-at : (f : ℕ → Bool) (i : ℕ) → i < 160 → fives f (i % 32) ≡ true → f i ≡ true
five-at f i l h = go (i / 32) refl
  where
    t1 : f (32 + i % 32) && (f (64 + i % 32) && (f (96 + i % 32) && f (128 + i % 32))) ≡ true
    t1 = and_right (f (i % 32)) _ h

    t2 : f (64 + i % 32) && (f (96 + i % 32) && f (128 + i % 32)) ≡ true
    t2 = and_right (f (32 + i % 32)) _ t1

    t3 : f (96 + i % 32) && f (128 + i % 32) ≡ true
    t3 = and_right (f (64 + i % 32)) _ t2

    go : (k : ℕ) → i / 32 ≡ k → f i ≡ true
    go zero e = let q : i ≡ i % 32 = omega arith in ap f q ∙ and_left (f (i % 32)) _ h
    go (suc zero) e = let q : i ≡ 32 + i % 32 = omega arith in ap f q ∙ and_left (f (32 + i % 32)) _ t1
    go (suc (suc zero)) e = let q : i ≡ 64 + i % 32 = omega arith in ap f q ∙ and_left (f (64 + i % 32)) _ t2
    go (suc (suc (suc zero))) e = let q : i ≡ 96 + i % 32 = omega arith in ap f q ∙ and_left (f (96 + i % 32)) _ t3
    go (suc (suc (suc (suc k)))) e = let q : i ≡ 128 + i % 32 = omega arith in ap f q ∙ and_right (f (96 + i % 32)) _ t3

planes-join : (f : ℕ → Bool) → all_up_to f 160 ≡ all_up_to (fives f) 32
planes-join f =
    iff-eq _ _
    (λ h. all-intro (fives f) 32 (λ x l. rw (all-at f 160 x h (omega arith), all-at f 160 (32 + x) h (omega arith), all-at f 160 (64 + x) h (omega arith), all-at f 160 (96 + x) h (omega arith), all-at f 160 (128 + x) h (omega arith))))
    (λ h. all-intro f 160 (λ i l. five-at f i l (all-at (fives f) 32 (i % 32) h (omega arith))))

-- ---- the banks

module _ (s : Settings) (b : List ℕ) where
  abbrev pub cx : Context
  cx = context_of s

  abbrev pub tag_in : ℕ → ℕ
  tag_in x = number (part b (640 + 2 * x) 2)

  pub state-at : (x : ℕ) → x < 32 → state_of (channel_in b) x ≡ bank_in (tag_in x)
  unfolding channel_in bank_count track_in
  state-at x l = ap (λ t. t.bank) (tracks-at b 32 x l)

  -- a bank's instants, and its state
  track-tested : (x : ℕ) → x < 32 → track_valid cx (track_of (channel_in b) x)
      ≡ bank_valid cx (bank_in (tag_in x)) && fives (λ k. leb (number (part b (0 + 4 * k) 4)) latest) x
  unfolding channel_in bank_count track_in track_valid
  track-tested x l =
      let opened : 0 + 4 * x ≡ 4 * x = omega arith in
      let act : 0 + 4 * (32 + x) ≡ 128 + 4 * x = omega arith in
      let pre : 0 + 4 * (64 + x) ≡ 256 + 4 * x = omega arith in
      let rd : 0 + 4 * (96 + x) ≡ 384 + 4 * x = omega arith in
      let retire : 0 + 4 * (128 + x) ≡ 512 + 4 * x = omega arith in
      rw (
        opened,
        act,
        pre,
        rd,
        retire,
        tracks-at b 32 x l,
        stamp-stored (number (part b (4 * x) 4)),
        stamp-stored (number (part b (128 + 4 * x) 4)),
        stamp-stored (number (part b (256 + 4 * x) 4)),
        stamp-stored (number (part b (384 + 4 * x) 4)),
        stamp-stored (number (part b (512 + 4 * x) 4)),
      )

  abbrev pub rows_in : Bool
  rows_in = all_up_to (λ x. bank_valid cx (bank_in (tag_in x))) 32

  pub tracks-tested : all_up_to (λ x. track_valid cx (track_of (channel_in b) x)) 32 ≡ rows_in && all_stored b 0 160
  tracks-tested =
      let f : ℕ → Bool = λ k. leb (number (part b (0 + 4 * k) 4)) latest in
      all-ext _ _ 32 track-tested ∙ all-and (λ x. bank_valid cx (bank_in (tag_in x))) (fives f) 32 ∙ ap (λ t. rows_in && t) (sym (planes-join f))

  pub lasts-tested : lasts_valid (channel_in b) ≡ all_stored b 704 6
  unfolding channel_in lasts_in lasts_valid all_up_to
  lasts-tested =
      rw (
        stamp-stored (number (part b 704 4)),
        stamp-stored (number (part b 708 4)),
        stamp-stored (number (part b 712 4)),
        stamp-stored (number (part b 716 4)),
        stamp-stored (number (part b 720 4)),
        stamp-stored (number (part b 724 4)),
      )
      (simp and_assoc)

  -- the bank before bank x, by its tag
  abbrev beside_right : ℕ → Bool
  beside_right x = (is_first s.core x || eqb (number (part b (638 + 2 * x) 2)) 0) || eqb (tag_in x) 0

  beside_at : (x : ℕ) → x < 32 → low_right s (state_of (channel_in b)) x ≡ beside_right x
  beside_at x l = rw (sym (low_first s (state_of (channel_in b)) x l)) (go (eqb (low_of s x) 32) refl)
    where
      go : (q : Bool) → eqb (low_of s x) 32 ≡ q → q || pair s (state_of (channel_in b)) (low_of s x) x ≡ (q || eqb (number (part b (638 + 2 * x) 2)) 0) || eqb (tag_in x) 0
      go true e = refl
      go false e =
          let p = before-is s (state_of (channel_in b)) x e in
          let n : 640 + 2 * low_of s x ≡ 638 + 2 * x = omega arith in
          rw (state-at (low_of s x) (omega arith), state-at x l, tag-closed (tag_in (low_of s x)), tag-closed (tag_in x), n)

  apart-tested : apart cx (state_of (channel_in b)) ≡ all_up_to beside_right 32
  apart-tested = lows-apart s (state_of (channel_in b)) ∙ all-ext _ _ 32 beside_at

  -- the tags, where the test of a bank's own tag is another
  tags-as : (also : ℕ) (test : ℕ → Bool) → ((x : ℕ) → x < 32 → leb (tag_in x) (most_tag s.rows) || eqb (tag_in x) also ≡ test x)
      → tags_right s.rows s.core also b ≡ all_up_to test 32 && apart cx (state_of (channel_in b))
  tags-as also test h =
      all-and (λ x. leb (tag_in x) (most_tag s.rows) || eqb (tag_in x) also) beside_right 32
      ∙ ap₂ ◌&&◌ (all-ext _ test 32 h) (sym apart-tested)

  abbrev pub none-refreshed : Bool
  none-refreshed = all_up_to (λ x. not_refresh (state_of (channel_in b) x)) 32

  module _ (w : Bytes b) (l : 752 ≤ length b) where
    tag_fits : (x : ℕ) → x < 32 → tag_in x < 0x10000
    tag_fits x m = number_fits b (640 + 2 * x) 2 w (omega arith)

    pub model-tags : tags_right s.rows s.core 0xFFFF b ≡ (rows_in && true) && apart cx (state_of (channel_in b))
    unfolding context_of
    model-tags =
        tags-as 0xFFFF (λ x. bank_valid cx (bank_in (tag_in x))) (λ x m. tag-valid cx (tag_in x) (tag_fits x m))
        ∙ ap (λ t. t && apart cx (state_of (channel_in b))) (sym (and-true rows_in))

    pub planner-tags : tags_right s.rows s.core 0 b ≡ (rows_in && none-refreshed) && apart cx (state_of (channel_in b))
    unfolding context_of
    planner-tags =
        tags-as 0 (λ x. bank_valid cx (bank_in (tag_in x)) && not_refresh (state_of (channel_in b) x))
        (λ x m. tag-planned cx (tag_in x) (tag_fits x m) ∙ ap (λ k. bank_valid cx (bank_in (tag_in x)) && not_refresh k) (sym (state-at x m)))
        ∙ ap (λ t. t && apart cx (state_of (channel_in b))) (all-and (λ x. bank_valid cx (bank_in (tag_in x))) (λ x. not_refresh (state_of (channel_in b) x)) 32)

-- What is stored for a PRER or REFP that closes neighbours too is the state after it.
-- Assumes nothing.
use Prim.Native.Nat.{ℕ, ◌+◌, ◌*◌, ◌-◌, ◌^◌, ◌<◌, ◌≤◌}
use mathlib.Core.Path.{◌≡◌, refl, sym, ap, ◌∙◌}
use mathlib.Core.Bool.{Bool, true, false, cond, not, ◌||◌, ◌&&◌, or-true, or-false, and-false}
use mathlib.Core.List.{List, ◌++◌, append_assoc}
use native.Mathlib.Omega.{arith}
use borrow.Author.Tests.{eqb-true, ne_eqb, ltb-true, lt-ltb}
use lib.Dec.{eqb, ltb}
use lib.ListN.{length, length-append}
use Rattle.num.specs.Bytes.{bytes, number, part}
use Rattle.num.proofs.ByteLaws.{number-bytes}
use Rattle.num.proofs.PartLaws.{part_left, part_right, part-all}
use Rattle.packet.specs.declared.RowPacket.TheVariants.{Prer, Refp}
use Rattle.record.specs.declared.Record.TheVariants.{RowAt}
use Rattle.spec_rules.specs.declared.Bank.{Bank}
use Rattle.spec_rules.specs.declared.Bank.TheVariants.{Closed, Open, Refresh}
use Rattle.spec_rules.specs.declared.Channel.{Channel}
use Rattle.spec_rules.specs.Neighbour.{Context, near}
use Rattle.spec_rules.specs.Packets.{traits, row_traits, instant}
use Rattle.spec_rules.specs.History.{bank_by, is_closed, loads}
use Rattle.spec_rules.specs.Channel.{track_of, state_of, waiting_of, buffer_of, bank_next, track_next, after_packet, after}
use Rattle.spec_rules.proofs.TrackLaws.{buffer-waiting}
use Rattle.spec_state.specs.ChannelBytes.{bank_tag, plane, channel_bytes}
use Rattle.spec_state.specs.Valid.{bank_valid}
use Rattle.spec_state.specs.Form.Layout.{body, rest, Numbers, layout, with, figure_of, last_of_channel, numbers_of}
use Rattle.spec_state.specs.Form.Stores.{shut_stored, side_stored, prer_stored}
use Rattle.spec_state.proofs.PlaneLaws.{length-plane, plane-at}
use Rattle.spec_state.proofs.LayoutLaws.{put-pre, put-tag, put-716, layout-ext}
use Rattle.spec_state.proofs.StoreLaws.{WriteIn, by-numbers, next_numbers, next-bytes, pick, on, row-stored}

-- ---- a tag read off the bytes

tags-part : (n : Numbers) → part (layout n) 640 64 ≡ plane 2 n.tag 32
unfolding layout
tags-part n =
    let p : ℕ → List ℕ = λ k. plane 4 (n.figure k) 32 in
    let xs : List ℕ = p 0 ++ (p 1 ++ (p 2 ++ (p 3 ++ p 4))) in
    let r : List ℕ = rest (n.last 0) (n.last 1) (n.last 2) (n.last 3) (n.last 4) (n.last 5) n.count n.write n.second n.tail in
    let k : length xs ≡ 640 = simp (length-append, length-plane) in
    let g : length (plane 2 n.tag 32) ≡ 64 = length-plane 2 n.tag 32 in
    let join : body (n.figure 0) (n.figure 1) (n.figure 2) (n.figure 3) (n.figure 4) n.tag r ≡ xs ++ (plane 2 n.tag 32 ++ r) = simp append_assoc in
    ap (λ (b : List ℕ). part b 640 64) join
    ∙ part_right xs (plane 2 n.tag 32 ++ r) 640 0 64 k
    ∙ part_left (plane 2 n.tag 32) r 0 64 (omega arith)
    ∙ part-all (plane 2 n.tag 32) 64 (omega arith)

tag_at : (n : Numbers) (x : ℕ) → x < 32 → n.tag x < 256 ^ 2 → number (part (layout n) (640 + 2 * x) 2) ≡ n.tag x
tag_at n x l f = ap number (plane-at (layout n) 640 2 n.tag 32 x (tags-part n) l) ∙ number-bytes 2 (n.tag x) f

-- ---- banks closed one after the other

-- these numbers with other tags and other instants of PRER
abbrev pub shut : Numbers → (ℕ → ℕ) → (ℕ → ℕ) → Numbers
shut n tag pre =
    record { figure = λ j y. cond (eqb j 2) (pre y) (n.figure j y); tag = tag; last = n.last; count = n.count; write = n.write; second = n.second; tail = n.tail }

module _ (n : Numbers) (v : ℕ) where
  shut-stored : (tag pre : ℕ → ℕ) (x : ℕ) {b : List ℕ} → x < 32 → b ≡ layout (shut n tag pre) → shut_stored b x v ≡ layout (shut n (with tag x 0) (with pre x v))
  unfolding shut_stored
  shut-stored tag pre x l e =
      on (640 + 2 * x) (bytes 2 0) (on (256 + 4 * x) (bytes 4 v) e (put-pre _ v x l)) (put-tag _ 0 x l)
      ∙ layout-ext _ (shut n (with tag x 0) (with pre x v)) (λ i m. refl) (λ i m. refl) (λ i m. refl) (λ i m. refl) (λ i m. refl) (λ i m. refl) refl refl refl refl refl refl refl refl refl refl

  -- where a bank's tag is in its two bytes
  side-stored : (tag pre : ℕ → ℕ) (x : ℕ) (b : List ℕ) → (x < 32 → tag x < 256 ^ 2) → b ≡ layout (shut n tag pre)
      → side_stored b x v ≡ layout (shut n (λ i. cond ((ltb x 32 && not (eqb (tag x) 0)) && eqb i x) 0 (tag i)) (λ i. cond ((ltb x 32 && not (eqb (tag x) 0)) && eqb i x) v (pre i)))
  unfolding side_stored
  side-stored tag pre x b f e = go (ltb x 32) refl
    where
      closed : Bool → Numbers
      closed q = shut n (λ i. cond (q && eqb i x) 0 (tag i)) (λ i. cond (q && eqb i x) v (pre i))

      by-tag : (z : Bool) → x < 32 → cond (not z) (shut_stored b x v) b ≡ layout (closed (not z))
      by-tag true l = e
      by-tag false l = shut-stored tag pre x l e

      go : (q : Bool) → ltb x 32 ≡ q → cond (q && not (eqb (number (part b (640 + 2 * x) 2)) 0)) (shut_stored b x v) b ≡ layout (closed (q && not (eqb (tag x) 0)))
      go false h = e
      go true h =
          let l = ltb-true x 32 h in
          let r : number (part b (640 + 2 * x) 2) ≡ tag x = ap (λ (b : List ℕ). number (part b (640 + 2 * x) 2)) e ∙ tag_at (shut n tag pre) x l (f l) in
          rw r (by-tag (eqb (tag x) 0) l)

-- the banks of a set closed, by the tags and the instants of before; bank x has the new instant in any case
module _ (tag pre : ℕ → ℕ) (x v : ℕ) where
  abbrev pub tag_by : (ℕ → Bool) → ℕ → ℕ
  tag_by set i = cond (set i) 0 (tag i)

  abbrev pub pre_by : (ℕ → Bool) → ℕ → ℕ
  pre_by set i = cond (eqb i x || (set i && not (eqb (tag i) 0))) v (pre i)

  own-pre : (i : ℕ) → with pre x v i ≡ pre_by (λ i. eqb i x) i
  own-pre i = go (eqb i x)
    where
      go : (q : Bool) → cond q v (pre i) ≡ cond (q || (q && not (eqb (tag i) 0))) v (pre i)
      go true = refl
      go false = refl

  module _ (set : ℕ → Bool) (y i : ℕ) (l : i < 32) where
    abbrev shuts : Bool
    shuts = ltb y 32 && not (eqb (tag_by set y) 0)

    side-tag : cond (shuts && eqb i y) 0 (tag_by set i) ≡ tag_by (λ i. set i || eqb i y) i
    side-tag = go (eqb i y) refl
      where
        same : (s z : Bool) → eqb (tag y) 0 ≡ z → cond (not (eqb (cond s 0 (tag y)) 0) && true) 0 (cond s 0 (tag y)) ≡ cond (s || true) 0 (tag y)
        same true z e = refl
        same false true e = rw e (eqb-true (tag y) 0 e)
        same false false e = rw e

        go : (q : Bool) → eqb i y ≡ q → cond (shuts && q) 0 (tag_by set i) ≡ cond (set i || q) 0 (tag i)
        go false h = rw (and-false shuts, or-false (set i))
        go true h = let e = eqb-true i y h in rw (e, lt-ltb y 32 (omega arith)) (same (set y) (eqb (tag y) 0) refl)

    side-pre : cond (shuts && eqb i y) v (pre_by set i) ≡ pre_by (λ i. set i || eqb i y) i
    side-pre = go (eqb i y) refl
      where
        same : (s z : Bool) → eqb (tag y) 0 ≡ z
            → cond (not (eqb (cond s 0 (tag y)) 0) && true) v (cond (eqb y x || (s && not (eqb (tag y) 0))) v (pre y)) ≡ cond (eqb y x || ((s || true) && not (eqb (tag y) 0))) v (pre y)
        same true z e = refl
        same false true e = rw e
        same false false e = rw (e, or-true (eqb y x))

        go : (q : Bool) → eqb i y ≡ q → cond (shuts && q) v (pre_by set i) ≡ cond (eqb i x || ((set i || q) && not (eqb (tag i) 0))) v (pre i)
        go false h = rw (and-false shuts, or-false (set i))
        go true h = let e = eqb-true i y h in rw (e, lt-ltb y 32 (omega arith)) (same (set y) (eqb (tag y) 0) refl)

-- ---- a bank and its two sides closed

tag-closed : (k : Bank) → eqb (bank_tag k) 0 ≡ is_closed k
unfolding bank_tag is_closed
tag-closed Closed = refl
tag-closed (Open r) = ne_eqb (r + 1) 0 (λ z. omega arith)
tag-closed Refresh = refl

tag-shut : (q : Bool) (k : Bank) → cond q 0 (bank_tag k) ≡ bank_tag (cond q Closed k)
unfolding bank_tag
tag-shut true k = refl
tag-shut false k = refl

-- rows are at most 512
pub tag_fits : (cx : Context) (k : Bank) → cx.settings.rows ≤ 512 → bank_valid cx k ≡ true → bank_tag k < 256 ^ 2
unfolding bank_tag bank_valid
tag_fits cx Closed m h = omega arith
tag_fits cx (Open r) m h = let l = ltb-true r cx.settings.rows h in omega arith
tag_fits cx Refresh m h = omega arith

module _ (cx : Context) (ch : Channel) (q : List ℕ) (i : WriteIn ch.buffer) (x t : ℕ) (l : x < 32)
    (low high : ℕ) (sides : (y : ℕ) → y < 32 → (eqb y x || eqb y low) || eqb y high ≡ near cx x y) (fits : (y : ℕ) → y < 32 → bank_tag (state_of ch y) < 256 ^ 2) where
  abbrev pub tags : ℕ → ℕ
  tags y = bank_tag (state_of ch y)

  abbrev pub pres : ℕ → ℕ
  pres y = (track_of ch y).pre.0 - 3

  -- the banks of a set closed
  abbrev pub closed : (ℕ → Bool) → Numbers
  closed set = shut (numbers_of ch q) (tag_by tags pres x (t - 3) set) (pre_by tags pres x (t - 3) set)

  own-closed : shut_stored (channel_bytes ch ++ q) x (t - 3) ≡ layout (closed (λ y. eqb y x))
  unfolding numbers_of figure_of
  own-closed =
      shut-stored (numbers_of ch q) (t - 3) tags pres x l
      (by-numbers ch q i ∙ layout-ext _ (shut (numbers_of ch q) tags pres) (λ y m. refl) (λ y m. refl) (λ y m. refl) (λ y m. refl) (λ y m. refl) (λ y m. refl) refl refl refl refl refl refl refl refl refl refl)
      ∙ layout-ext _ (closed (λ y. eqb y x)) (λ y m. refl) (λ y m. refl) (λ y m. own-pre tags pres x (t - 3) y) (λ y m. refl) (λ y m. refl) (λ y m. refl) refl refl refl refl refl refl refl refl refl refl

  small : (set : Bool) (n : ℕ) → n < 256 ^ 2 → cond set 0 n < 256 ^ 2
  small true n h = omega arith
  small false n h = h

  side-closed : (set : ℕ → Bool) (y : ℕ) (b : List ℕ) → b ≡ layout (closed set) → side_stored b y (t - 3) ≡ layout (closed (λ z. set z || eqb z y))
  side-closed set y b h =
      side-stored (numbers_of ch q) (t - 3) (tag_by tags pres x (t - 3) set) (pre_by tags pres x (t - 3) set) y b (λ m. small (set y) (tags y) (fits y m)) h
      ∙ layout-ext _ (closed (λ z. set z || eqb z y)) (λ z m. refl) (λ z m. refl) (λ z m. side-pre tags pres x (t - 3) set y z m) (λ z m. refl) (λ z m. refl) (λ z m. side-tag tags pres x (t - 3) set y z m) refl refl refl refl refl refl refl refl refl refl

  pub near-pre : (y : ℕ) → y < 32 → pre_by tags pres x (t - 3) (λ z. (eqb z x || eqb z low) || eqb z high) y
      ≡ (cond (eqb y x || (near cx x y && not (is_closed (state_of ch y)))) (record { 0 = t }) (track_of ch y).pre).0 - 3
  near-pre y m = rw (sides y m, tag-closed (state_of ch y)) (pick (eqb y x || (near cx x y && not (is_closed (state_of ch y)))) (record { 0 = t }) (track_of ch y).pre)

  pub near-tag : (y : ℕ) → y < 32 → tag_by tags pres x (t - 3) (λ z. (eqb z x || eqb z low) || eqb z high) y ≡ bank_tag (cond (near cx x y) Closed (state_of ch y))
  near-tag y m = rw (sides y m) (tag-shut (near cx x y) (state_of ch y))

  pub all_closed : side_stored (side_stored (shut_stored (channel_bytes ch ++ q) x (t - 3)) low (t - 3)) high (t - 3) ≡ layout (closed (λ z. (eqb z x || eqb z low) || eqb z high))
  all_closed = side-closed (λ z. eqb z x || eqb z low) high _ (side-closed (λ z. eqb z x) low _ own-closed)

-- ---- PRER and REFP, where no data are due

module _ (cx : Context) (ch : Channel) (q : List ℕ) (e : length ch.banks ≡ 32) (i : WriteIn ch.buffer) (d : ch.due ≡ false) (x t : ℕ) (l : x < 32)
    (low high : ℕ) (sides : (y : ℕ) → y < 32 → (eqb y x || eqb y low) || eqb y high ≡ near cx x y) (fits : (y : ℕ) → y < 32 → bank_tag (state_of ch y) < 256 ^ 2) where
  same_write : WriteIn (buffer_of (waiting_of ch.buffer))
  same_write = rw (buffer-waiting ch.buffer) i

  -- PRER to a bank with these two on its sides
  pub prer-all-stored : prer_stored (channel_bytes ch ++ q) x low high (t - 3) ≡ channel_bytes (after cx ch (RowAt (record { 0 = t }) (Prer x))) ++ q
  unfolding prer_stored after after_packet track_next traits row_traits bank_next bank_by instant figure_of last_of_channel loads numbers_of
  prer-all-stored =
      row-stored _ (t - 3) (on 716 (bytes 4 (t - 3)) (all_closed cx ch q i x t l low high sides fits) (put-716 _ (t - 3)))
      ∙ layout-ext _ (next_numbers cx ch (RowAt (record { 0 = t }) (Prer x)) q) (λ y m. refl) (λ y m. refl) (near-pre cx ch q i x t l low high sides fits) (λ y m. refl) (λ y m. refl) (near-tag cx ch q i x t l low high sides fits) refl refl refl refl refl refl
      (rw (buffer-waiting ch.buffer, d)) (rw (buffer-waiting ch.buffer)) (rw (buffer-waiting ch.buffer)) refl
      ∙ sym (next-bytes cx ch (RowAt (record { 0 = t }) (Prer x)) q e same_write)

  pub refp-all-stored : prer_stored (channel_bytes ch ++ q) x low high (t - 3) ≡ channel_bytes (after cx ch (RowAt (record { 0 = t }) (Refp x))) ++ q
  unfolding prer_stored after after_packet track_next traits row_traits bank_next bank_by instant figure_of last_of_channel loads numbers_of
  refp-all-stored =
      row-stored _ (t - 3) (on 716 (bytes 4 (t - 3)) (all_closed cx ch q i x t l low high sides fits) (put-716 _ (t - 3)))
      ∙ layout-ext _ (next_numbers cx ch (RowAt (record { 0 = t }) (Refp x)) q) (λ y m. refl) (λ y m. refl) (near-pre cx ch q i x t l low high sides fits) (λ y m. refl) (λ y m. refl) (near-tag cx ch q i x t l low high sides fits) refl refl refl refl refl refl
      (rw (buffer-waiting ch.buffer, d)) (rw (buffer-waiting ch.buffer)) (rw (buffer-waiting ch.buffer)) refl
      ∙ sym (next-bytes cx ch (RowAt (record { 0 = t }) (Refp x)) q e same_write)

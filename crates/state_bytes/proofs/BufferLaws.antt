-- What is tested of the buffer's bytes, and of the channel's, is what is asked of the bytes and of the state that they say.
-- Assumes nothing.
use Prim.Native.Nat.{ℕ, ◌+◌, ◌*◌, ◌%◌, ◌<◌, ◌≤◌}
use mathlib.Core.Path.{◌≡◌, refl, sym, ap, ap₂}
use mathlib.Core.Bool.{Bool, true, false, not, ◌&&◌, ◌||◌, cond, and_assoc, and_comm, and-true, and-false, or-false, or-true, or_self}
use mathlib.Core.List.{List}
use native.Mathlib.Omega.{arith}
use borrow.Author.Tests.{eqb-true, eqb-false, eq-eqb, ne_eqb, leb-true, leb-false, le-leb, lt-leb, ltb-true}
use lib.Dec.{eqb, leb, ltb}
use lib.ListN.{length, get_or}
use Rattle.num.specs.Bytes.{number, part, Bytes}
use Rattle.settings.specs.declared.Settings.{Settings}
use Rattle.spec_rules.specs.Neighbour.{bank_count, context_of}
use Rattle.spec_rules.specs.History.{is_open, any_write, all_writes}
use Rattle.spec_rules.specs.Channel.{state_of, waiting_of}
use Rattle.spec_rules.proofs.Bools.{not-both}
use Rattle.spec_state.specs.Valid.{write_valid, apart, channel_valid}
use Rattle.spec_state.specs.ChannelBytes.{tracks_in, write_in, buffer_in, channel_in, zero_part, close_right, channel_spare}
use Rattle.spec_state.proofs.PlaneLaws.{length-tracks}
use Rattle.state_bytes.specs.Form.Stored.{latest}
use Rattle.state_bytes.specs.Form.Tested.{all_stored, tags_right, write_right, buffer_right, channel_tested}
use Rattle.state_bytes.proofs.NumberLaws.{instant-stored, tag_open, count-parts, count-is}
use Rattle.state_bytes.proofs.TestedLaws.{and-shift, cx, tag_in, state-at, rows_in, tracks-tested, lasts-tested}

-- ---- how many writes wait, and whether data are due

up-to-one : (x : ℕ) → leb x 1 ≡ eqb x 0 || eqb x 1
up-to-one x = go (eqb x 0) refl (eqb x 1) refl
  where
    go : (p : Bool) → eqb x 0 ≡ p → (q : Bool) → eqb x 1 ≡ q → leb x 1 ≡ p || q
    go true e q f = le-leb x 1 (omega (arith, eqb-true x 0 e))
    go false e true f = le-leb x 1 (omega (arith, eqb-true x 1 f))
    go false e false f = lt-leb x 1 (omega (arith, eqb-false x 0 e, eqb-false x 1 f))

up-to-two : (x : ℕ) → leb x 2 ≡ (eqb x 0 || eqb x 1) || eqb x 2
up-to-two x = go (leb x 1) refl (eqb x 2) refl
  where
    go : (p : Bool) → leb x 1 ≡ p → (q : Bool) → eqb x 2 ≡ q → leb x 2 ≡ (eqb x 0 || eqb x 1) || q
    go true e q f = rw (← up-to-one x, e) (le-leb x 2 (omega (arith, leb-true x 1 e)))
    go false e true f = rw (← up-to-one x, e) (le-leb x 2 (omega (arith, eqb-true x 2 f)))
    go false e false f = rw (← up-to-one x, e) (lt-leb x 2 (omega (arith, leb-false x 1 e, eqb-false x 2 f)))

-- a number is not two others
not-two : (x m n : ℕ) → m < n → eqb x m && eqb x n ≡ false
not-two x m n l = go (eqb x m) refl
  where
    go : (p : Bool) → eqb x m ≡ p → p && eqb x n ≡ false
    go true e = ne_eqb x n (λ z. omega (arith, eqb-true x m e))
    go false e = refl

may-below : (may : Bool) → cond may 1 0 < 2
may-below true = omega arith
may-below false = omega arith

may-is : (may : Bool) (d : ℕ) → eqb d (cond may 1 0) ≡ cond may (eqb d 1) (eqb d 0)
may-is true d = refl
may-is false d = refl

-- where no write waits data are not due, else they are not or may be
none-due : (n d z : Bool) → n && d ≡ false → n && z ≡ ((n || d) && z) && not d
none-due true true z e = not-both true refl e
none-due true false z e = sym (and-true z)
none-due false true z e = sym (and-false z)
none-due false false z e = refl

may-due : (k n d may z : Bool) → n && d ≡ false → (k && (n && z)) || (k && (cond may d n && z)) ≡ k && (((n || d) && z) && (may || not d))
may-due false n d may z e = refl
may-due true true true may z e = not-both true refl e
may-due true true false true z e = rw (or-false z, and-true z)
may-due true true false false z e = rw (or_self z, and-true z)
may-due true false true true z e = sym (and-true z)
may-due true false true false z e = sym (and-false z)
may-due true false false true z e = refl
may-due true false false false z e = refl

none-shuffle : (d due may a x q : Bool) → cond (d && not due) (a && x) (false && q) ≡ (d && ((a && x) && not due)) && (may || not due)
none-shuffle true true may a x q = rw (and-false (a && x))
none-shuffle true false may a x q = rw (or-true may) (simp (and-true, and_assoc))
none-shuffle false due may a x q = refl

one-shuffle : (d m b v x q : Bool) → cond (d && m) ((b && v) && x) (((b && v) && false) && q) ≡ (d && ((b && x) && v)) && m
one-shuffle true true b v x q = simp (and-true, and_assoc, and_comm, and-shift)
one-shuffle true false b v x q = rw (and-false (b && v), and-false ((b && x) && v))
one-shuffle false m b v x q = rw (and-false (b && v))

two-shuffle : (two d m b v y w : Bool) → ((b && v) && (two && (d && m))) && (y && w) ≡ ((two && d) && ((b && y) && (v && w))) && m
two-shuffle two d m b v y w = simp (and_assoc, and_comm, and-shift)

-- the buffer's tests by the number of writes: what is asked of the older's bytes and of the newer's, unused or used, and of the writes
by-counts : (none one two due may d older first newer second v w : Bool) → none && one ≡ false → none && two ≡ false → one && two ≡ false
    → cond (none && (d && not due)) (older && newer)
    (cond (one && (d && (may || not due))) ((first && v) && newer) (((first && v) && (two && (d && (may || not due)))) && (second && w)))
    ≡ ((((none || one) || two) && d) && ((cond none older first && cond (none || one) newer second) && cond none (not due) (cond one v (v && w)))) && (may || not due)
by-counts true true two due may d a b x y v w e f g = not-both true refl e
by-counts true false true due may d a b x y v w e f g = not-both true refl f
by-counts true false false due may d a b x y v w e f g = rw (and-false (b && v)) (none-shuffle d due may a x (y && w))
by-counts false true true due may d a b x y v w e f g = not-both true refl g
by-counts false true false due may d a b x y v w e f g = one-shuffle d (may || not due) b v x (y && w)
by-counts false false two due may d a b x y v w e f g = two-shuffle two d (may || not due) b v y w

-- what a write may say of its bank: 0, or 1 where it may close it
close-most : (n : ℕ) (may : Bool) → leb n (cond may 1 0) ≡ leb n 1 && (may || not (eqb n 1))
close-most n true = sym (and-true (leb n 1))
close-most n false = go (eqb n 0) refl (eqb n 1) refl
  where
    go : (p : Bool) → eqb n 0 ≡ p → (q : Bool) → eqb n 1 ≡ q → leb n 0 ≡ leb n 1 && not q
    go true e true f = absurd (omega (arith, eqb-true n 0 e, eqb-true n 1 f))
    go true e false f = rw (le-leb n 0 (omega (arith, eqb-true n 0 e)), le-leb n 1 (omega (arith, eqb-true n 0 e)))
    go false e true f = rw (and-false (leb n 1)) (lt-leb n 0 (omega (arith, eqb-true n 1 f)))
    go false e false f =
        rw (lt-leb n 0 (omega (arith, eqb-false n 0 e)), lt-leb n 1 (omega (arith, eqb-false n 0 e, eqb-false n 1 f)))

-- ---- the writes

module _ (s : Settings) (b : List ℕ) where
  -- a waiting write: its fields, and its bank
  abbrev write-valid : ℕ → Bool
  write-valid p = write_valid (cx s b) (write_in b p)

  abbrev write-open : ℕ → Bool
  write-open p = is_open (state_of (channel_in b) (get_or b p 0))

  abbrev closes : ℕ → Bool
  closes p = eqb (number (part b (p + 2) 2)) 1

  write-tested : (may : Bool) (p : ℕ) → write_right s.columns (cond may 1 0) b p ≡ close_right b p && ((may || not (closes p)) && (write-valid p && write-open p))
  unfolding write_right write_valid bank_count context_of
  write-tested may p = go (ltb (get_or b p 0) 32) refl
    where
      at : ℕ
      at = number (part b (p + 4) 4)

      go : (q : Bool) → ltb (get_or b p 0) 32 ≡ q → write_right s.columns (cond may 1 0) b p ≡ close_right b p && ((may || not (closes p)) && (write-valid p && write-open p))
      go true e =
          let tag : ℕ = tag_in s b (get_or b p 0) in
          let slot : get_or b p 0 % 32 ≡ get_or b p 0 = omega (arith, ltb-true (get_or b p 0) 32 e) in
          rw (e, slot, close-most (number (part b (p + 2) 2)) may, instant-stored at, state-at s b (get_or b p 0) (ltb-true _ 32 e), tag_open tag)
          (shuffle (ltb (get_or b (p + 1) 0) s.columns) (close_right b p) (may || not (closes p)) (not (eqb tag 0)) (not (eqb tag 0xFFFF)) (not (eqb at 0)) (leb at latest))
        where
          shuffle : (c z m o r a l : Bool) → ((((c && (z && m)) && o) && r) && a) && l ≡ z && (m && ((c && (a && l)) && (o && r)))
          shuffle c z m o r a l = simp (and_assoc, and_comm, and-shift)
      go false e = rw (e, and-false (may || not (closes p))) (sym (and-false (close_right b p)))

  abbrev waits-valid : Bool
  waits-valid = all_writes (write_valid (cx s b)) (waiting_of (buffer_in b))

  abbrev waits-open : Bool
  waits-open = all_writes (λ w. is_open (state_of (channel_in b) w.bank)) (waiting_of (buffer_in b))

  abbrev due-right : Bool
  due-right = not (eqb (get_or b 729 0) 1) || any_write (λ w. true) (waiting_of (buffer_in b))

  -- no write closes its bank
  abbrev pub none-closes : Bool
  none-closes = not (any_write (λ w. w.close) (waiting_of (buffer_in b)))

  module _ (may : Bool) where
    abbrev asked : ℕ → Bool
    asked p = (may || not (closes p)) && (write-valid p && write-open p)

    -- by the number of writes that wait
    waits-as : (p q : Bool) → eqb (get_or b 728 0) 0 ≡ p → eqb (get_or b 728 0) 1 ≡ q
        → (waits-valid && (waits-open && due-right)) && (may || none-closes) ≡ cond p (not (eqb (get_or b 729 0) 1)) (cond q (asked 736) (asked 736 && asked 744))
    unfolding buffer_in waiting_of
    waits-as true q e f = rw (e, or-true may, and-true (not (eqb (get_or b 729 0) 1) || false)) (or-false (not (eqb (get_or b 729 0) 1)))
    waits-as false true e f =
        rw (e, f, or-true (not (eqb (get_or b 729 0) 1)), or-false (closes 736)) (one (write-valid 736) (write-open 736) (may || not (closes 736)))
      where
        one : (v o m : Bool) → ((v && true) && ((o && true) && true)) && m ≡ m && (v && o)
        one v o m = simp (and-true, and_assoc, and_comm, and-shift)
    waits-as false false e f =
        rw (e, f, or-true (not (eqb (get_or b 729 0) 1)), or-false (closes 744), neither may (closes 736) (closes 744))
        (both (write-valid 736) (write-valid 744) (write-open 736) (write-open 744) (may || not (closes 736)) (may || not (closes 744)))
      where
        neither : (may p q : Bool) → may || not (p || q) ≡ (may || not p) && (may || not q)
        neither true p q = refl
        neither false true q = refl
        neither false false q = refl

        both : (v w o p m n : Bool) → ((v && (w && true)) && ((o && (p && true)) && true)) && (m && n) ≡ (m && (v && o)) && (n && (w && p))
        both v w o p m n = simp (and-true, and_assoc, and_comm, and-shift)

  abbrev count-right : Bool
  count-right = leb (get_or b 728 0) 2 && (leb (get_or b 729 0) 1 && zero_part b 730 6)

  abbrev spare-right : Bool
  spare-right = cond (eqb (get_or b 728 0) 0) (zero_part b 736 8) (close_right b 736) && cond (leb (get_or b 728 0) 1) (zero_part b 744 8) (close_right b 744)

  module _ (w : Bytes b) (l : 752 ≤ length b) where
    -- where the counts 257 and 258 may be, and writes that close their bank, or not
    held-tested : (may : Bool) → buffer_right s.columns (256 * cond may 1 0) (cond may 1 0) b
        ≡ (count-right && (spare-right && ((waits-valid && (waits-open && due-right)) && (may || none-closes)))) && (may || not (eqb (get_or b 729 0) 1))
    unfolding buffer_right
    held-tested may =
        let n : ℕ = get_or b 728 0 in
        let d : ℕ = get_or b 729 0 in
        let z : ℕ = number (part b 730 6) in
        let is : (m e : ℕ) → m < 3 → e < 2 → eqb (number (part b 728 8)) (m + 256 * e) ≡ eqb n m && (eqb d e && eqb z 0) =
        λ m e lm le. rw (count-parts b l) (count-is n d z m e (w 728 (omega arith)) (omega arith) le (w 729 (omega arith))) in
        let nd : eqb d 0 && eqb d 1 ≡ false = not-two d 0 1 (omega arith) in
        rw (
          is 0 0 (omega arith) (omega arith),
          is 1 0 (omega arith) (omega arith),
          is 2 0 (omega arith) (omega arith),
          is 1 (cond may 1 0) (omega arith) (may-below may),
          is 2 (cond may 1 0) (omega arith) (may-below may),
          may-is may d,
          may-due (eqb n 1) (eqb d 0) (eqb d 1) may (eqb z 0) nd,
          may-due (eqb n 2) (eqb d 0) (eqb d 1) may (eqb z 0) nd,
          none-due (eqb d 0) (eqb d 1) (eqb z 0) nd,
          up-to-two n,
          up-to-one n,
          up-to-one d,
          waits-as may (eqb n 0) (eqb n 1) refl refl,
          write-tested may 736,
          write-tested may 744,
        )
        (by-counts (eqb n 0) (eqb n 1) (eqb n 2) (eqb d 1) may ((eqb d 0 || eqb d 1) && eqb z 0) (zero_part b 736 8) (close_right b 736) (zero_part b 744 8) (close_right b 744) (asked may 736) (asked may 744)
        (not-two n 0 1 (omega arith)) (not-two n 0 2 (omega arith)) (not-two n 1 2 (omega arith)))

-- ---- the channel

-- with what a planner asks besides, or a model
all-parts : (P L R A N C W O D E F K : Bool)
    → ((P && L) && ((R && E) && A)) && ((N && (C && ((W && (O && D)) && K))) && F)
    ≡ ((N && C) && (((R && P) && (L && W)) && (A && (O && D)))) && (E && (K && F))
all-parts P L R A N C W O D E F K = simp (and_assoc, and_comm, and-shift)

module _ (s : Settings) (b : List ℕ) where
  valid-parts : channel_valid (context_of s) (channel_in b)
      ≡ ((rows_in s b && all_stored b 0 160) && (all_stored b 704 6 && waits-valid s b)) && (apart (context_of s) (state_of (channel_in b)) && (waits-open s b && due-right s b))
  unfolding channel_valid bank_count channel_in
  valid-parts =
      let n : eqb (length (tracks_in b 32)) 32 ≡ true = eq-eqb _ 32 (length-tracks b 32) in
      ap₂ (λ p q. p && (apart (context_of s) (state_of (channel_in b)) && q)) (ap₂ ◌&&◌ n (ap₂ ◌&&◌ (tracks-tested s b) (ap (λ q. q && waits-valid s b) (lasts-tested s b)))) refl

  -- where data may be due and writes close their banks, or not, and the test of tags asks more
  pub channel-as : (may : Bool) (also : ℕ) (more : Bool) → Bytes b → 752 ≤ length b → tags_right s.rows s.core also b ≡ (rows_in s b && more) && apart (context_of s) (state_of (channel_in b))
      → channel_tested s also (256 * cond may 1 0) (cond may 1 0) b
      ≡ (channel_spare b && channel_valid (context_of s) (channel_in b)) && (more && ((may || none-closes s b) && (may || not (eqb (get_or b 729 0) 1))))
  unfolding channel_tested channel_spare
  channel-as may also more w l h =
      rw (h, held-tested s b w l may, valid-parts)
      (all-parts (all_stored b 0 160) (all_stored b 704 6) (rows_in s b) (apart (context_of s) (state_of (channel_in b))) (count-right s b) (spare-right s b)
      (waits-valid s b) (waits-open s b) (due-right s b) more (may || not (eqb (get_or b 729 0) 1)) (may || none-closes s b))

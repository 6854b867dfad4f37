-- Laws of a whole listing: its two cases, each of a text and the last line.
-- Assumes nothing.
use Prim.Native.Nat.{ℕ, ◌/◌, ◌%◌, ◌≤◌, ◌<◌}
use mathlib.Core.Path.{◌≡◌, refl, ap}
use mathlib.Core.Bool.{Bool, true, false}
use mathlib.Core.List.{List}
use native.Mathlib.Omega.{arith}
use borrow.Author.Tests.{leb-true, leb-false, lt-leb, eqb-true}
use lib.Dec.{leb, eqb}
use lib.ListN.{length, take}
use lib.Seq.{take_all, length-take-le}
use Rattle.spec_rules.proofs.Bools.{and_left, and_right}
use Rattle.listing_text.specs.Text.{Put, refused_line, records_line}
use Rattle.listing.specs.Entries.{records_listed, text_up_to, longest_input}
use Rattle.listing.specs.Listing.{length_right, listing}
use Rattle.listing_text.proofs.TextLaws.{put_then}

pub length-fits : (n : ℕ) → length_right n ≡ true → n ≤ longest_input
unfolding length_right
length-fits n h = leb-true n longest_input (and_left (leb n longest_input) (eqb (n % 24) 0) h)

pub length_whole : (n : ℕ) → length_right n ≡ true → n % 24 ≡ 0
unfolding length_right
length_whole n h = eqb-true (n % 24) 0 (and_right (leb n longest_input) (eqb (n % 24) 0) h)

length_over : (n : ℕ) → longest_input < n → length_right n ≡ false
unfolding length_right
length_over n h = rw (lt-leb n longest_input h)

-- a buffer of more bytes than the longest input takes enough of an input: what it does not take alters no listing
listing-first : (room : ℕ) (input : List ℕ) → longest_input < room → listing (take room input) ≡ listing input
unfolding listing
listing-first room input h = go (leb (length input) room) refl
  where
    go : (q : Bool) → leb (length input) room ≡ q → listing (take room input) ≡ listing input
    go true e = ap listing (take_all room input (leb-true _ _ e))
    go false e =
        let longer : room < length input = leb-false _ _ e in
        rw (length-take-le room input (omega arith), length_over room h, length_over (length input) (omega arith))

pub listed-first : (l read input : List ℕ) (room : ℕ) {m : List ℕ} {end : ℕ} → longest_input < room → take room input ≡ read → Put l 0 (listing read) m end → Put l 0 (listing input) m end
listed-first l read input room h r p = rw (← listing-first room input h, r) p

pub listed : (l input : List ℕ) (records : ℕ) {m n : List ℕ} {at end : ℕ} → at ≤ length l → length_right (length input) ≡ true
    → records ≡ length (records_listed input (length input / 24)) → Put l 0 (text_up_to input (length input / 24)) m at → Put m at (records_line records) n end → Put l 0 (listing input) n end
unfolding listing
listed l input records h r e p q = rw (r, ← e) (put_then l 0 (text_up_to input (length input / 24)) (records_line records) (omega (arith, p.0)) p q)

pub turned-back : (l input : List ℕ) {m n : List ℕ} {at end : ℕ} → at ≤ length l → length_right (length input) ≡ false
    → Put l 0 (refused_line 13) m at → Put m at (records_line 0) n end → Put l 0 (listing input) n end
unfolding listing
turned-back l input h r p q = rw r (put_then l 0 (refused_line 13) (records_line 0) (omega (arith, p.0)) p q)

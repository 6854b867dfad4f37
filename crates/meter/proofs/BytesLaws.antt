-- The bytes of a meter: those that are written are read back, and 136 bytes that are read are written back as they were.
-- Assumes nothing.
use Prim.Native.Nat.{ℕ, zero, suc, ◌+◌, ◌*◌, ◌^◌, ◌<◌, ◌≤◌}
use mathlib.Core.Path.{◌≡◌, refl, sym, ap, ◌∙◌}
use mathlib.Core.List.{List, [], ◌∷◌, ◌++◌}
use mathlib.Core.Logic.{⊎_elim}
use native.Mathlib.Nat.{eq-or-lt_of_le, le_of_suc-le-suc}
use native.Mathlib.Omega.{arith}
use lib.ListN.{length, take, get_or, length-append, get_or-append}
use lib.Seq.{take-suc, take_all, take-add, get_or_at}
use Rattle.num.specs.Bytes.{bytes, number, part, Bytes}
use Rattle.num.proofs.ByteLaws.{length-bytes, number-bytes}
use Rattle.num.proofs.PartLaws.{part_left, part-seam, bytes-part}
use Rattle.meter.specs.declared.Meter.{Meter}
use Rattle.meter.specs.MeterBytes.{word_bytes, meter_bytes, words_in, meter_in, Held}

length-word_bytes : (ws : List ℕ) (n : ℕ) → length (word_bytes ws n) ≡ 8 * n
unfolding word_bytes
length-word_bytes ws zero = refl
length-word_bytes ws (suc n) = simp (length-append, length-word_bytes ws n, length-bytes) (omega arith)

-- word k of n
part-word_bytes : (ws : List ℕ) (n k : ℕ) → k < n → part (word_bytes ws n) (8 * k) 8 ≡ bytes 8 (get_or ws k 0)
unfolding word_bytes
part-word_bytes ws zero k h = absurd (omega arith)
part-word_bytes ws (suc n) k h =
    ⊎_elim
    (λ e. rw e (part-seam (word_bytes ws n) (bytes 8 (get_or ws n 0)) (8 * n) 8 (length-word_bytes ws n) ∙ take_all 8 (bytes 8 (get_or ws n 0)) (rw length-bytes (omega arith))))
    (λ (l : k < n). part_left (word_bytes ws n) (bytes 8 (get_or ws n 0)) (8 * k) 8 (rw length-word_bytes (omega arith)) ∙ part-word_bytes ws n k l)
    (eq-or-lt_of_le (le_of_suc-le-suc h))

words_back : (ws rest : List ℕ) (n k : ℕ) → n ≤ length ws → k ≤ n → ((k : ℕ) → get_or ws k 0 < 2 ^ 64) → words_in (word_bytes ws n ++ rest) k ≡ take k ws
unfolding words_in
words_back ws rest n zero l h f = refl
words_back ws rest n (suc k) l h f =
    let p : part (word_bytes ws n ++ rest) (8 * k) 8 ≡ bytes 8 (get_or ws k 0) =
    part_left (word_bytes ws n) rest (8 * k) 8 (rw length-word_bytes (omega arith)) ∙ part-word_bytes ws n k (omega arith) in
    rw (words_back ws rest n k l (omega arith) f, p, number-bytes 8 (get_or ws k 0) (f k)) (sym (take-suc ws k 0 (omega arith)))

pub meter-decode-encode : (m : Meter) → Held m → meter_in (meter_bytes m) ≡ m
unfolding meter_in meter_bytes
meter-decode-encode m h =
    let w : words_in (word_bytes m.marks 16 ++ bytes 8 m.newest) 16 ≡ m.marks =
    words_back m.marks (bytes 8 m.newest) 16 16 (omega (arith, h.words)) (omega arith) h.word ∙ take_all 16 m.marks (omega (arith, h.words)) in
    let n : number (part (word_bytes m.marks 16 ++ bytes 8 m.newest) 128 8) ≡ m.newest =
    ap number (part-seam (word_bytes m.marks 16) (bytes 8 m.newest) 128 8 (length-word_bytes m.marks 16) ∙ take_all 8 (bytes 8 m.newest) (rw length-bytes (omega arith))) ∙ number-bytes 8 m.newest h.newest in
    rw (w, n)

-- ---- the other way

length-words_in : (b : List ℕ) (n : ℕ) → length (words_in b n) ≡ n
unfolding words_in
length-words_in b zero = refl
length-words_in b (suc n) = simp (length-append, length-words_in b n) (omega arith)

get_or-words_in : (b : List ℕ) (n k : ℕ) → k < n → get_or (words_in b n) k 0 ≡ number (part b (8 * k) 8)
unfolding words_in
get_or-words_in b zero k h = absurd (omega arith)
get_or-words_in b (suc n) k h =
    ⊎_elim
    (λ e. rw e (get_or_at (words_in b n) (number (part b (8 * n) 8)) [] 0 n (length-words_in b n)))
    (λ l. get_or-append (words_in b n) (number (part b (8 * n) 8) ∷ []) 0 k (rw length-words_in l) ∙ get_or-words_in b n k l)
    (eq-or-lt_of_le (le_of_suc-le-suc h))

bytes_back : (b : List ℕ) (n k : ℕ) → Bytes b → 8 * n ≤ length b → k ≤ n → word_bytes (words_in b n) k ≡ take (8 * k) b
unfolding word_bytes
bytes_back b n zero w l h = refl
bytes_back b n (suc k) w l h =
    let s : 8 * suc k ≡ 8 * k + 8 = omega arith in
    rw (bytes_back b n k w l (omega arith), get_or-words_in b n k (omega arith), bytes-part b (8 * k) 8 w (omega arith), s) (sym (take-add (8 * k) 8 b))

pub meter-encode-decode : (b : List ℕ) → Bytes b → length b ≡ 136 → meter_bytes (meter_in b) ≡ b
unfolding meter_in meter_bytes
meter-encode-decode b w e =
    rw (bytes_back b 16 16 w (omega arith) (omega arith), bytes-part b 128 8 w (omega arith)) (sym (take-add 128 8 b) ∙ take_all 136 b (omega arith))

-- The stores of a record, as one; one turn of a loop for the largest number.
-- Assumes nothing.
use Prim.Native.Nat.{ℕ, ◌+◌, ◌*◌, ◌/◌, ◌%◌, ◌<◌, ◌≤◌, max}
use mathlib.Core.Path.{◌≡◌, refl, sym, ap, ◌∙◌}
use mathlib.Core.List.{List, ◌++◌}
use native.Mathlib.Omega.{arith}
use native.Mathlib.Numerals.{add-one}
use lib.ListN.{length}
use Rattle.num.specs.Bytes.{bytes, splice}
use Rattle.num.proofs.ByteLaws.{length-bytes, bytes-append}
use Rattle.num.proofs.SpliceLaws.{splice-more}
use Rattle.record.specs.Record.{record_fields}
use Rattle.record.proofs.RecordLaws.{fields-put}
use Rattle.spec_rules.specs.Checks.{max_up_to}

-- ---- a record's first eight bytes as one number

low-four : (i k : ℕ) → bytes 4 (i + 4294967296 * k) ≡ bytes 4 i
unfolding bytes
low-four i k =
    let i1 : ℕ = i / 256 in
    let i2 : ℕ = i1 / 256 in
    let i3 : ℕ = i2 / 256 in
    let a : (i + 4294967296 * k) % 256 ≡ i % 256 = omega arith in
    let b : (i + 4294967296 * k) / 256 ≡ i1 + 16777216 * k = omega arith in
    let d : (i1 + 16777216 * k) % 256 ≡ i1 % 256 = omega arith in
    let e : (i1 + 16777216 * k) / 256 ≡ i2 + 65536 * k = omega arith in
    let f : (i2 + 65536 * k) % 256 ≡ i2 % 256 = omega arith in
    let g : (i2 + 65536 * k) / 256 ≡ i3 + 256 * k = omega arith in
    let h : (i3 + 256 * k) % 256 ≡ i3 % 256 = omega arith in
    rw (a, b, d, e, f, g, h)

head-eight : (i k : ℕ) → i < 4294967296 → bytes 8 (i + 4294967296 * k) ≡ bytes 4 i ++ bytes 4 k
head-eight i k h =
    let e : (i + 4294967296 * k) / 4294967296 ≡ k = omega arith in
    bytes-append 4 4 (i + 4294967296 * k) ∙ rw (low-four i k, e)

pub record-put : (l : List ℕ) (at i kind word dqa dqb : ℕ) {a c d e : List ℕ} → at + 32 ≤ length l → i < 4294967296 → kind < 256
    → a ≡ splice l at (bytes 8 (i + 4294967296 * kind)) → c ≡ splice a (at + 8) (bytes 8 word)
    → d ≡ splice c (at + 16) (bytes 8 dqa) → e ≡ splice d (at + 24) (bytes 8 dqb) → e ≡ splice l at (record_fields i kind word dqa dqb)
record-put l at i kind word dqa dqb h hi hk ha hc hd he =
    fields-put l at i kind word dqa dqb h hk refl
    (ha ∙ ap (λ (v : List ℕ). splice l at v) (head-eight i kind hi) ∙ sym (splice-more l at (bytes 4 i) (bytes 4 kind) 4 (length-bytes 4 i) (omega arith)))
    hc hd he

-- ---- a loop over the banks

pub max-step : (f : ℕ → ℕ) (n : ℕ) {m x y : ℕ} → m ≡ max_up_to f n → x ≡ f n → y ≡ max m x → y ≡ max_up_to f (n + 1)
unfolding max_up_to
max-step f n e h k = k ∙ rw (e, h, add-one)

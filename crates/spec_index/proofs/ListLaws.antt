-- The numbers at which a test holds, as they are listed.
-- Assumes nothing.
use Prim.Native.Nat.{ℕ, zero, suc, ◌+◌, ◌*◌, ◌^◌, ◌<◌, ◌≤◌}
use mathlib.Core.Path.{◌≡◌, refl, sym, ap, ap₂, ◌∙◌}
use mathlib.Core.Bool.{Bool, true, false, cond}
use mathlib.Core.List.{List, [], ◌++◌}
use mathlib.Core.Logic.{⊎_elim}
use native.Mathlib.Nat.{eq-or-lt_of_le, le_of_suc-le-suc}
use native.Mathlib.Numerals.{add-one}
use native.Mathlib.Omega.{arith}
use borrow.Author.Tests.{ltb-true, ltb-false}
use lib.Dec.{ltb}
use lib.ListN.{length, length-append}
use Rattle.num.specs.Bytes.{bytes}
use Rattle.num.proofs.ByteLaws.{length-bytes}
use Rattle.log_block.specs.Block.{word_at}
use Rattle.num.specs.Marks.{count_up_to}
use Rattle.spec_index.specs.Query.{numbers_where, Lists}
use Rattle.spec_index.proofs.IndexLaws.{word-last, word-before}

pub listed_next : (f : ℕ → Bool) (n : ℕ) → numbers_where f (n + 1) ≡ numbers_where f n ++ cond (f n) (bytes 4 n) []
unfolding numbers_where
listed_next f n = rw add-one

pub listed_same : (f g : ℕ → Bool) (n : ℕ) → ((k : ℕ) → k < n → f k ≡ g k) → numbers_where f n ≡ numbers_where g n
unfolding numbers_where
listed_same f g zero h = refl
listed_same f g (suc n) h = ap₂ (λ (l : List ℕ) (b : Bool). l ++ cond b (bytes 4 n) []) (listed_same f g n (λ k l. h k (omega arith))) (h n (omega arith))

length-one : (b : Bool) (n : ℕ) → length (cond b (bytes 4 n) []) ≡ 4 * cond b 1 0
length-one true n = length-bytes 4 n
length-one false n = refl

pub length-listed : (f : ℕ → Bool) (n : ℕ) → length (numbers_where f n) ≡ 4 * count_up_to f n
unfolding numbers_where count_up_to
length-listed f zero = refl
length-listed f (suc n) = simp (length-append, length-listed f n, length-one (f n) n) (omega arith)

-- there are more below a number the greater it is
pub count-mono : (f : ℕ → Bool) (n k : ℕ) → k ≤ n → count_up_to f k ≤ count_up_to f n
unfolding count_up_to
count-mono f zero k h = let e : k ≡ 0 = omega arith in rw e (omega arith)
count-mono f (suc n) k h =
    ⊎_elim (λ e. rw e (omega arith)) (λ l. let i = count-mono f n k (le_of_suc-le-suc l) in omega arith) (eq-or-lt_of_le h)

count-more : (f : ℕ → Bool) (n k : ℕ) → k < n → f k ≡ true → count_up_to f k < count_up_to f n
unfolding count_up_to
count-more f n k h e =
    let m = count-mono f n (suc k) h in
    let s : count_up_to f (suc k) ≡ count_up_to f k + 1 = rw e in
    omega arith

-- a number at which f holds stands after as many as there are below it
placed : (f : ℕ → Bool) (n k : ℕ) → n ≤ 2 ^ 32 → k < n → f k ≡ true → word_at (numbers_where f n) (count_up_to f k) ≡ k
unfolding numbers_where
placed f zero k m h e = absurd (omega arith)
placed f (suc n) k m h e =
    ⊎_elim
    last
    (λ l. word-before (numbers_where f n) (cond (f n) (bytes 4 n) []) (count_up_to f n) (count_up_to f k) (length-listed f n) (count-more f n k l e) ∙ placed f n k (omega arith) l e)
    (eq-or-lt_of_le (le_of_suc-le-suc h))
  where
    last : k ≡ n → word_at (numbers_where f n ++ cond (f n) (bytes 4 n) []) (count_up_to f k) ≡ k
    last q =
        let t : f n ≡ true = sym (ap f q) ∙ e in
        rw (q, t) (word-last (numbers_where f n) (count_up_to f n) n (length-listed f n) (omega arith))

-- the number with i others below it
record Found (f : ℕ → Bool) (n i : ℕ) : Type 0 where
  at : ℕ
  below : at < n
  holds : f at ≡ true
  others : count_up_to f at ≡ i

found : (f : ℕ → Bool) (n i : ℕ) → i < count_up_to f n → Found f n i
unfolding count_up_to
found f zero i h = absurd (omega arith)
found f (suc n) i h = go (λ l. found f n i l) (f n) refl h
  where
    more : Found f n i → Found f (suc n) i
    more x = let b = x.below in record { at = x.at; below = omega arith; holds = x.holds; others = x.others }

    go : (i < count_up_to f n → Found f n i) → (b : Bool) → f n ≡ b → i < count_up_to f n + cond b 1 0 → Found f (suc n) i
    go ih false e h = more (ih (omega arith))
    go ih true e h =
        ⊎_elim (λ q. record { at = n; below = omega arith; holds = e; others = sym q }) (λ l. more (ih l))
        (eq-or-lt_of_le (le_of_suc-le-suc (let m : suc i ≤ suc (count_up_to f n) = omega arith in m)))

-- the list of up to 2^32 numbers, of which four bytes are enough
pub lists : (f : ℕ → Bool) (n : ℕ) → n ≤ 2 ^ 32 → Lists f n (numbers_where f n)
lists f n m = record { whole = length-listed f n; each = each; every = λ k h e. (count_up_to f k, count-more f n k h e, placed f n k m h e); rising = rising }
  where
    is_at : (i : ℕ) (x : Found f n i) → word_at (numbers_where f n) i ≡ x.at
    is_at i x = ap (word_at (numbers_where f n)) (sym x.others) ∙ placed f n x.at m x.below x.holds

    each : (i : ℕ) → i < count_up_to f n → (word_at (numbers_where f n) i < n) × (f (word_at (numbers_where f n) i) ≡ true)
    each i h = let x = found f n i h in rw (is_at i x) (x.below, x.holds)

    order : (i j : ℕ) → i < j → (x : Found f n i) (y : Found f n j) → (b : Bool) → ltb x.at y.at ≡ b → x.at < y.at
    order i j h x y true e = ltb-true x.at y.at e
    order i j h x y false e =
        let c = count-mono f x.at y.at (ltb-false x.at y.at e) in
        let p = x.others in
        let q = y.others in
        absurd (omega arith)

    rising : (i j : ℕ) → i < j → j < count_up_to f n → word_at (numbers_where f n) i < word_at (numbers_where f n) j
    rising i j h l =
        let x = found f n i (omega arith) in
        let y = found f n j l in
        rw (is_at i x, is_at j y) (order i j h x y (ltb x.at y.at) refl)

-- How many banks can be open: of a bank and its neighbours two, of all 16, or 32 where none are neighbours.
-- Assumes nothing.
use Rattle.std.specs.Prelude.{None}
use Prim.Native.Nat.{ℕ, zero, suc, ◌+◌, ◌*◌, ◌/◌, ◌≤◌, ◌<◌}
use mathlib.Core.Path.{◌≡◌, refl, sym}
use mathlib.Core.Bool.{Bool, true, false, not, ◌&&◌, ◌||◌, cond}
use lib.Dec.{eqb, ltb}
use borrow.Author.Tests.{eqb-true, eqb-false, eq-eqb, ltb-true, ltb-false}
use native.Mathlib.Numerals.{add-one}
use native.Mathlib.Omega.{arith}
use Rattle.settings.specs.declared.Settings.{Settings}
use Rattle.spec_rules.specs.declared.Bank.{Bank}
use Rattle.spec_rules.specs.Neighbour.{bank_count, Context, run_of, in_runs, near, context_of}
use Rattle.spec_rules.specs.History.{is_closed}
use Rattle.spec_rules.proofs.Bools.{not-both}
use Rattle.spec_plan.specs.Most.{request_most}
use Rattle.spec_plan.proofs.Invariant.{Banked}

-- ---- how many of the first banks a test picks

unfoldable pub count : (ℕ → Bool) → ℕ → ℕ
count p zero = 0
count p (suc n) = cond (p n) 1 0 + count p n

pub count-le : (p q : ℕ → Bool) (n : ℕ) → ((x : ℕ) → x < n → p x ≡ true → q x ≡ true) → count p n ≤ count q n
unfolding count
count-le p q zero h = omega arith
count-le p q (suc n) h = go (p n) refl (count-le p q n (λ x m. h x (omega arith)))
  where
    go : (b : Bool) → p n ≡ b → count p n ≤ count q n → cond b 1 0 + count p n ≤ cond (q n) 1 0 + count q n
    go true e ih = rw (h n (omega arith) e) (omega arith)
    go false e ih = omega arith

-- at most one of each pair: at most half
pub count-pairs : (p : ℕ → Bool) (k : ℕ) → ((j : ℕ) → j < k → p (2 * j) && p (2 * j + 1) ≡ false) → count p (2 * k) ≤ k
unfolding count
count-pairs p zero h = omega arith
count-pairs p (suc k) h =
    let e : 2 * suc k ≡ suc (suc (2 * k)) = omega arith in
    rw e (go (p (2 * k)) (p (suc (2 * k))) (rw (add-one (2 * k)) at (h k (omega arith))) (count-pairs p k (λ j m. h j (omega arith))))
  where
    go : (a c : Bool) → a && c ≡ false → count p (2 * k) ≤ k → cond c 1 0 + (cond a 1 0 + count p (2 * k)) ≤ suc k
    go true true q ih = not-both true refl q
    go true false q ih = omega arith
    go false true q ih = omega arith
    go false false q ih = omega arith

count-all : (p : ℕ → Bool) (n : ℕ) → count p n ≤ n
unfolding count
count-all p zero = omega arith
count-all p (suc n) = go (p n) (count-all p n)
  where
    go : (b : Bool) → count p n ≤ n → cond b 1 0 + count p n ≤ suc n
    go true ih = omega arith
    go false ih = omega arith

-- one bank is one
count-one : (b n : ℕ) → (n ≤ b → count (λ x. eqb x b) n ≡ 0) × (count (λ x. eqb x b) n ≤ 1)
unfolding count
count-one b zero = (λ _. refl, omega arith)
count-one b (suc n) = go (eqb n b) refl (count-one b n)
  where
    c : ℕ
    c = count (λ x. eqb x b) n

    go : (q : Bool) → eqb n b ≡ q → (n ≤ b → c ≡ 0) × (c ≤ 1) → (suc n ≤ b → cond q 1 0 + c ≡ 0) × (cond q 1 0 + c ≤ 1)
    go true e ih = let same : n ≡ b = eqb-true n b e in (λ l. omega (arith, same), omega (arith, ih.0 (omega (arith, same))))
    go false e ih = (λ l. omega (arith, ih.0 (omega arith)), omega (arith, ih.1))

-- ---- the banks that are open

-- a bank of even number and the next one are neighbours in a run of 16 and of 32
twins : (core j : ℕ) → ltb core 2 ≡ true → in_runs (run_of core) (2 * j) (2 * j + 1) ≡ true
unfolding in_runs run_of
twins core j l = go (eqb core 0) (eqb core 1) refl refl
  where
    go : (a c : Bool) → eqb core 0 ≡ a → eqb core 1 ≡ c
        → (eqb (2 * j + 1) (2 * j + 1) || eqb (2 * j + 1 + 1) (2 * j)) && eqb (2 * j / cond a 16 (cond c 32 1)) ((2 * j + 1) / cond a 16 (cond c 32 1)) ≡ true
    go true c e f = rw (eq-eqb (2 * j + 1) (2 * j + 1) refl, eq-eqb (2 * j / 16) ((2 * j + 1) / 16) (omega arith))
    go false true e f = rw (eq-eqb (2 * j + 1) (2 * j + 1) refl, eq-eqb (2 * j / 32) ((2 * j + 1) / 32) (omega arith))
    go false false e f = absurd (omega (arith, ltb-true core 2 l, eqb-false core 0 e, eqb-false core 1 f))

module _ (s : Settings) where
  abbrev cx : Context
  cx = context_of s

  -- a neighbour is the bank before or the bank after
  beside : (b x : ℕ) → cx.nbr b x ≡ true → (x + 1 ≡ b → ⊥) → x ≡ b + 1
  unfolding in_runs context_of
  beside b x e h = go (eqb (b + 1) x) (eqb (x + 1) b) refl refl e
    where
      go : (i j : Bool) → eqb (b + 1) x ≡ i → eqb (x + 1) b ≡ j → (i || j) && eqb (b / run_of s.core) (x / run_of s.core) ≡ true → x ≡ b + 1
      go true j ei ej q = sym (eqb-true (b + 1) x ei)
      go false true ei ej q = absurd (h (eqb-true (x + 1) b ej))
      go false false ei ej q = not-both false q refl

  -- so a bank has at most two
  count-beside : (b n : ℕ) → (n + 1 ≤ b → count (cx.nbr b) n ≡ 0) × (n ≤ b + 1 → count (cx.nbr b) n ≤ 1) × (count (cx.nbr b) n ≤ 2)
  unfolding count
  count-beside b zero = (λ _. refl, λ _. omega arith, omega arith)
  count-beside b (suc n) = go (cx.nbr b n) refl (eqb (n + 1) b) refl (count-beside b n)
    where
      c : ℕ
      c = count (cx.nbr b) n

      go : (q : Bool) → cx.nbr b n ≡ q → (j : Bool) → eqb (n + 1) b ≡ j → (n + 1 ≤ b → c ≡ 0) × (n ≤ b + 1 → c ≤ 1) × (c ≤ 2)
          → (suc n + 1 ≤ b → cond q 1 0 + c ≡ 0) × (suc n ≤ b + 1 → cond q 1 0 + c ≤ 1) × (cond q 1 0 + c ≤ 2)
      go true e true f ih =
          let same : n + 1 ≡ b = eqb-true (n + 1) b f in
          let None : c ≡ 0 = ih.0 (omega (arith, same)) in
          (λ l. absurd (omega (arith, same)), λ l. omega (arith, None), omega (arith, None))
      go true e false f ih =
          let next : n ≡ b + 1 = beside b n e (eqb-false (n + 1) b f) in
          (λ l. absurd (omega (arith, next)), λ l. absurd (omega (arith, next)), omega (arith, ih.1 (omega (arith, next))))
      go false e j f ih = (λ l. omega (arith, ih.0 (omega arith)), λ l. omega (arith, ih.1 (omega arith)), omega (arith, ih.2))

  -- of a bank and its neighbours at most two are open
  module _ (state : ℕ → Bank) (k : Banked cx state) (b : ℕ) where
    abbrev open_near : ℕ → Bool
    open_near x = near cx b x && not (is_closed (state x))

    -- its neighbours, where it is not open itself
    neighbours-open : ((x : ℕ) → x < bank_count → eqb x b ≡ true → is_closed (state x) ≡ true) → count open_near bank_count ≤ 2
    neighbours-open shut = omega (arith, count-le open_near (cx.nbr b) bank_count (λ x l e. go x l (eqb x b) (cx.nbr b x) refl e), (count-beside b bank_count).2)
      where
        go : (x : ℕ) → x < bank_count → (i j : Bool) → eqb x b ≡ i → (i || j) && not (is_closed (state x)) ≡ true → j ≡ true
        go x l i true e h = refl
        go x l true false e h = not-both (not (is_closed (state x))) h (rw (shut x l e))
        go x l false false e h = h

    -- itself, where it is
    itself-open : b < bank_count → is_closed (state b) ≡ false → count open_near bank_count ≤ 2
    itself-open m o = omega (arith, count-le open_near (λ x. eqb x b) bank_count (λ x l e. go x l (eqb x b) (cx.nbr b x) (is_closed (state x)) refl refl e), (count-one b bank_count).1)
      where
        go : (x : ℕ) → x < bank_count → (i j c : Bool) → cx.nbr b x ≡ j → is_closed (state x) ≡ c → (i || j) && not c ≡ true → i ≡ true
        go x l true j c ej ec h = refl
        go x l false true true ej ec h = h
        go x l false true false ej ec h = not-both (is_closed (state b) || is_closed (state x)) (k.one-closed b x m l ej) (rw (o, ec))
        go x l false false c ej ec h = h

    pub count-near : count open_near bank_count ≤ 2
    count-near = go (is_closed (state b)) (ltb b bank_count) refl refl
      where
        go : (c i : Bool) → is_closed (state b) ≡ c → ltb b bank_count ≡ i → count open_near bank_count ≤ 2
        go true i ec ei = neighbours-open (λ x l e. rw (eqb-true x b e) ec)
        go false true ec ei = itself-open (ltb-true b bank_count ei) ec
        go false false ec ei = neighbours-open (λ x l e. absurd (omega (arith, eqb-true x b e, ltb-false b bank_count ei)))

  -- of two neighbours one is closed: at most 16 of the 32 banks are open, or all where none are neighbours
  pub open-most : (state : ℕ → Bank) → Banked cx state → count (λ x. not (is_closed (state x))) bank_count ≤ request_most s.core
  unfolding bank_count context_of request_most
  open-most state k = go (ltb s.core 2) refl
    where
      one_of : (a c : Bool) → a || c ≡ true → not a && not c ≡ false
      one_of true c h = refl
      one_of false true h = refl
      one_of false false h = sym h

      go : (q : Bool) → ltb s.core 2 ≡ q → count (λ x. not (is_closed (state x))) 32 ≤ cond q 16 32
      go true e =
          omega (
            arith,
            count-pairs (λ x. not (is_closed (state x))) 16
                (λ j m. one_of (is_closed (state (2 * j))) (is_closed (state (2 * j + 1))) (k.one-closed (2 * j) (2 * j + 1) (omega arith) (omega arith) (twins s.core j e))),
          )
      go false e = omega (arith, count-all (λ x. not (is_closed (state x))) 32)

-- The run from the start that is answered still breaks the rule, no run from a later one does, and there is always such a run.
-- Assumes nothing.
use Rattle.std.specs.Prelude.{None, Err}
use Prim.Native.Nat.{ℕ, zero, suc, ◌+◌, ◌-◌, ◌<◌, ◌≤◌}
use mathlib.Core.Path.{◌≡◌, refl, sym, ap, ◌∙◌}
use mathlib.Core.Bool.{Bool, true, false, cond}
use mathlib.Core.List.{List, ◌∷◌, reverse}
use mathlib.Core.Logic.{◌↔◌, ◌⊎◌, ⊎_elim}
use lib.Dec.{eqb}
use lib.ListN.{length}
use lib.Seq.{slice-cons, length-slice, get_or-take, take-take}
use native.Mathlib.Nat.{eq-or-lt_of_le}
use native.Mathlib.Omega.{arith}
use borrow.Author.Tests.{eqb-true, eq-eqb, ne_eqb}
use Rattle.record.specs.declared.Record.{Record}
use Rattle.record.specs.declared.Refusal.TheVariants.{Rule}
use Rattle.record.specs.Refusal.{answer_of}
use Rattle.spec_rules.specs.Neighbour.{Context}
use Rattle.spec_rules.specs.Packets.{traits}
use Rattle.spec_rules.specs.Broken.{earlier, record_in, FirstBreach, rule_at, first_broken}
use Rattle.spec_rules.proofs.Bools.{not-both, and_left, and_right}
use Rattle.spec_rules.proofs.BrokenLaws.{breach-iff}
use Rattle.spec_check.specs.Check.{records_of, list_answer, ListBreach}
use Rattle.spec_check.proofs.BreachLaws.{list-names}
use Rattle.spec_check.specs.declared.Shortest.{Shortest}
use Rattle.spec_check.specs.Shortest.{run, still_breaks, last_true, shortest_start, start_of, shortest_answer, ShortestRun}
use Rattle.spec_check.proofs.FrontLaws.{front-early}

-- ---- the largest index at which a test holds

last-le : (f : ℕ → Bool) (m : ℕ) → last_true f m ≤ m
unfolding last_true
last-le f zero = omega arith
last-le f (suc m) = go (f (suc m)) (last-le f m)
  where
    go : (t : Bool) → last_true f m ≤ m → cond t (suc m) (last_true f m) ≤ suc m
    go true h = omega arith
    go false h = omega arith

last-holds : (f : ℕ → Bool) (m : ℕ) → f 0 ≡ true → f (last_true f m) ≡ true
unfolding last_true
last-holds f zero h = h
last-holds f (suc m) h = go (f (suc m)) refl (last-holds f m h)
  where
    go : (t : Bool) → f (suc m) ≡ t → f (last_true f m) ≡ true → f (cond t (suc m) (last_true f m)) ≡ true
    go true e ih = e
    go false e ih = ih

last_none : (f : ℕ → Bool) (m k : ℕ) → last_true f m < k → k ≤ m → f k ≡ false
unfolding last_true
last_none f zero k h l = absurd (omega arith)
last_none f (suc m) k h l = go (f (suc m)) refl h (λ h l. last_none f m k h l)
  where
    go : (t : Bool) → f (suc m) ≡ t → cond t (suc m) (last_true f m) < k → (last_true f m < k → k ≤ m → f k ≡ false) → f k ≡ false
    go true e h ih = absurd (omega arith)
    go false e h ih = ⊎_elim (λ (q : k ≡ suc m). ap f q ∙ e) (λ (q : k < suc m). ih h (omega arith)) (eq-or-lt_of_le l)

-- an index from which on it fails need not be looked at
pub last-skips : (f : ℕ → Bool) (m : ℕ) → f (suc m) ≡ false → last_true f (suc m) ≡ last_true f m
unfolding last_true
last-skips f m e = rw e

pub last_found : (f : ℕ → Bool) (m : ℕ) → f (suc m) ≡ true → last_true f (suc m) ≡ suc m
unfolding last_true
last_found f m e = rw e

-- ---- runs

module _ (cx : Context) (rs : List Record) (j : ℕ) (h : j < length rs) where
  length_run : (i : ℕ) → length (run rs i j) ≡ j + 1 - i
  length_run i = length-slice i (j + 1) rs (omega arith)

  run-front : (i : ℕ) → i ≤ j → run rs i j ≡ record_in rs i ∷ run rs (suc i) j
  run-front i k = slice-cons i (j + 1) rs _ (omega arith) (omega arith)

  -- what the test says of a run
  pub breaks-iff : (n i : ℕ) → i ≤ j → (still_breaks cx rs n j i ≡ true) ↔ FirstBreach cx (run rs i j) n (j - i)
  unfolding still_breaks
  breaks-iff n i k =
      let l = length_run i in
      let b = breach-iff cx (run rs i j) n (j - i) in (
        λ e. b.0 (eqb-true _ _ (and_left (eqb (first_broken cx (run rs i j)) (j - i)) _ e), omega arith, eqb-true _ _ (and_right (eqb (first_broken cx (run rs i j)) (j - i)) (eqb (rule_at cx (run rs i j) (j - i)) n) e)),
        λ e. let f = b.1 e in rw (eq-eqb _ _ f.0, eq-eqb _ _ f.2),
      )

  -- a start that is skipped: a run that is refused before record j is so with a record in front that opens no bank
  pub early-front : (i : ℕ) → (traits (record_in rs i)).opens ≡ None → first_broken cx (run rs (suc i) j) < j - suc i → first_broken cx (run rs i j) < j - i
  early-front i e b =
      let l = length_run (suc i) in
      let f = front-early cx (run rs (suc i) j) (record_in rs i) e (omega arith) in
      rw (run-front i (omega arith)) (omega arith)

  -- and does not break the rule at record j
  pub early-fails : (n i : ℕ) → first_broken cx (run rs i j) < j - i → still_breaks cx rs n j i ≡ false
  unfolding still_breaks
  early-fails n i b = rw (ne_eqb (first_broken cx (run rs i j)) (j - i) (λ e. omega arith))

  -- the whole list up to record j breaks the rule there
  whole-earlier : (i : ℕ) → i ≤ j → earlier (run rs 0 j) i ≡ earlier rs i
  whole-earlier i k = ap reverse (take-take i (j + 1) rs (omega arith))

  whole-record : (i : ℕ) → i ≤ j → record_in (run rs 0 j) i ≡ record_in rs i
  whole-record i k = get_or-take (j + 1) rs i _ (omega arith)

  whole-breaks : (n : ℕ) → FirstBreach cx rs n j → FirstBreach cx (run rs 0 j) n (j - 0)
  whole-breaks n b =
      let e : j - 0 ≡ j = omega arith in
      let l = length_run 0 in
      rw e
      (record {
        within = omega arith;
        lowest = rw (whole-earlier j (omega arith), whole-record j (omega arith)) b.lowest;
        none_before = λ i k m. rw (whole-earlier i (omega arith), whole-record i (omega arith)) (b.none_before i k m);
      })

  module _ (n : ℕ) (b : FirstBreach cx rs n j) where
    -- there is a shortest run, and the definition's start is its
    pub shortest-right : ShortestRun cx rs n j (shortest_start cx rs n j)
    unfolding shortest_start
    shortest-right =
        let f : ℕ → Bool = still_breaks cx rs n j in
        let le = last-le f j in
        record {
          within = le;
          still = (breaks-iff n (last_true f j) le).0 (last-holds f j ((breaks-iff n 0 (omega arith)).1 (whole-breaks n b)));
          latest = λ k a c x. not-both (f k) ((breaks-iff n k c).1 x) (last_none f j k a c);
        }

    -- no other start is
    pub shortest-only : (i : ℕ) → ShortestRun cx rs n j i → shortest_start cx rs n j ≡ i
    shortest-only i r =
        let k : ℕ = shortest_start cx rs n j in
        let s = shortest-right in
        let a : i < k → ⊥ = λ h. r.latest k h s.within s.still in
        let c : k < i → ⊥ = λ h. s.latest i h r.within r.still in
        omega arith

-- the answer names rule n, record j and start i exactly where the checker names n and j and the run from i is the shortest
pub shortest-names : (cx : Context) (l : List ℕ) (n j i : ℕ)
    → (shortest_answer cx l ≡ record { judged = Err (Rule n j); start = i }) ↔ (ListBreach cx l n j × ShortestRun cx (records_of cx.settings l) n j i)
unfolding shortest_answer start_of answer_of
shortest-names cx l n j i = (there, back)
  where
    rs : List Record
    rs = records_of cx.settings l

    there : shortest_answer cx l ≡ record { judged = Err (Rule n j); start = i } → ListBreach cx l n j × ShortestRun cx rs n j i
    there e =
        let v : list_answer cx l ≡ Err (Rule n j) = ap (λ (x : Shortest). x.judged) e in
        let s : start_of cx rs (list_answer cx l) ≡ i = ap (λ (x : Shortest). x.start) e in
        let b = (list-names cx n j l).0 v in
        let q : shortest_start cx rs n j ≡ i = rw v at s in
        (b, rw (sym q) (shortest-right cx rs j b.breach.within n b.breach))

    back : ListBreach cx l n j × ShortestRun cx rs n j i → shortest_answer cx l ≡ record { judged = Err (Rule n j); start = i }
    back b =
        let f = b.0.breach in
        rw ((list-names cx n j l).1 b.0, shortest-only cx rs j f.within n f i b.1)

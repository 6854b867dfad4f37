-- The records of a list, from the last to the first.
-- Assumes nothing.
use Rattle.std.specs.Prelude.{None, Some}
use Prim.Native.Nat.{ℕ, zero, suc, ◌-◌, ◌*◌, ◌≤◌, ◌<◌}
use mathlib.Core.Path.{◌≡◌, refl, sym, ap, ◌∙◌}
use mathlib.Core.Bool.{Bool, true, false}
use mathlib.Core.List.{List, [], ◌∷◌, ◌++◌}
use native.Mathlib.Omega.{arith}
use lib.Dec.{eqb}
use lib.ListN.{length, drop, length-append, drop_of_length-le, get_or-append}
use lib.Seq.{drop-cons, get_or_at}
use borrow.Author.Tests.{eqb-true, eqb-false}
use Rattle.num.specs.Bytes.{part}
use Rattle.num.proofs.SearchLaws.{first-before}
use Rattle.settings.specs.declared.Settings.{Settings}
use Rattle.record.specs.declared.Record.{Record}
use Rattle.record.specs.declared.Record.TheVariants.{DataOf}
use Rattle.record.specs.Record.{record_read, is_known, well_formed, record_at, records_in, first_bad}
use Rattle.spec_rules.specs.Broken.{record_in}
use Rattle.spec_rules.proofs.Bools.{not-both}
use Rattle.spec_check.specs.Check.{known, records_up_to, records_of}

module _ (s : Settings) (l : List ℕ) where
  records-length : (n : ℕ) → length (records_up_to s l n) ≡ n
  unfolding records_up_to
  records-length zero = refl
  records-length (suc n) = length-append (records_up_to s l n) _ ∙ rw (records-length n) (omega arith)

  records-at : (n i : ℕ) → i < n → record_in (records_up_to s l n) i ≡ known (record_read s (record_at l i))
  unfolding records_up_to
  records-at zero i h = absurd (omega arith)
  records-at (suc n) i h = go (eqb i n) refl (records-at n i)
    where
      go : (b : Bool) → eqb i n ≡ b → (i < n → record_in (records_up_to s l n) i ≡ known (record_read s (record_at l i)))
          → record_in (records_up_to s l n ++ (known (record_read s (record_at l n)) ∷ [])) i ≡ known (record_read s (record_at l i))
      go true q ih =
          let z : i ≡ n = eqb-true i n q in
          rw z (get_or_at (records_up_to s l n) _ [] _ n (records-length n))
      go false q ih =
          let z : i ≡ n → ⊥ = eqb-false i n q in
          let e = records-length n in
          get_or-append (records_up_to s l n) _ _ i (omega arith) ∙ ih (omega arith)

  -- no record
  pub none_left : (n : ℕ) → records_in l ≤ n → drop n (records_of s l) ≡ []
  unfolding records_of
  none_left n h = let m = records-length (records_in l) in drop_of_length-le (records_up_to s l (records_in l)) {i = n} (omega arith)

  -- one record more
  pub one_more_lem : (i : ℕ) (r : Record) → 0 < i → i ≤ records_in l → record_read s (part l (32 * (i - 1)) 32) ≡ Some r
      → r ∷ drop i (records_of s l) ≡ drop (i - 1) (records_of s l)
  unfolding records_of known
  one_more_lem i r p h e =
      let m = records-length (records_in l) in
      let z : suc (i - 1) ≡ i = omega arith in
      let d : Record = DataOf (record { 0 = 0 }) (record { dqa = 0; dqb = 0 }) in
      sym (drop-cons (records_up_to s l (records_in l)) (i - 1) d (omega arith) ∙ rw (records-at (records_in l) (i - 1) (omega arith), e, z))

  -- every record of a well formed list is one
  pub is-record : {R : Type 0} (i : ℕ) → first_bad s l ≡ records_in l → i < records_in l → record_read s (part l (32 * i) 32) ≡ None → R
  unfolding first_bad well_formed is_known
  is-record i f h e = not-both (well_formed s (record_at l i)) (first-before (λ i. well_formed s (record_at l i)) (records_in l) i (omega arith)) (ap is_known e)

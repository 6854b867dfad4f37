-- What a verdict says of the list, and where its run starts.
-- Assumes nothing.
use Rattle.std.specs.Prelude.{Err}
use Prim.Native.Nat.{ℕ, ◌<◌}
use mathlib.Core.Path.{◌≡◌, refl}
use mathlib.Core.List.{List}
use native.Mathlib.Omega.{arith}
use Rattle.num.proofs.SearchLaws.{first-none}
use Rattle.record.specs.declared.Record.{Record}
use Rattle.record.specs.declared.Refusal.{Refusal}
use Rattle.record.specs.declared.Refusal.TheVariants as refusal
use Rattle.record.specs.Refusal.{answer_of}
use Rattle.record.specs.Record.{records_in, first_bad}
use Rattle.spec_rules.specs.Neighbour.{Context}
use Rattle.spec_check.specs.Check.{list_answer, ListBreach}
use Rattle.spec_check.specs.Shortest.{shortest_start, start_of}
use Rattle.spec_check.proofs.BreachLaws.{list-names}
use Rattle.check_list.proofs.shortest.RunLaws.{length-records}

-- a broken rule
module _ (cx : Context) (l : List ℕ) (n i : ℕ) (v : list_answer cx l ≡ Err (refusal.Rule n i)) where
  named : ListBreach cx l n i
  named = (list-names cx n i l).0 v

  -- the record that is named is one of the list, and all are well formed
  pub named-within : i < records_in l
  named-within = let m = length-records cx.settings l in let w = named.breach.within in omega arith

  pub named-formed : first_bad cx.settings l ≡ records_in l
  unfolding first_bad
  named-formed = first-none _ (records_in l) named.formed

module _ (cx : Context) (rs : List Record) where
  pub start-ruled : (n i : ℕ) → shortest_start cx rs n i ≡ start_of cx rs (Err (refusal.Rule n i))
  unfolding start_of answer_of
  start-ruled n i = refl

  -- no other refusal has a run
  pub start-other : (why : Refusal) → ((n i : ℕ) → why ≡ refusal.Rule n i → ⊥) → 0 ≡ start_of cx rs (Err why)
  unfolding start_of answer_of
  start-other refusal.Settings ne = refl
  start-other refusal.Kind ne = refl
  start-other refusal.Spare ne = refl
  start-other refusal.Bank ne = refl
  start-other refusal.Row ne = refl
  start-other refusal.Column ne = refl
  start-other refusal.Horizon ne = refl
  start-other refusal.Full ne = refl
  start-other refusal.Store ne = refl
  start-other (refusal.Word i) ne = refl
  start-other (refusal.Rule n i) ne = absurd (ne n i refl)
  start-other (refusal.Block i) ne = refl
  start-other refusal.Length ne = refl
  start-other refusal.Unretired ne = refl
  start-other (refusal.Stamp i) ne = refl

-- Which record of a list breaks which rule.
-- Assumes nothing.
use Rattle.std.specs.Prelude.{ℕ, zero, suc, ◌<◌, ◌≡◌, Bool, true, false, not, cond, List, [], ◌∷◌, reverse, eqb, length, take, get_or}
use Rattle.num.specs.Search.{all_up_to, first_false}
use Rattle.record.specs.declared.Record.{Record}
use Rattle.record.specs.declared.Record.TheVariants.{DataOf}
use Rattle.spec_rules.specs.Neighbour.{Context}
use Rattle.spec_rules.specs.Rules.{rules}

-- the records of a list before record j, newest first
abbrev pub earlier : List Record → ℕ → List Record
earlier l j = reverse (take j l)

-- record j of a list; past its end some record, which nothing asks for
abbrev pub record_in : List Record → ℕ → Record
record_in l j = get_or l j (DataOf (record { 0 = 0 }) (record { dqa = 0; dqb = 0 }))

-- whether a record breaks rule n after these earlier ones; the rules count from 1
unfoldable pub breaks_after : Context → ℕ → List Record → Record → Bool
breaks_after cx zero es r = false
breaks_after cx (suc n) es r = not (get_or (rules cx es r) n true)

-- whether record j of list l breaks rule n
abbrev pub breaks : Context → ℕ → List Record → ℕ → Bool
breaks cx n l j = breaks_after cx n (earlier l j) (record_in l j)

-- rule n is the lowest that a record breaks after these earlier ones
pub record LowestBroken (cx : Context) (es : List Record) (r : Record) (n : ℕ) : Type 0 where
  pub broken : breaks_after cx n es r ≡ true
  pub none_below : (m : ℕ) → m < n → breaks_after cx m es r ≡ false

-- record j of a list is the first that breaks a rule, and rule n the lowest that it breaks
pub record FirstBreach (cx : Context) (l : List Record) (n j : ℕ) : Type 0 where
  pub within : j < length l
  pub lowest : LowestBroken cx (earlier l j) (record_in l j) n
  pub none_before : (i : ℕ) → i < j → (m : ℕ) → breaks cx m l i ≡ false

-- the number of the first test that fails, counted from n on, or 0
unfoldable pub lowest : ℕ → List Bool → ℕ
lowest n [] = 0
lowest n (b ∷ l) = cond b (lowest (suc n) l) n

-- the lowest rule that a record breaks after these earlier ones, or 0
unfoldable pub lowest_rule : Context → List Record → Record → ℕ
lowest_rule cx es r = lowest 1 (rules cx es r)

-- the lowest rule that record j of list l breaks, or 0
abbrev pub rule_at : Context → List Record → ℕ → ℕ
rule_at cx l j = lowest_rule cx (earlier l j) (record_in l j)

-- the first record of a list that breaks a rule, or its length where none does
unfoldable pub first_broken : Context → List Record → ℕ
first_broken cx l = first_false (λ j. eqb (rule_at cx l j) 0) (length l)

-- every rule holds on a list
unfoldable pub every_rule : Context → List Record → Bool
every_rule cx l = all_up_to (λ j. eqb (rule_at cx l j) 0) (length l)

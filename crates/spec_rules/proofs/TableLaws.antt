-- The table of distances as a whole: its rules together are its lines, lines and deeds change places, and the largest of what the
-- lines ask decides for all.
-- Assumes nothing.
use Prim.Native.Nat.{ℕ, max}
use mathlib.Core.Path.{◌≡◌, refl, sym, ap, ap₂, ◌∙◌}
use mathlib.Core.Bool.{Bool, true, false, not, ◌&&◌, ◌||◌, or-true}
use mathlib.Core.List.{List, [], ◌∷◌}
use lib.Dec.{eqb, leb, leb-zero}
use Rattle.settings.specs.declared.Settings.{Settings}
use Rattle.spec_rules.specs.Distances.{Distance, distances, each, of_rule}
use Rattle.spec_rules.specs.Checks.{max_line}
use Rattle.spec_rules.proofs.Bools.{and_left, and_right, and-swap, leb-max}

-- ---- tests of all in a list

module _ {A : Type 0} where
  pub each-true : (l : List A) → each (λ (x : A). true) l ≡ true
  each-true [] = refl
  each-true (x ∷ l) = each-true l

  pub each_and : (p q : A → Bool) (l : List A) → each (λ (x : A). p x && q x) l ≡ each p l && each q l
  each_and p q [] = refl
  each_and p q (x ∷ l) = rw (each_and p q l) (and-swap (p x) (q x) (each p l) (each q l))

  pub each-ext : (p q : A → Bool) (l : List A) → ((x : A) → p x ≡ q x) → each p l ≡ each q l
  each-ext p q [] same = refl
  each-ext p q (x ∷ l) same = rw (same x, each-ext p q l same)

-- two lists change places
pub each-swap : {A B : Type 0} (test : A → B → Bool) (l : List A) (m : List B)
    → each (λ (x : A). each (test x) m) l ≡ each (λ (y : B). each (λ (x : A). test x y) l) m
each-swap test l [] = each-true l
each-swap test l (y ∷ m) =
    each_and (λ x. test x y) (λ x. each (test x) m) l ∙ ap (λ (b : Bool). each (λ x. test x y) l && b) (each-swap test l m)

-- the largest of what the lines ask
pub leb-max_line : (f : Distance → ℕ) (l : List Distance) (t : ℕ) → leb (max_line f l) t ≡ each (λ d. leb (f d) t) l
leb-max_line f [] t = leb-zero t
leb-max_line f (d ∷ l) t = leb-max (f d) (max_line f l) t ∙ rw (leb-max_line f l t)

-- ---- the rules together are the lines

-- the rules that have lines
abbrev pub by_distance : List ℕ
by_distance = 1 ∷ 2 ∷ 3 ∷ 5 ∷ 6 ∷ 7 ∷ 8 ∷ 10 ∷ 11 ∷ 13 ∷ 17 ∷ []

abbrev listed : ℕ → List ℕ → Bool
listed m [] = false
listed m (n ∷ l) = eqb m n || listed m l

-- of one line, where its test passes and where it fails
one_line : (m : ℕ) (b : Bool) (l : List ℕ) → listed m l ≡ true → each (λ n. not (eqb m n) || b) l ≡ b
one_line m true l h = each-ext _ _ l (λ n. or-true (not (eqb m n))) ∙ each-true l
one_line m false [] h = sym h
one_line m false (n ∷ l) h = go (eqb m n) h (one_line m false l)
  where
    go : (b : Bool) → b || listed m l ≡ true → (listed m l ≡ true → each (λ n. not (eqb m n) || false) l ≡ false)
        → (not b || false) && each (λ n. not (eqb m n) || false) l ≡ false
    go true h f = refl
    go false h f = f h

-- where every line is of a listed rule
pub rules-lines : (l : List ℕ) (test : Distance → Bool) (ds : List Distance) → each (λ d. listed d.rule l) ds ≡ true
    → each (λ n. of_rule n test ds) l ≡ each test ds
rules-lines l test [] h = each-true l
rules-lines l test (d ∷ ds) h =
    each_and (λ n. not (eqb d.rule n) || test d) (λ n. of_rule n test ds) l
    ∙ ap₂ ◌&&◌ (one_line d.rule (test d) l (and_left (listed d.rule l) _ h)) (rules-lines l test ds (and_right (listed d.rule l) _ h))

pub all_listed : (s : Settings) → each (λ d. listed d.rule by_distance) (distances s) ≡ true
unfolding distances
all_listed s = refl

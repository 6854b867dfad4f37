-- A function of index and element over a list, and the records before record j + 1 of a list.
-- Assumes nothing.
use Prim.Native.Nat.{ℕ, zero, suc, ◌+◌, ◌<◌}
use mathlib.Core.Path.{◌≡◌, refl, ap, ◌∙◌}
use mathlib.Core.List.{List, [], ◌∷◌, reverse, reverse-append}
use lib.ListN.{length, get_or, take}
use lib.Seq.{take-suc}
use native.Mathlib.Nat.{add-zero, zero-add}
use native.Mathlib.Omega.{arith}
use Rattle.record.specs.declared.Record.{Record}
use Rattle.spec_rules.specs.Broken.{earlier, record_in}
use Rattle.spec_rules.specs.Channel.{imap}

module _ {A B : Type 0} where
  pub length-imap : (f : ℕ → A → B) (i : ℕ) (l : List A) → length (imap f i l) ≡ length l
  length-imap f i [] = refl
  length-imap f i (x ∷ l) = ap suc (length-imap f (suc i) l)

  get_or-imap-from : (f : ℕ → A → B) (i : ℕ) (l : List A) (x : ℕ) (d : A) (e : B) → x < length l → get_or (imap f i l) x e ≡ f (i + x) (get_or l x d)
  get_or-imap-from f i [] x d e m = absurd (omega arith)
  get_or-imap-from f i (a ∷ l) zero d e m = rw add-zero
  get_or-imap-from f i (a ∷ l) (suc x) d e m = get_or-imap-from f (suc i) l x d e (omega arith) ∙ ap (λ (n : ℕ). f n (get_or l x d)) (omega arith)

  pub get_or-imap : (f : ℕ → A → B) (l : List A) (x : ℕ) (d : A) (e : B) → x < length l → get_or (imap f 0 l) x e ≡ f x (get_or l x d)
  get_or-imap f l x d e m = get_or-imap-from f 0 l x d e m ∙ rw zero-add

pub earlier-next : (l : List Record) (j : ℕ) → j < length l → earlier l (suc j) ≡ record_in l j ∷ earlier l j
earlier-next l j m = ap reverse (take-suc l j _ m) ∙ reverse-append (take j l) (record_in l j ∷ [])

-- Rule 7 by the banks: a PRER counts at the bank that it names and at every bank that it closed.
-- Assumes nothing.
use Rattle.std.specs.Prelude.{Option, None, Some}
use Prim.Native.Nat.{ℕ, ◌+◌, ◌<◌}
use mathlib.Core.Path.{◌≡◌, refl, sym, ◌∙◌}
use mathlib.Core.Bool.{Bool, true, false, not, ◌&&◌, ◌||◌}
use mathlib.Core.List.{List}
use lib.Dec.{leb, eqb, leb-zero}
use borrow.Author.Tests.{eqb-true, eq-eqb, not-true, not-false}
use Rattle.num.specs.Search.{all_up_to}
use Rattle.num.proofs.SearchLaws.{all-at, all-intro}
use Rattle.spec_rules.specs.Neighbour.{Context, Neighbours, near, bank_count}
use Rattle.spec_rules.specs.History.{Event, only, over, reaches, spaced, keeps}
use Rattle.spec_rules.specs.Distances.{some_bank}
use Rattle.spec_rules.specs.Channel.{in_bank}
use Rattle.spec_rules.specs.Checks.{asks, max_up_to, bound_of}
use Rattle.spec_rules.proofs.Bools.{iff-eq, not-both, neither, all-ext}
use Rattle.spec_rules.proofs.NeighbourLaws.{near-sym}
use Rattle.spec_rules.proofs.HistoryLaws.{last_of, Sorted, Within, All, keeps-none, lasts-law, swap-law}

-- a PRER or REFP to bank x, or one that closed it
abbrev pub touches : ℕ → Event → Bool
touches x e = in_bank e.traits.precharges x || e.closed x

-- a PRER or REFP, where the event is one, is to a bank below 32, and closes no bank that it does not reach
pub record Reaching (cx : Context) (e : Event) : Type 0 where
  pub precharges-in : Within bank_count e.traits.precharges
  pub closed-reached : (x : ℕ) → e.closed x ≡ true → reaches cx e.traits.precharges x ≡ true

-- a distance for same or neighbour
abbrev pub gap_near : Context → ℕ → ℕ → ℕ → Option ℕ
gap_near cx gap b x = only (near cx b x) (Some gap)

-- ---- of one event and bank: to = the PRER is to x, closed = it closed x, same = x is the bank to open, beside = its neighbour

apart_out : (to closed same beside : Bool) → not ((to || closed) && (same || beside)) ≡ true → not (beside && closed) ≡ true
apart_out to closed same false h = refl
apart_out to false same true h = refl
apart_out true true true true h = h
apart_out true true false true h = h
apart_out false true true true h = h
apart_out false true false true h = h

apart_in : (to closed same beside : Bool) → (to ≡ true → same || beside ≡ false) → (closed ≡ true → same ≡ false)
    → not (beside && closed) ≡ true → not ((to || closed) && (same || beside)) ≡ true
apart_in true closed same beside f g h = rw (f refl)
apart_in false false same beside f g h = refl
apart_in false true same true f g h = rw (g refl) h
apart_in false true same false f g h = rw (g refl)

-- a distance that is spaced at all, and one that is not
kept-late : (q r : Bool) (gap a t : ℕ) → leb (a + gap) t ≡ true → spaced (only q (only r (Some gap))) a t ≡ true
kept-late true true gap a t e = e
kept-late true false gap a t e = refl
kept-late false r gap a t e = refl

kept-early : (q r : Bool) (gap a t : ℕ) → leb (a + gap) t ≡ false → spaced (only q (only r (Some gap))) a t ≡ not (q && r)
kept-early true true gap a t e = e
kept-early true false gap a t e = refl
kept-early false r gap a t e = refl

module _ (cx : Context) (ns : Neighbours cx) where
  -- no bank is reached at all or next to a closed one, as a test on every bank
  apart : (b p : ℕ) (cl : ℕ → Bool) → p < bank_count → ((x : ℕ) → cl x ≡ true → near cx p x ≡ true)
      → not (near cx b p || some_bank (λ x. cx.nbr b x && cl x)) ≡ all_up_to (λ x. not ((eqb x p || cl x) && near cx b x)) bank_count
  apart b p cl mp h = iff-eq _ _ into out
    where
      some-closed : Bool
      some-closed = some_bank (λ x. cx.nbr b x && cl x)

      other : (x : ℕ) → cl x ≡ true → near cx b p ≡ false → (q : Bool) → eqb x b ≡ q → q ≡ false
      other x c f false e = refl
      other x c f true e = not-both (near cx p b) (rw (← eqb-true x b e) (h x c)) (near-sym cx ns p b ∙ f)

      into : not (near cx b p || some-closed) ≡ true → all_up_to (λ x. not ((eqb x p || cl x) && near cx b x)) bank_count ≡ true
      into k =
          let both = neither (near cx b p) some-closed (not-true (near cx b p || some-closed) k) in
          all-intro (λ x. not ((eqb x p || cl x) && near cx b x)) bank_count (λ x m. apart_in (eqb x p) (cl x) (eqb x b) (cx.nbr b x)
          (λ q. rw (eqb-true x p q) both.0)
          (λ c. other x c both.0 (eqb x b) refl)
          (all-at (λ x. not (cx.nbr b x && cl x)) bank_count x (not-false _ both.1) m))

      out : all_up_to (λ x. not ((eqb x p || cl x) && near cx b x)) bank_count ≡ true → not (near cx b p || some-closed) ≡ true
      out k =
          let at : (x : ℕ) → x < bank_count → not ((eqb x p || cl x) && near cx b x) ≡ true = λ x m. all-at (λ x. not ((eqb x p || cl x) && near cx b x)) bank_count x k m in
          rw (
            not-true (near cx b p) (rw (eq-eqb p p refl) at (at p mp)),
            all-intro (λ x. not (cx.nbr b x && cl x)) bank_count (λ x m. apart_out (eqb x p) (cl x) (eqb x b) (cx.nbr b x) (at x m)),
          )

  one-precharge : (b gap a t : ℕ) (o : Option ℕ) (cl : ℕ → Bool) → Within bank_count o → ((x : ℕ) → cl x ≡ true → reaches cx o x ≡ true)
      → spaced (over o (λ p. only (near cx b p || some_bank (λ x. cx.nbr b x && cl x)) (Some gap))) a t
      ≡ all_up_to (λ x. spaced (only (in_bank o x || cl x) (gap_near cx gap b x)) a t) bank_count
  one-precharge b gap a t None cl w h = sym (all-intro _ bank_count (λ x m. go x (cl x) refl))
    where
      go : (x : ℕ) (q : Bool) → cl x ≡ q → spaced (only q (gap_near cx gap b x)) a t ≡ true
      go x true e = not-both false (h x e) refl
      go x false e = refl
  one-precharge b gap a t (Some p) cl w h = go (leb (a + gap) t) refl
    where
      found : Bool
      found = near cx b p || some_bank (λ x. cx.nbr b x && cl x)

      go : (l : Bool) → leb (a + gap) t ≡ l → spaced (only found (Some gap)) a t ≡ all_up_to (λ x. spaced (only (eqb x p || cl x) (gap_near cx gap b x)) a t) bank_count
      go true e = kept-late true found gap a t e ∙ sym (all-intro _ bank_count (λ x m. kept-late (eqb x p || cl x) (near cx b x) gap a t e))
      go false e =
          kept-early true found gap a t e ∙ apart b p cl w h
          ∙ sym (all-ext _ _ bank_count (λ x m. kept-early (eqb x p || cl x) (near cx b x) gap a t e))

  pub seven-law : (o : Option ℕ) (gap : ℕ) (l : ℕ → ℕ) (t : ℕ) (h : List Event) → Sorted h → All (Reaching cx) h
      → ((x : ℕ) → x < bank_count → l x ≡ last_of (touches x) h)
      → keeps (λ e. over o (λ b. over e.traits.precharges (λ p. only (near cx b p || some_bank (λ x. cx.nbr b x && e.closed x)) (Some gap)))) t h
      ≡ leb (bound_of o (λ b. max_up_to (λ x. asks (gap_near cx gap b x) (l x)) bank_count)) t
  seven-law None gap l t h s f k = keeps-none (λ e. true) t h ∙ sym (leb-zero t)
  seven-law (Some b) gap l t h s f k =
      swap-law bank_count _ touches (gap_near cx gap b) t (Reaching cx) h f
      (λ e q. one-precharge b gap e.at t e.traits.precharges e.closed q.precharges-in q.closed-reached)
      ∙ lasts-law bank_count touches (gap_near cx gap b) l t h s k

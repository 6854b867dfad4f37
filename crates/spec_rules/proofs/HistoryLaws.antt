-- The latest event of a kind decides for all of that kind: so a distance from every earlier event is a test on one instant. By a kind of packet, by the banks, by the banks that a PRER closed, and by order.
-- Assumes nothing.
use Rattle.std.specs.Prelude.{Option, None, Some}
use Prim.Native.Nat.{ℕ, ◌+◌, ◌≤◌, ◌<◌, max, zero-le}
use mathlib.Core.Path.{◌≡◌, refl, sym, ap, ap₂, ◌∙◌}
use mathlib.Core.Bool.{Bool, true, false, ◌&&◌, cond}
use mathlib.Core.List.{List, [], ◌∷◌}
use lib.Dec.{leb, eqb, leb-zero}
use borrow.Author.Tests.{leb-true, le-leb, eqb-true, eq-eqb, ne_eqb}
use native.Mathlib.Omega.{arith}
use Rattle.num.specs.Search.{all_up_to}
use Rattle.spec_rules.specs.History.{Event, only, over, spaced, keeps, has}
use Rattle.spec_rules.specs.Channel.{in_bank}
use Rattle.spec_rules.specs.Checks.{since, asks, max_up_to, bound_of}
use Rattle.spec_rules.proofs.Bools.{all-ext, all_true, all-and, all-point, leb-max, leb-max_up_to}

-- the latest instant of the events that q holds of, or 0; it asks no order of the events
abbrev pub last_of : (Event → Bool) → List Event → ℕ
last_of q [] = 0
last_of q (e ∷ h) = cond (q e) (max e.at (last_of q h)) (last_of q h)

-- the latest instant
abbrev pub newest : List Event → ℕ
newest h = last_of (λ e. true) h

-- instants are 4 or more
abbrev pub Sorted : List Event → Type 0
Sorted [] = Unit {0}
Sorted (e ∷ h) = (4 ≤ e.at) × Sorted h

-- a bank, where there is one, is below n
abbrev pub Within : ℕ → Option ℕ → Type 0
Within n None = Unit {0}
Within n (Some b) = b < n

abbrev pub All : (Event → Type 0) → List Event → Type 0
All P [] = Unit {0}
All P (e ∷ h) = P e × All P h

pub all_map : (P Q : Event → Type 0) → ((e : Event) → P e → Q e) → (h : List Event) → All P h → All Q h
all_map P Q f [] a = tt
all_map P Q f (e ∷ h) a = (f e a.0, all_map P Q f h a.1)

-- ---- the newest decides

pub last-le-newest : (q : Event → Bool) (h : List Event) → last_of q h ≤ newest h
last-le-newest q [] = zero-le
last-le-newest q (e ∷ h) = go (q e) (last-le-newest q h)
  where
    go : (b : Bool) → last_of q h ≤ newest h → cond b (max e.at (last_of q h)) (last_of q h) ≤ max e.at (newest h)
    go true ih = omega arith
    go false ih = omega arith

-- a kind that another one holds of
pub last_within : (q p : Event → Bool) (P : Event → Type 0) → ((e : Event) → P e → q e ≡ true → p e ≡ true) → (h : List Event) → All P h → last_of q h ≤ last_of p h
last_within q p P f [] a = zero-le
last_within q p P f (e ∷ h) a = go (q e) refl (last_within q p P f h a.1)
  where
    either : (c : Bool) → last_of q h ≤ last_of p h → last_of q h ≤ cond c (max e.at (last_of p h)) (last_of p h)
    either true ih = omega arith
    either false ih = ih

    go : (b : Bool) → q e ≡ b → last_of q h ≤ last_of p h → cond b (max e.at (last_of q h)) (last_of q h) ≤ cond (p e) (max e.at (last_of p h)) (last_of p h)
    go true eb ih = rw (f e a.0 eb) (omega arith)
    go false eb ih = either (p e) ih

-- an event that is the latest of its kind
pub last-new : (b : Bool) (t l : ℕ) → (b ≡ true → l ≤ t) → cond b (max t l) l ≡ cond b t l
last-new true t l h = let m : l ≤ t = h refl in omega arith
last-new false t l h = refl

since-later : (l gap : ℕ) → 0 < l → since l gap ≡ l + gap
since-later l gap p = rw (ne_eqb l 0 (λ q. omega arith))

since-le : (l gap : ℕ) → since l gap ≤ l + gap
since-le l gap = go (eqb l 0)
  where
    go : (b : Bool) → cond b 0 (l + gap) ≤ l + gap
    go true = omega arith
    go false = omega arith

pub last-suffices : (q : Event → Bool) (gap t : ℕ) (h : List Event) → Sorted h
    → keeps (λ e. only (q e) (Some gap)) t h ≡ leb (since (last_of q h) gap) t
unfolding keeps
last-suffices q gap t [] s = sym (leb-zero t)
last-suffices q gap t (e ∷ h) s = go (q e) (eqb (last_of q h) 0) refl (last-suffices q gap t h s.1)
  where
    later : ℕ
    later = max e.at (last_of q h)

    go : (b z : Bool) → eqb (last_of q h) 0 ≡ z → keeps (λ e. only (q e) (Some gap)) t h ≡ leb (since (last_of q h) gap) t
        → spaced (only b (Some gap)) e.at t && keeps (λ e. only (q e) (Some gap)) t h ≡ leb (since (cond b later (last_of q h)) gap) t
    go false z ez ih = ih
    go true true ez ih =
        let n : last_of q h ≡ 0 = eqb-true (last_of q h) 0 ez in
        let m : later ≡ e.at = omega arith in
        rw (ih, m, since-later e.at gap (omega arith), ez) (first (leb (e.at + gap) t))
      where
        first : (c : Bool) → c && leb 0 t ≡ c
        first true = leb-zero t
        first false = refl
    go true false ez ih =
        rw (ih, since-later later gap (omega arith), ez) (sym (leb-max (e.at + gap) (last_of q h + gap) t) ∙ ap (λ (i : ℕ). leb i t) (omega arith))

pub keeps-none : (q : Event → Bool) (t : ℕ) (h : List Event) → keeps (λ e. only (q e) None) t h ≡ true
unfolding keeps
keeps-none q t [] = refl
keeps-none q t (e ∷ h) = go (q e) (keeps-none q t h)
  where
    go : (b : Bool) → keeps (λ e. only (q e) None) t h ≡ true → spaced (only b None) e.at t && keeps (λ e. only (q e) None) t h ≡ true
    go true ih = ih
    go false ih = ih

-- the same where there may be no distance
pub last-asks : (q : Event → Bool) (o : Option ℕ) (t : ℕ) (h : List Event) → Sorted h
    → keeps (λ e. only (q e) o) t h ≡ leb (asks o (last_of q h)) t
last-asks q None t h s = keeps-none q t h ∙ sym (leb-zero t)
last-asks q (Some gap) t h s = last-suffices q gap t h s

-- ---- by no bank

pub keeps-ext : (f g : Event → Option ℕ) (t : ℕ) (h : List Event) → ((e : Event) → f e ≡ g e) → keeps f t h ≡ keeps g t h
unfolding keeps
keeps-ext f g t [] same = refl
keeps-ext f g t (e ∷ h) same = rw (same e, keeps-ext f g t h same)

pub last-ext : (p q : Event → Bool) (h : List Event) → ((e : Event) → p e ≡ q e) → last_of p h ≡ last_of q h
last-ext p q [] same = refl
last-ext p q (e ∷ h) same = rw (same e, last-ext p q h same)

-- a rule that goes by what the packet and the event are alone
pub any-law : (o : Option ℕ) (f : Event → Option ℕ) (gap l t : ℕ) (h : List Event) → Sorted h → l ≡ last_of (λ e. has (f e)) h
    → keeps (λ e. over o (λ b. over (f e) (λ p. Some gap))) t h ≡ leb (bound_of o (λ b. since l gap)) t
any-law None f gap l t h s k = keeps-none (λ e. true) t h ∙ sym (leb-zero t)
any-law (Some b) f gap l t h s k = rw k (keeps-ext _ _ t h (λ e. either (f e)) ∙ last-suffices (λ e. has (f e)) gap t h s)
  where
    either : (q : Option ℕ) → over q (λ p. Some gap) ≡ only (has q) (Some gap)
    either None = refl
    either (Some p) = refl

-- ---- by the banks

-- the last instant of each bank decides
pub lasts-law : (n : ℕ) (q : ℕ → Event → Bool) (d : ℕ → Option ℕ) (l : ℕ → ℕ) (t : ℕ) (h : List Event) → Sorted h
    → ((x : ℕ) → x < n → l x ≡ last_of (q x) h)
    → all_up_to (λ x. keeps (λ e. only (q x e) (d x)) t h) n ≡ leb (max_up_to (λ x. asks (d x) (l x)) n) t
lasts-law n q d l t h s k =
    all-ext _ _ n (λ x m. last-asks (q x) (d x) t h s ∙ ap (λ (i : ℕ). leb (asks (d x) i) t) (sym (k x m)))
    ∙ sym (leb-max_up_to (λ x. asks (d x) (l x)) n t)

-- the banks and the events change places: a distance from each event that, of that event, is a test on every bank
pub swap-law : (n : ℕ) (gap : Event → Option ℕ) (q : ℕ → Event → Bool) (d : ℕ → Option ℕ) (t : ℕ) (P : Event → Type 0) (h : List Event) → All P h
    → ((e : Event) → P e → spaced (gap e) e.at t ≡ all_up_to (λ x. spaced (only (q x e) (d x)) e.at t) n)
    → keeps gap t h ≡ all_up_to (λ x. keeps (λ e. only (q x e) (d x)) t h) n
unfolding keeps
swap-law n gap q d t P [] a f = sym (all_true n)
swap-law n gap q d t P (e ∷ h) a f =
    ap₂ ◌&&◌ (f e a.0) (swap-law n gap q d t P h a.1 f)
    ∙ sym (all-and (λ x. spaced (only (q x e) (d x)) e.at t) (λ x. keeps (λ e. only (q x e) (d x)) t h) n)

one-bank : (n : ℕ) (o : Option ℕ) (d : ℕ → Option ℕ) (a t : ℕ) → Within n o
    → spaced (over o d) a t ≡ all_up_to (λ x. spaced (only (in_bank o x) (d x)) a t) n
one-bank n None d a t w = sym (all_true n)
one-bank n (Some b) d a t w =
    ap (λ (c : Bool). spaced (only c (d b)) a t) (sym (eq-eqb b b refl))
    ∙ sym (all-point (λ x. spaced (only (eqb x b) (d x)) a t) n b w (λ x m. rw (ne_eqb x b m)))

-- a rule that goes by the bank of the packet and that of the event
pub bank-law : (n : ℕ) (o : Option ℕ) (f : Event → Option ℕ) (d : ℕ → ℕ → Option ℕ) (l : ℕ → ℕ) (t : ℕ) (h : List Event) → Sorted h
    → All (λ e. Within n (f e)) h → ((x : ℕ) → x < n → l x ≡ last_of (λ e. in_bank (f e) x) h)
    → keeps (λ e. over o (λ b. over (f e) (d b))) t h ≡ leb (bound_of o (λ b. max_up_to (λ x. asks (d b x) (l x)) n)) t
bank-law n None f d l t h s w k = keeps-none (λ e. true) t h ∙ sym (leb-zero t)
bank-law n (Some b) f d l t h s w k =
    swap-law n (λ e. over (f e) (d b)) (λ x e. in_bank (f e) x) (d b) t _ h w (λ e m. one-bank n (f e) (d b) e.at t m)
    ∙ lasts-law n (λ x e. in_bank (f e) x) (d b) l t h s k

-- Laws of planes: their lengths, their numbers one by one; parts and splices side by side; the banks that bytes say.
-- Assumes nothing.
use Prim.Native.Nat.{ℕ, zero, suc, ◌+◌, ◌*◌, ◌/◌, ◌%◌, ◌<◌, ◌≤◌}
use mathlib.Core.Path.{◌≡◌, refl, sym, ap, ap₂, ◌∙◌}
use mathlib.Core.List.{List, [], ◌∷◌, ◌++◌, append_assoc, append-nil}
use mathlib.Core.Logic.{◌⊎◌, ⊎_elim}
use native.Mathlib.Nat.{add-zero, zero-add, add-suc, mul-zero, mul-le-mul_left, eq-or-lt_of_le, le_of_suc-le-suc}
use native.Mathlib.Numerals.{add-one}
use native.Mathlib.Omega.{arith}
use lib.ListN.{length, get_or, length-append, get_or-append}
use lib.Seq.{take_all, ext_get_or, get_or-append_seam}
use Rattle.num.specs.Bytes.{bytes, number, part, splice, Bytes}
use Rattle.num.proofs.ByteLaws.{length-bytes}
use Rattle.num.proofs.PartLaws.{part_left, part-seam, part_join, part-part, part-all, length-part-le, bytes-part, Bytes-append, Bytes-bytes}
use Rattle.num.proofs.SpliceLaws.{splice-more, length-splice}
use Rattle.spec_rules.specs.declared.BankTrack.{BankTrack}
use Rattle.spec_rules.specs.Channel.{idle}
use Rattle.spec_state.specs.ChannelBytes.{plane, track_in, tracks_in}

-- ---- one plane

-- one number more
pub grow : (w n : ℕ) → w * suc n ≡ w * n + w
grow w n = omega arith

pub length-plane : (w : ℕ) (f : ℕ → ℕ) (n : ℕ) → length (plane w f n) ≡ w * n
unfolding plane
length-plane w f zero = sym (mul-zero w)
length-plane w f (suc n) = simp (length-append, length-plane w f n, length-bytes, grow)

pub plane-next : (w : ℕ) (f : ℕ → ℕ) (n : ℕ) → plane w f (n + 1) ≡ plane w f n ++ bytes w (f n)
unfolding plane
plane-next w f n = rw add-one

pub plane-ext : (w : ℕ) (f g : ℕ → ℕ) (n : ℕ) → ((i : ℕ) → i < n → f i ≡ g i) → plane w f n ≡ plane w g n
unfolding plane
plane-ext w f g zero h = refl
plane-ext w f g (suc n) h = rw (plane-ext w f g n (λ i l. h i (omega arith)), h n (omega arith))

-- the first m numbers and the further ones
pub plane-join : (w : ℕ) (f : ℕ → ℕ) (m n : ℕ) → plane w f (m + n) ≡ plane w f m ++ plane w (λ i. f (m + i)) n
unfolding plane
plane-join w f m zero = rw add-zero (sym (append-nil (plane w f m)))
plane-join w f m (suc n) =
    rw (add-suc, plane-join w f m n) (append_assoc (plane w f m) (plane w (λ i. f (m + i)) n) (bytes w (f (m + n))))

pub Bytes-plane : (w : ℕ) (f : ℕ → ℕ) (n : ℕ) → Bytes (plane w f n)
unfolding plane
Bytes-plane w f zero i l = absurd (omega arith)
Bytes-plane w f (suc n) i l = Bytes-append (plane w f n) (bytes w (f n)) (Bytes-plane w f n) (Bytes-bytes w (f n)) i l

-- number i of a plane
pub part-plane : (w : ℕ) (f : ℕ → ℕ) (n i : ℕ) → i < n → part (plane w f n) (w * i) w ≡ bytes w (f i)
unfolding plane
part-plane w f zero i l = absurd (omega arith)
part-plane w f (suc n) i l = go (λ m. part-plane w f n i m) (eq-or-lt_of_le (le_of_suc-le-suc l))
  where
    front : (i < n → part (plane w f n) (w * i) w ≡ bytes w (f i)) → i < n → part (plane w f n ++ bytes w (f n)) (w * i) w ≡ bytes w (f i)
    front ih m =
        let s : w * i + w ≤ w * n = rw grow at (mul-le-mul_left w m) in
        part_left (plane w f n) (bytes w (f n)) (w * i) w (rw length-plane s) ∙ ih m

    last : i ≡ n → part (plane w f n ++ bytes w (f n)) (w * i) w ≡ bytes w (f i)
    last e =
        let s : length (bytes w (f n)) ≤ w = rw length-bytes (omega arith) in
        rw e (part-seam (plane w f n) (bytes w (f n)) (w * n) w (length-plane w f n) ∙ take_all w (bytes w (f n)) s)

    go : (i < n → part (plane w f n) (w * i) w ≡ bytes w (f i)) → (i ≡ n) ⊎ (i < n) → part (plane w f n ++ bytes w (f n)) (w * i) w ≡ bytes w (f i)
    go ih = ⊎_elim last (front ih)

-- the same in a list of which the plane is a part
pub plane-at : (b : List ℕ) (at w : ℕ) (f : ℕ → ℕ) (n i : ℕ) → part b at (w * n) ≡ plane w f n → i < n → part b (at + w * i) w ≡ bytes w (f i)
plane-at b at w f n i h l =
    let s : w * i + w ≤ w * n = rw grow at (mul-le-mul_left w l) in
    sym (part-part b at (w * n) (w * i) w s) ∙ ap (λ (p : List ℕ). part p (w * i) w) h ∙ part-plane w f n i l

-- the numbers read off a list of bytes, written out again
pub plane-part : (b : List ℕ) (w at : ℕ) (f : ℕ → ℕ) (n : ℕ) → Bytes b → at + w * n ≤ length b
    → ((i : ℕ) → i < n → f i ≡ number (part b (at + w * i) w)) → plane w f n ≡ part b at (w * n)
unfolding plane
plane-part b w at f zero h l e = rw mul-zero
plane-part b w at f (suc n) h l e =
    let g = grow w n in
    let x : bytes w (number (part b (at + w * n) w)) ≡ part b (at + w * n) w = bytes-part b (at + w * n) w h (omega arith) in
    rw (plane-part b w at f n h (omega arith) (λ i m. e i (omega arith)), e n (omega arith), x, g) (sym (part_join b at (w * n) w))

-- ---- parts of an append

-- the two parts of a part that is an append
pub part-split : (b : List ℕ) (at m n : ℕ) (xs ys : List ℕ) → length xs ≡ m → part b at (m + n) ≡ xs ++ ys
    → (part b at m ≡ xs) × (part b (at + m) n ≡ ys)
part-split b at m n xs ys e h =
    let s : length ys ≤ n = omega (arith, length-append xs ys, ap length h, length-part-le b at (m + n)) in
    let p : part b at m ≡ part (xs ++ ys) 0 m = ap (λ (k : ℕ). part b k m) (sym (add-zero at)) ∙ sym (part-part b at (m + n) 0 m (omega arith)) ∙ ap (λ (l : List ℕ). part l 0 m) h in
    let q : part b (at + m) n ≡ part (xs ++ ys) m n = sym (part-part b at (m + n) m n (omega arith)) ∙ ap (λ (l : List ℕ). part l m n) h in
    (p ∙ part_left xs ys 0 m (omega arith) ∙ part-all xs m (omega arith), q ∙ part-seam xs ys m n e ∙ take_all n ys s)

-- and two parts side by side
pub part-both : (b : List ℕ) (at m n : ℕ) (xs ys : List ℕ) → xs ≡ part b at m → ys ≡ part b (at + m) n → xs ++ ys ≡ part b at (m + n)
part-both b at m n xs ys hx hy = rw (hx, hy) (sym (part_join b at m n))

-- ---- splices side by side

splice-three : (l : List ℕ) (at i j : ℕ) (a b c : List ℕ) → length a ≡ i → length b ≡ j → at + i + j ≤ length l
    → splice (splice (splice l at a) (at + i) b) (at + i + j) c ≡ splice l at (a ++ (b ++ c))
splice-three l at i j a b c ea eb h =
    let s = length-splice l at a (omega arith) in
    splice-more (splice l at a) (at + i) b c j eb (omega arith) ∙ splice-more l at a (b ++ c) i ea (omega arith)

pub splice-four : (l : List ℕ) (at i j k : ℕ) (a b c d : List ℕ) → length a ≡ i → length b ≡ j → length c ≡ k → at + i + j + k ≤ length l
    → splice (splice (splice (splice l at a) (at + i) b) (at + i + j) c) (at + i + j + k) d ≡ splice l at (a ++ (b ++ (c ++ d)))
splice-four l at i j k a b c d ea eb ec h =
    let s = length-splice l at a (omega arith) in
    splice-three (splice l at a) (at + i) j k b c d eb ec (omega arith) ∙ splice-more l at a (b ++ (c ++ d)) i ea (omega arith)

pub splice-five : (l : List ℕ) (at i j k m : ℕ) (a b c d e : List ℕ) → length a ≡ i → length b ≡ j → length c ≡ k → length d ≡ m → at + i + j + k + m ≤ length l
    → splice (splice (splice (splice (splice l at a) (at + i) b) (at + i + j) c) (at + i + j + k) d) (at + i + j + k + m) e ≡ splice l at (a ++ (b ++ (c ++ (d ++ e))))
splice-five l at i j k m a b c d e ea eb ec ed h =
    let s = length-splice l at a (omega arith) in
    splice-four (splice l at a) (at + i) j k m b c d e eb ec ed (omega arith) ∙ splice-more l at a (b ++ (c ++ (d ++ e))) i ea (omega arith)

-- the same by what each put leaves
pub put_four : (l : List ℕ) (at i j k : ℕ) (a b c d : List ℕ) → length a ≡ i → length b ≡ j → length c ≡ k → at + i + j + k ≤ length l → {x y z u : List ℕ}
    → x ≡ splice l at a → y ≡ splice x (at + i) b → z ≡ splice y (at + i + j) c → u ≡ splice z (at + i + j + k) d → u ≡ splice l at (a ++ (b ++ (c ++ d)))
put_four l at i j k a b c d ea eb ec h ex ey ez eu = eu ∙ rw (ez, ey, ex) (splice-four l at i j k a b c d ea eb ec h)

pub put_five : (l : List ℕ) (at i j k m : ℕ) (a b c d e : List ℕ) → length a ≡ i → length b ≡ j → length c ≡ k → length d ≡ m → at + i + j + k + m ≤ length l → {x y z u v : List ℕ}
    → x ≡ splice l at a → y ≡ splice x (at + i) b → z ≡ splice y (at + i + j) c → u ≡ splice z (at + i + j + k) d → v ≡ splice u (at + i + j + k + m) e
    → v ≡ splice l at (a ++ (b ++ (c ++ (d ++ e))))
put_five l at i j k m a b c d e ea eb ec ed h ex ey ez eu ev = ev ∙ rw (eu, ez, ey, ex) (splice-five l at i j k m a b c d e ea eb ec ed h)

-- ---- the banks

pub length-tracks : (b : List ℕ) (n : ℕ) → length (tracks_in b n) ≡ n
unfolding tracks_in
length-tracks b zero = refl
length-tracks b (suc n) = simp (length-append, length-tracks b n, add-one)

pub tracks-at : (b : List ℕ) (n i : ℕ) → i < n → get_or (tracks_in b n) i idle ≡ track_in b i
unfolding tracks_in
tracks-at b zero i l = absurd (omega arith)
tracks-at b (suc n) i l = go (λ m. tracks-at b n i m) (eq-or-lt_of_le (le_of_suc-le-suc l))
  where
    go : (i < n → get_or (tracks_in b n) i idle ≡ track_in b i) → (i ≡ n) ⊎ (i < n) → get_or (tracks_in b n ++ (track_in b n ∷ [])) i idle ≡ track_in b i
    go ih =
        ⊎_elim
        (λ (e : i ≡ n). rw e (rw length-tracks at (get_or-append_seam (tracks_in b n) (track_in b n) [] idle)))
        (λ (m : i < n). get_or-append (tracks_in b n) (track_in b n ∷ []) idle i (rw length-tracks m) ∙ ih m)

-- an array is the banks that bytes say if each of its elements is
pub tracks-are : (b : List ℕ) (banks : List BankTrack) (n : ℕ) → length banks ≡ n → ((i : ℕ) → i < n → get_or banks i idle ≡ track_in b i) → banks ≡ tracks_in b n
tracks-are b banks n e h =
    ext_get_or idle banks (tracks_in b n) (e ∙ sym (length-tracks b n)) (λ i l. let m : i < n = omega arith in h i m ∙ sym (tracks-at b n i m))

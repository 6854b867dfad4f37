-- A number stored into the bytes of a state: the same bytes with another number at that place.
-- Assumes nothing.
use Prim.Native.Nat.{ℕ, zero, suc, ◌+◌, ◌*◌, ◌<◌, ◌≤◌}
use mathlib.Core.Path.{◌≡◌, refl, sym, ap, ◌∙◌}
use mathlib.Core.List.{List, ◌++◌, append_assoc}
use mathlib.Core.Logic.{◌⊎◌, ⊎_elim}
use native.Mathlib.Nat.{add-zero, mul-le-mul_left, eq-or-lt_of_le, le_of_suc-le-suc}
use native.Mathlib.Omega.{arith}
use borrow.Author.Tests.{eq-eqb, ne_eqb}
use lib.ListN.{length, length-append}
use Rattle.num.specs.Bytes.{bytes, splice}
use Rattle.num.proofs.ByteLaws.{length-bytes}
use Rattle.num.proofs.SpliceLaws.{splice-left, splice-right, splice-whole}
use Rattle.spec_state.specs.ChannelBytes.{plane}
use Rattle.spec_state.specs.Form.Layout.{body, rest, Numbers, layout, with, at_figure, at_tag, at_last, at_count, at_write, at_second, at_tail}
use Rattle.spec_state.proofs.PlaneLaws.{length-plane, plane-ext, grow}

-- ---- one plane

plane-put : (w : ℕ) (f : ℕ → ℕ) (n x v : ℕ) → x < n → splice (plane w f n) (w * x) (bytes w v) ≡ plane w (with f x v) n
unfolding plane
plane-put w f zero x v l = absurd (omega arith)
plane-put w f (suc n) x v l = go (λ m. plane-put w f n x v m) (eq-or-lt_of_le (le_of_suc-le-suc l))
  where
    front : (x < n → splice (plane w f n) (w * x) (bytes w v) ≡ plane w (with f x v) n) → x < n
        → splice (plane w f n ++ bytes w (f n)) (w * x) (bytes w v) ≡ plane w (with f x v) n ++ bytes w (with f x v n)
    front ih m =
        let s : w * x + w ≤ w * n = rw grow at (mul-le-mul_left w m) in
        let k : w * x + length (bytes w v) ≤ length (plane w f n) = rw (length-bytes, length-plane) s in
        rw (ne_eqb n x (λ e. omega arith)) (splice-left (plane w f n) (bytes w (f n)) (w * x) (bytes w v) k ∙ ap (λ (p : List ℕ). p ++ bytes w (f n)) (ih m))

    last : x ≡ n → splice (plane w f n ++ bytes w (f n)) (w * x) (bytes w v) ≡ plane w (with f x v) n ++ bytes w (with f x v n)
    last e =
        let q : splice (plane w f n ++ bytes w (f n)) (w * n) (bytes w v) ≡ plane w f n ++ splice (bytes w (f n)) 0 (bytes w v) =
        rw add-zero at (splice-right (plane w f n) (bytes w (f n)) (w * n) 0 (bytes w v) (length-plane w f n))
        in
        let u : splice (bytes w (f n)) 0 (bytes w v) ≡ bytes w v = splice-whole (bytes w (f n)) (bytes w v) (length-bytes w v ∙ sym (length-bytes w (f n))) in
        rw (e, eq-eqb n n refl) (q ∙ ap (λ (p : List ℕ). plane w f n ++ p) u ∙ ap (λ (p : List ℕ). p ++ bytes w v) (plane-ext w f (with f n v) n (λ i m. sym (rw (ne_eqb i n (λ z. omega arith))))))

    go : (x < n → splice (plane w f n) (w * x) (bytes w v) ≡ plane w (with f x v) n) → (x ≡ n) ⊎ (x < n)
        → splice (plane w f n ++ bytes w (f n)) (w * x) (bytes w v) ≡ plane w (with f x v) n ++ bytes w (with f x v n)
    go ih = ⊎_elim last (front ih)

-- before other bytes
plane-in : (w : ℕ) (f : ℕ → ℕ) (n x v : ℕ) (r : List ℕ) → x < n → splice (plane w f n ++ r) (w * x) (bytes w v) ≡ plane w (with f x v) n ++ r
plane-in w f n x v r l =
    let s : w * x + w ≤ w * n = rw grow at (mul-le-mul_left w l) in
    let k : w * x + length (bytes w v) ≤ length (plane w f n) = rw (length-bytes, length-plane) s in
    splice-left (plane w f n) r (w * x) (bytes w v) k ∙ ap (λ (p : List ℕ). p ++ r) (plane-put w f n x v l)

-- and in what comes after a plane of instants
past : (f : ℕ → ℕ) (r : List ℕ) (at : ℕ) (vs : List ℕ) → splice (plane 4 f 32 ++ r) (128 + at) vs ≡ plane 4 f 32 ++ splice r at vs
past f r at vs = splice-right (plane 4 f 32) r 128 at vs (length-plane 4 f 32)

module _ (f0 f1 f2 f3 f4 g : ℕ → ℕ) (r : List ℕ) (x : ℕ) (l : x < 32) (v : ℕ) where
  put-0 : splice (body f0 f1 f2 f3 f4 g r) (4 * x) (bytes 4 v) ≡ body (with f0 x v) f1 f2 f3 f4 g r
  put-0 = plane-in 4 f0 32 x v _ l

  put_1 : splice (body f0 f1 f2 f3 f4 g r) (128 + 4 * x) (bytes 4 v) ≡ body f0 (with f1 x v) f2 f3 f4 g r
  put_1 = past f0 _ (4 * x) (bytes 4 v) ∙ ap (λ (p : List ℕ). plane 4 f0 32 ++ p) (plane-in 4 f1 32 x v _ l)

  put_2 : splice (body f0 f1 f2 f3 f4 g r) (256 + 4 * x) (bytes 4 v) ≡ body f0 f1 (with f2 x v) f3 f4 g r
  put_2 =
      let e : 256 + 4 * x ≡ 128 + (128 + 4 * x) = omega arith in
      ap (λ (n : ℕ). splice (body f0 f1 f2 f3 f4 g r) n (bytes 4 v)) e
      ∙ past f0 _ (128 + 4 * x) (bytes 4 v)
      ∙ ap (λ (p : List ℕ). plane 4 f0 32 ++ p) (past f1 _ (4 * x) (bytes 4 v) ∙ ap (λ (p : List ℕ). plane 4 f1 32 ++ p) (plane-in 4 f2 32 x v _ l))

  put_3 : splice (body f0 f1 f2 f3 f4 g r) (384 + 4 * x) (bytes 4 v) ≡ body f0 f1 f2 (with f3 x v) f4 g r
  put_3 =
      let e : 384 + 4 * x ≡ 128 + (128 + (128 + 4 * x)) = omega arith in
      ap (λ (n : ℕ). splice (body f0 f1 f2 f3 f4 g r) n (bytes 4 v)) e
      ∙ past f0 _ (128 + (128 + 4 * x)) (bytes 4 v)
      ∙ ap (λ (p : List ℕ). plane 4 f0 32 ++ p) (past f1 _ (128 + 4 * x) (bytes 4 v) ∙ ap (λ (p : List ℕ). plane 4 f1 32 ++ p) (past f2 _ (4 * x) (bytes 4 v) ∙ ap (λ (p : List ℕ). plane 4 f2 32 ++ p) (plane-in 4 f3 32 x v _ l)))

  put_4 : splice (body f0 f1 f2 f3 f4 g r) (512 + 4 * x) (bytes 4 v) ≡ body f0 f1 f2 f3 (with f4 x v) g r
  put_4 =
      let e : 512 + 4 * x ≡ 128 + (128 + (128 + (128 + 4 * x))) = omega arith in
      ap (λ (n : ℕ). splice (body f0 f1 f2 f3 f4 g r) n (bytes 4 v)) e
      ∙ past f0 _ (128 + (128 + (128 + 4 * x))) (bytes 4 v)
      ∙ ap (λ (p : List ℕ). plane 4 f0 32 ++ p) (past f1 _ (128 + (128 + 4 * x)) (bytes 4 v) ∙ ap (λ (p : List ℕ). plane 4 f1 32 ++ p) (past f2 _ (128 + 4 * x) (bytes 4 v) ∙ ap (λ (p : List ℕ). plane 4 f2 32 ++ p) (past f3 _ (4 * x) (bytes 4 v) ∙ ap (λ (p : List ℕ). plane 4 f3 32 ++ p) (plane-in 4 f4 32 x v _ l))))

  put-5 : splice (body f0 f1 f2 f3 f4 g r) (640 + 2 * x) (bytes 2 v) ≡ body f0 f1 f2 f3 f4 (with g x v) r
  put-5 =
      let e : 640 + 2 * x ≡ 128 + (128 + (128 + (128 + (128 + 2 * x)))) = omega arith in
      ap (λ (n : ℕ). splice (body f0 f1 f2 f3 f4 g r) n (bytes 2 v)) e
      ∙ past f0 _ (128 + (128 + (128 + (128 + 2 * x)))) (bytes 2 v)
      ∙ ap (λ (p : List ℕ). plane 4 f0 32 ++ p) (past f1 _ (128 + (128 + (128 + 2 * x))) (bytes 2 v) ∙ ap (λ (p : List ℕ). plane 4 f1 32 ++ p) (past f2 _ (128 + (128 + 2 * x)) (bytes 2 v) ∙ ap (λ (p : List ℕ). plane 4 f2 32 ++ p) (past f3 _ (128 + 2 * x) (bytes 2 v) ∙ ap (λ (p : List ℕ). plane 4 f3 32 ++ p) (past f4 _ (2 * x) (bytes 2 v) ∙ ap (λ (p : List ℕ). plane 4 f4 32 ++ p) (plane-in 2 g 32 x v r l)))))

-- ---- after the planes

past-planes : (f0 f1 f2 f3 f4 g : ℕ → ℕ) (r : List ℕ) (at : ℕ) (vs : List ℕ) → splice (body f0 f1 f2 f3 f4 g r) (704 + at) vs ≡ body f0 f1 f2 f3 f4 g (splice r at vs)
past-planes f0 f1 f2 f3 f4 g r at vs =
    let xs : List ℕ = plane 4 f0 32 ++ (plane 4 f1 32 ++ (plane 4 f2 32 ++ (plane 4 f3 32 ++ (plane 4 f4 32 ++ plane 2 g 32)))) in
    let k : length xs ≡ 704 = simp (length-append, length-plane) in
    let join : (q : List ℕ) → body f0 f1 f2 f3 f4 g q ≡ xs ++ q = λ q. simp append_assoc in
    ap (λ (b : List ℕ). splice b (704 + at) vs) (join r) ∙ splice-right xs r 704 at vs k ∙ sym (join (splice r at vs))

-- in a row of numbers: at the front, or past the first list
here : (xs ys q : List ℕ) → length xs ≡ length ys → splice (xs ++ q) 0 ys ≡ ys ++ q
here xs ys q e = splice-left xs q 0 ys (omega arith) ∙ ap (λ (b : List ℕ). b ++ q) (splice-whole xs ys (sym e))

skip : (xs q : List ℕ) (k at : ℕ) (vs ws : List ℕ) → length xs ≡ k → splice q at vs ≡ ws → splice (xs ++ q) (k + at) vs ≡ xs ++ ws
skip xs q k at vs ws e h = splice-right xs q k at vs e ∙ ap (λ (b : List ℕ). xs ++ b) h

same : (w v u : ℕ) → length (bytes w v) ≡ length (bytes w u)
same w v u = length-bytes w v ∙ sym (length-bytes w u)

-- past the six planes, the bytes before the count, and those before the tail
module _ (l w c n d p count write second : ℕ) (q : List ℕ) where
  rest_0 : (v : ℕ) → splice (rest l w c n d p count write second q) 0 (bytes 4 v) ≡ rest v w c n d p count write second q
  rest_0 v = here (bytes 4 l) (bytes 4 v) _ (same 4 l v)

  rest-4 : (v : ℕ) → splice (rest l w c n d p count write second q) 4 (bytes 4 v) ≡ rest l v c n d p count write second q
  rest-4 v = skip (bytes 4 l) _ 4 0 (bytes 4 v) _ (length-bytes 4 l) (here (bytes 4 w) (bytes 4 v) _ (same 4 w v))

  rest-8 : (v : ℕ) → splice (rest l w c n d p count write second q) 8 (bytes 4 v) ≡ rest l w v n d p count write second q
  rest-8 v = skip (bytes 4 l) _ 4 4 (bytes 4 v) _ (length-bytes 4 l) (skip (bytes 4 w) _ 4 0 (bytes 4 v) _ (length-bytes 4 w) (here (bytes 4 c) (bytes 4 v) _ (same 4 c v)))

  rest-12 : (v : ℕ) → splice (rest l w c n d p count write second q) 12 (bytes 4 v) ≡ rest l w c v d p count write second q
  rest-12 v =
      skip (bytes 4 l) _ 4 8 (bytes 4 v) _ (length-bytes 4 l)
      (skip (bytes 4 w) _ 4 4 (bytes 4 v) _ (length-bytes 4 w) (skip (bytes 4 c) _ 4 0 (bytes 4 v) _ (length-bytes 4 c) (here (bytes 4 n) (bytes 4 v) _ (same 4 n v))))

  rest-16 : (v : ℕ) → splice (rest l w c n d p count write second q) 16 (bytes 4 v) ≡ rest l w c n v p count write second q
  rest-16 v =
      skip (bytes 4 l) _ 4 12 (bytes 4 v) _ (length-bytes 4 l)
      (skip (bytes 4 w) _ 4 8 (bytes 4 v) _ (length-bytes 4 w)
      (skip (bytes 4 c) _ 4 4 (bytes 4 v) _ (length-bytes 4 c) (skip (bytes 4 n) _ 4 0 (bytes 4 v) _ (length-bytes 4 n) (here (bytes 4 d) (bytes 4 v) _ (same 4 d v)))))

  rest-20 : (v : ℕ) → splice (rest l w c n d p count write second q) 20 (bytes 4 v) ≡ rest l w c n d v count write second q
  rest-20 v =
      skip (bytes 4 l) _ 4 16 (bytes 4 v) _ (length-bytes 4 l)
      (skip (bytes 4 w) _ 4 12 (bytes 4 v) _ (length-bytes 4 w)
      (skip (bytes 4 c) _ 4 8 (bytes 4 v) _ (length-bytes 4 c)
      (skip (bytes 4 n) _ 4 4 (bytes 4 v) _ (length-bytes 4 n) (skip (bytes 4 d) _ 4 0 (bytes 4 v) _ (length-bytes 4 d) (here (bytes 4 p) (bytes 4 v) _ (same 4 p v))))))

  -- past the last instants
  rest-24 : (r : List ℕ) (at : ℕ) (vs ws : List ℕ) → splice r at vs ≡ ws
      → splice (bytes 4 l ++ (bytes 4 w ++ (bytes 4 c ++ (bytes 4 n ++ (bytes 4 d ++ (bytes 4 p ++ r)))))) (24 + at) vs
      ≡ bytes 4 l ++ (bytes 4 w ++ (bytes 4 c ++ (bytes 4 n ++ (bytes 4 d ++ (bytes 4 p ++ ws)))))
  rest-24 r at vs ws h =
      let xs : List ℕ = bytes 4 l ++ (bytes 4 w ++ (bytes 4 c ++ (bytes 4 n ++ (bytes 4 d ++ bytes 4 p)))) in
      let k : length xs ≡ 24 = simp (length-append, length-bytes) in
      let join : (z : List ℕ) → bytes 4 l ++ (bytes 4 w ++ (bytes 4 c ++ (bytes 4 n ++ (bytes 4 d ++ (bytes 4 p ++ z))))) ≡ xs ++ z = λ z. simp append_assoc in
      ap (λ (b : List ℕ). splice b (24 + at) vs) (join r) ∙ skip xs r 24 at vs ws k h ∙ sym (join ws)

  rest-count : (v : ℕ) → splice (rest l w c n d p count write second q) 24 (bytes 8 v) ≡ rest l w c n d p v write second q
  rest-count v = rest-24 _ 0 (bytes 8 v) _ (here (bytes 8 count) (bytes 8 v) _ (same 8 count v))

  rest-write : (v : ℕ) → splice (rest l w c n d p count write second q) 32 (bytes 8 v) ≡ rest l w c n d p count v second q
  rest-write v = rest-24 _ 8 (bytes 8 v) _ (skip (bytes 8 count) _ 8 0 (bytes 8 v) _ (length-bytes 8 count) (here (bytes 8 write) (bytes 8 v) _ (same 8 write v)))

  rest-second : (v : ℕ) → splice (rest l w c n d p count write second q) 40 (bytes 8 v) ≡ rest l w c n d p count write v q
  rest-second v =
      rest-24 _ 16 (bytes 8 v) _
      (skip (bytes 8 count) _ 8 8 (bytes 8 v) _ (length-bytes 8 count) (skip (bytes 8 write) _ 8 0 (bytes 8 v) _ (length-bytes 8 write) (here (bytes 8 second) (bytes 8 v) _ (same 8 second v))))

  rest-tail : (at : ℕ) (vs : List ℕ) → splice (rest l w c n d p count write second q) (48 + at) vs ≡ rest l w c n d p count write second (splice q at vs)
  rest-tail at vs =
      let e : 48 + at ≡ 24 + (8 + (8 + (8 + at))) = omega arith in
      ap (λ (i : ℕ). splice (rest l w c n d p count write second q) i vs) e
      ∙ rest-24 _ (8 + (8 + (8 + at))) vs _
      (skip (bytes 8 count) _ 8 (8 + (8 + at)) vs _ (length-bytes 8 count)
      (skip (bytes 8 write) _ 8 (8 + at) vs _ (length-bytes 8 write) (splice-right (bytes 8 second) q 8 at vs (length-bytes 8 second))))

-- ---- a store, by its place

module _ (n : Numbers) where
  abbrev past_to : (at : ℕ) (vs r : List ℕ) → splice (rest (n.last 0) (n.last 1) (n.last 2) (n.last 3) (n.last 4) (n.last 5) n.count n.write n.second n.tail) at vs ≡ r
      → splice (body (n.figure 0) (n.figure 1) (n.figure 2) (n.figure 3) (n.figure 4) n.tag
      (rest (n.last 0) (n.last 1) (n.last 2) (n.last 3) (n.last 4) (n.last 5) n.count n.write n.second n.tail)) (704 + at) vs
      ≡ body (n.figure 0) (n.figure 1) (n.figure 2) (n.figure 3) (n.figure 4) n.tag r
  past_to at vs r e =
      past-planes (n.figure 0) (n.figure 1) (n.figure 2) (n.figure 3) (n.figure 4) n.tag _ at vs
      ∙ ap (λ (z : List ℕ). body (n.figure 0) (n.figure 1) (n.figure 2) (n.figure 3) (n.figure 4) n.tag z) e

  module _ (v : ℕ) where
    pub put-opened : (x : ℕ) → x < 32 → splice (layout n) (4 * x) (bytes 4 v) ≡ layout (at_figure 0 x v n)
    unfolding layout
    put-opened x l = put-0 _ _ _ _ _ _ _ x l v

    pub put-act : (x : ℕ) → x < 32 → splice (layout n) (128 + 4 * x) (bytes 4 v) ≡ layout (at_figure 1 x v n)
    unfolding layout
    put-act x l = put_1 _ _ _ _ _ _ _ x l v

    pub put-pre : (x : ℕ) → x < 32 → splice (layout n) (256 + 4 * x) (bytes 4 v) ≡ layout (at_figure 2 x v n)
    unfolding layout
    put-pre x l = put_2 _ _ _ _ _ _ _ x l v

    pub put-rd : (x : ℕ) → x < 32 → splice (layout n) (384 + 4 * x) (bytes 4 v) ≡ layout (at_figure 3 x v n)
    unfolding layout
    put-rd x l = put_3 _ _ _ _ _ _ _ x l v

    pub put-retire : (x : ℕ) → x < 32 → splice (layout n) (512 + 4 * x) (bytes 4 v) ≡ layout (at_figure 4 x v n)
    unfolding layout
    put-retire x l = put_4 _ _ _ _ _ _ _ x l v

    pub put-tag : (x : ℕ) → x < 32 → splice (layout n) (640 + 2 * x) (bytes 2 v) ≡ layout (at_tag x v n)
    unfolding layout
    put-tag x l = put-5 _ _ _ _ _ _ _ x l v

    pub put-704 : splice (layout n) 704 (bytes 4 v) ≡ layout (at_last 0 v n)
    unfolding layout
    put-704 = past_to 0 (bytes 4 v) _ (rest_0 _ _ _ _ _ _ _ _ _ _ v)

    pub put-708 : splice (layout n) 708 (bytes 4 v) ≡ layout (at_last 1 v n)
    unfolding layout
    put-708 = past_to 4 (bytes 4 v) _ (rest-4 _ _ _ _ _ _ _ _ _ _ v)

    pub put-712 : splice (layout n) 712 (bytes 4 v) ≡ layout (at_last 2 v n)
    unfolding layout
    put-712 = past_to 8 (bytes 4 v) _ (rest-8 _ _ _ _ _ _ _ _ _ _ v)

    pub put-716 : splice (layout n) 716 (bytes 4 v) ≡ layout (at_last 3 v n)
    unfolding layout
    put-716 = past_to 12 (bytes 4 v) _ (rest-12 _ _ _ _ _ _ _ _ _ _ v)

    pub put-720 : splice (layout n) 720 (bytes 4 v) ≡ layout (at_last 4 v n)
    unfolding layout
    put-720 = past_to 16 (bytes 4 v) _ (rest-16 _ _ _ _ _ _ _ _ _ _ v)

    pub put-724 : splice (layout n) 724 (bytes 4 v) ≡ layout (at_last 5 v n)
    unfolding layout
    put-724 = past_to 20 (bytes 4 v) _ (rest-20 _ _ _ _ _ _ _ _ _ _ v)

    pub put_count : splice (layout n) 728 (bytes 8 v) ≡ layout (at_count v n)
    unfolding layout
    put_count = past_to 24 (bytes 8 v) _ (rest-count _ _ _ _ _ _ _ _ _ _ v)

    pub put-write : splice (layout n) 736 (bytes 8 v) ≡ layout (at_write v n)
    unfolding layout
    put-write = past_to 32 (bytes 8 v) _ (rest-write _ _ _ _ _ _ _ _ _ _ v)

    pub put_second : splice (layout n) 744 (bytes 8 v) ≡ layout (at_second v n)
    unfolding layout
    put_second = past_to 40 (bytes 8 v) _ (rest-second _ _ _ _ _ _ _ _ _ _ v)

  -- into the bytes after the channel's
  pub put-tail : (at : ℕ) (vs : List ℕ) → splice (layout n) (752 + at) vs ≡ layout (at_tail (splice n.tail at vs) n)
  unfolding layout
  put-tail at vs =
      let e : 752 + at ≡ 704 + (48 + at) = omega arith in
      rw e (past_to (48 + at) vs _ (rest-tail _ _ _ _ _ _ _ _ _ _ at vs))

-- six planes with the same numbers, before the same bytes
pub body_ext : {f0 f1 f2 f3 f4 g h0 h1 h2 h3 h4 k : ℕ → ℕ} {r q : List ℕ}
    → ((i : ℕ) → i < 32 → f0 i ≡ h0 i) → ((i : ℕ) → i < 32 → f1 i ≡ h1 i) → ((i : ℕ) → i < 32 → f2 i ≡ h2 i)
    → ((i : ℕ) → i < 32 → f3 i ≡ h3 i) → ((i : ℕ) → i < 32 → f4 i ≡ h4 i) → ((i : ℕ) → i < 32 → g i ≡ k i)
    → r ≡ q → body f0 f1 f2 f3 f4 g r ≡ body h0 h1 h2 h3 h4 k q
body_ext {f0} {f1} {f2} {f3} {f4} {g} {h0} {h1} {h2} {h3} {h4} {k} e0 e1 e2 e3 e4 e5 e =
    rw (plane-ext 4 f0 h0 32 e0, plane-ext 4 f1 h1 32 e1, plane-ext 4 f2 h2 32 e2, plane-ext 4 f3 h3 32 e3, plane-ext 4 f4 h4 32 e4, plane-ext 2 g k 32 e5, e)

-- two states with the same numbers
pub layout-ext : (n m : Numbers)
    → ((i : ℕ) → i < 32 → n.figure 0 i ≡ m.figure 0 i) → ((i : ℕ) → i < 32 → n.figure 1 i ≡ m.figure 1 i) → ((i : ℕ) → i < 32 → n.figure 2 i ≡ m.figure 2 i)
    → ((i : ℕ) → i < 32 → n.figure 3 i ≡ m.figure 3 i) → ((i : ℕ) → i < 32 → n.figure 4 i ≡ m.figure 4 i) → ((i : ℕ) → i < 32 → n.tag i ≡ m.tag i)
    → n.last 0 ≡ m.last 0 → n.last 1 ≡ m.last 1 → n.last 2 ≡ m.last 2 → n.last 3 ≡ m.last 3 → n.last 4 ≡ m.last 4 → n.last 5 ≡ m.last 5
    → n.count ≡ m.count → n.write ≡ m.write → n.second ≡ m.second → n.tail ≡ m.tail → layout n ≡ layout m
unfolding layout
layout-ext n m e0 e1 e2 e3 e4 e5 l0 l1 l2 l3 l4 l5 c w y t = body_ext e0 e1 e2 e3 e4 e5 (rw (l0, l1, l2, l3, l4, l5, c, w, y, t))

-- A page byte by byte; the cycles of a page are all that a record counts for.
-- Assumes nothing.
use Rattle.std.specs.Prelude.{None}
use Prim.Native.Nat.{ℕ, zero, suc, ◌+◌, ◌-◌, ◌*◌, ◌/◌, ◌%◌, ◌≤◌, ◌<◌}
use mathlib.Core.Path.{◌≡◌, refl, sym, ap, ap₂, ◌∙◌}
use mathlib.Core.Bool.{Bool, true, false, ◌&&◌, cond}
use mathlib.Core.List.{List, [], ◌∷◌, ◌++◌}
use lib.Dec.{leb, ltb}
use lib.ListN.{length, get_or, length-append, get_or-append}
use lib.Seq.{get_or-append-add}
use borrow.Author.Tests.{leb-true, leb-false, ltb-true, ltb-false, le-leb, lt-ltb, le-ltb}
use native.Mathlib.Omega.{arith}
use Rattle.settings.specs.declared.Settings.{Settings}
use Rattle.record.specs.declared.Record.{Record}
use Rattle.spec_page.specs.Page.{Line, ROW, COL, DQ, shows, or_else, cell, scale, filled, name_of, up_to, page_cycles, page_line, page}
use Rattle.spec_page.specs.Theorems.{Characters, OutsideCountsNot}
use Rattle.spec_page.specs.Form.Bytes.{names, byte_by, characters}

-- ---- a list by its indices

pub length_up : (f : ℕ → ℕ) (n : ℕ) → length (up_to f n) ≡ n
unfolding up_to
length_up f zero = refl
length_up f (suc n) = length-append (up_to f n) (f n ∷ []) ∙ rw (length_up f n) (omega arith)

up-ext : (f g : ℕ → ℕ) (n : ℕ) → ((k : ℕ) → k < n → f k ≡ g k) → up_to f n ≡ up_to g n
unfolding up_to
up-ext f g zero h = refl
up-ext f g (suc n) h = rw (up-ext f g n (λ k m. h k (omega arith)), h n (omega arith))

-- an append at an index: in its first part, and in its second
at_left : (xs ys : List ℕ) (n i : ℕ) → length xs ≡ n → i < n → get_or (xs ++ ys) i 0 ≡ get_or xs i 0
at_left xs ys n i e h = get_or-append xs ys 0 i (omega arith)

at_right : (xs ys : List ℕ) (n i : ℕ) → length xs ≡ n → n ≤ i → get_or (xs ++ ys) i 0 ≡ get_or ys (i - n) 0
at_right xs ys n i e h =
    let q : i ≡ length xs + (i - n) = omega arith in
    ap (λ k. get_or (xs ++ ys) k 0) q ∙ get_or-append-add xs ys (i - n) 0

get_or-up : (f : ℕ → ℕ) (n i : ℕ) → i < n → get_or (up_to f n) i 0 ≡ f i
unfolding up_to
get_or-up f zero i h = absurd (omega arith)
get_or-up f (suc n) i h = go (ltb i n) refl (get_or-up f n i)
  where
    go : (b : Bool) → ltb i n ≡ b → (i < n → get_or (up_to f n) i 0 ≡ f i) → get_or (up_to f n ++ (f n ∷ [])) i 0 ≡ f i
    go true e ih = at_left (up_to f n) (f n ∷ []) n i (length_up f n) (ltb-true i n e) ∙ ih (ltb-true i n e)
    go false e ih =
        let m : n ≤ i = ltb-false i n e in
        let q : i ≡ n = omega arith in
        at_right (up_to f n) (f n ∷ []) n i (length_up f n) m ∙ ap (λ k. get_or (f n ∷ []) k 0) (let z : i - n ≡ 0 = omega arith in z) ∙ ap f (sym q)

-- ---- one line

module _ (name : List ℕ) (f : ℕ → ℕ) (start : ℕ) (named : length (filled name) ≡ 8) where
  abbrev cycles : List ℕ
  cycles = up_to (λ k. f (start + k)) page_cycles

  length-line : length (page_line name f start) ≡ 73
  unfolding page_line
  length-line =
      length-append (filled name) (cycles ++ (10 ∷ [])) ∙ ap₂ ◌+◌ named (length-append cycles (10 ∷ []) ∙ ap (λ n. n + 1) (length_up (λ k. f (start + k)) page_cycles))

  -- byte k of it
  line-byte : (k : ℕ) → k < 73
      → get_or (page_line name f start) k 0 ≡ cond (leb 8 k && ltb k 72) (f (start + (k - 8))) (cond (ltb k 8) (get_or (filled name) k 0) 10)
  unfolding page_line
  line-byte k h = go (leb 8 k) refl (ltb k 72) refl
    where
      go : (a : Bool) → leb 8 k ≡ a → (b : Bool) → ltb k 72 ≡ b
          → get_or (filled name ++ (cycles ++ (10 ∷ []))) k 0 ≡ cond (a && b) (f (start + (k - 8))) (cond (ltb k 8) (get_or (filled name) k 0) 10)
      go false e b q =
          let m : k < 8 = leb-false 8 k e in
          rw (lt-ltb k 8 m) (at_left (filled name) (cycles ++ (10 ∷ [])) 8 k named m)
      go true e true q =
          let m : 8 ≤ k = leb-true 8 k e in
          let n : k < 72 = ltb-true k 72 q in
          at_right (filled name) (cycles ++ (10 ∷ [])) 8 k named m
          ∙ at_left cycles (10 ∷ []) page_cycles (k - 8) (length_up (λ k. f (start + k)) page_cycles) (omega arith)
          ∙ get_or-up (λ k. f (start + k)) page_cycles (k - 8) (omega arith)
      go true e false q =
          let m : 8 ≤ k = leb-true 8 k e in
          let n : 72 ≤ k = ltb-false k 72 q in
          rw (le-ltb k 8 m)
          (at_right (filled name) (cycles ++ (10 ∷ [])) 8 k named m
          ∙ at_right cycles (10 ∷ []) page_cycles (k - 8) (length_up (λ k. f (start + k)) page_cycles) (omega arith)
          ∙ ap (λ i. get_or (10 ∷ []) i 0) (let z : k - 8 - 64 ≡ 0 = omega arith in z))

-- ---- the four lines

row_named : length (filled (name_of ROW)) ≡ 8
unfolding filled name_of
row_named = refl

col-named : length (filled (name_of COL)) ≡ 8
unfolding filled name_of
col-named = refl

dq-named : length (filled (name_of DQ)) ≡ 8
unfolding filled name_of
dq-named = refl

scale-named : length (filled []) ≡ 8
unfolding filled
scale-named = refl

module _ (s : Settings) (rs : List Record) (start : ℕ) where
  abbrev rows : List ℕ
  rows = page_line (name_of ROW) (cell s rs ROW) start

  abbrev cols : List ℕ
  cols = page_line (name_of COL) (cell s rs COL) start

  abbrev dqs : List ℕ
  dqs = page_line (name_of DQ) (cell s rs DQ) start

  abbrev scales : List ℕ
  scales = page_line [] scale start

  rows_long : length rows ≡ 73
  rows_long = length-line (name_of ROW) (cell s rs ROW) start row_named

  cols-long : length cols ≡ 73
  cols-long = length-line (name_of COL) (cell s rs COL) start col-named

  dqs-long : length dqs ≡ 73
  dqs-long = length-line (name_of DQ) (cell s rs DQ) start dq-named

  scales-long : length scales ≡ 73
  scales-long = length-line [] scale start scale-named

  pub length-page : length (page s rs start) ≡ 292
  unfolding page
  length-page =
      simp (length-append, rows_long, cols-long, dqs-long, scales-long)

  -- byte k of line n, by the bytes of a line
  placed : (f : ℕ → ℕ → ℕ) (g : ℕ → ℕ) (name : List ℕ) (i n k : ℕ) → i / 73 ≡ n → i % 73 ≡ k → ((c : ℕ) → f n c ≡ g c) → (k < 8 → get_or names (8 * n + k) 0 ≡ get_or (filled name) k 0)
      → cond (leb 8 k && ltb k 72) (g (start + (k - 8))) (cond (ltb k 8) (get_or (filled name) k 0) 10) ≡ byte_by f start i
  unfolding byte_by
  placed f g name i n k en ek same named = rw (en, ek, same) (ap (λ x. cond (leb 8 k && ltb k 72) (g (start + (k - 8))) x) (go (ltb k 8) refl))
    where
      go : (b : Bool) → ltb k 8 ≡ b → cond b (get_or (filled name) k 0) 10 ≡ cond b (get_or names (8 * n + k) 0) 10
      go true e = sym (named (ltb-true k 8 e))
      go false e = refl

  -- the names among all of them
  names-row : (k : ℕ) → k < 8 → get_or names (8 * 0 + k) 0 ≡ get_or (filled (name_of ROW)) k 0
  unfolding names
  names-row k h = at_left (filled (name_of ROW)) _ 8 (8 * 0 + k) row_named (omega arith) ∙ ap (λ i. get_or (filled (name_of ROW)) i 0) (let z : 8 * 0 + k ≡ k = omega arith in z)

  names-col : (k : ℕ) → k < 8 → get_or names (8 * 1 + k) 0 ≡ get_or (filled (name_of COL)) k 0
  unfolding names
  names-col k h =
      at_right (filled (name_of ROW)) _ 8 (8 * 1 + k) row_named (omega arith)
      ∙ at_left (filled (name_of COL)) _ 8 (8 * 1 + k - 8) col-named (omega arith)
      ∙ ap (λ i. get_or (filled (name_of COL)) i 0) (let z : 8 * 1 + k - 8 ≡ k = omega arith in z)

  names-dq : (k : ℕ) → k < 8 → get_or names (8 * 2 + k) 0 ≡ get_or (filled (name_of DQ)) k 0
  unfolding names
  names-dq k h =
      at_right (filled (name_of ROW)) _ 8 (8 * 2 + k) row_named (omega arith)
      ∙ at_right (filled (name_of COL)) _ 8 (8 * 2 + k - 8) col-named (omega arith)
      ∙ at_left (filled (name_of DQ)) _ 8 (8 * 2 + k - 8 - 8) dq-named (omega arith)
      ∙ ap (λ i. get_or (filled (name_of DQ)) i 0) (let z : 8 * 2 + k - 8 - 8 ≡ k = omega arith in z)

  names-scale : (k : ℕ) → k < 8 → get_or names (8 * 3 + k) 0 ≡ get_or (filled []) k 0
  unfolding names
  names-scale k h =
      at_right (filled (name_of ROW)) _ 8 (8 * 3 + k) row_named (omega arith)
      ∙ at_right (filled (name_of COL)) _ 8 (8 * 3 + k - 8) col-named (omega arith)
      ∙ at_right (filled (name_of DQ)) _ 8 (8 * 3 + k - 8 - 8) dq-named (omega arith)
      ∙ ap (λ i. get_or (filled []) i 0) (let z : 8 * 3 + k - 8 - 8 - 8 ≡ k = omega arith in z)

  pub page-byte : (i : ℕ) → i < 292 → get_or (page s rs start) i 0 ≡ byte_by (characters s rs) start i
  unfolding page characters
  page-byte i h = go (ltb i 73) refl (ltb i 146) refl (ltb i 219) refl
    where
      go : (a : Bool) → ltb i 73 ≡ a → (b : Bool) → ltb i 146 ≡ b → (c : Bool) → ltb i 219 ≡ c → get_or (rows ++ (cols ++ (dqs ++ scales))) i 0 ≡ byte_by (characters s rs) start i
      go true e b p c q =
          let m : i < 73 = ltb-true i 73 e in
          at_left rows _ 73 i rows_long m ∙ line-byte (name_of ROW) (cell s rs ROW) start row_named i m
          ∙ placed (characters s rs) (cell s rs ROW) (name_of ROW) i 0 i (omega arith) (omega arith) (λ x. refl) (names-row i)
      go false e true p c q =
          let m : 73 ≤ i = ltb-false i 73 e in
          let n : i < 146 = ltb-true i 146 p in
          at_right rows _ 73 i rows_long m ∙ at_left cols _ 73 (i - 73) cols-long (omega arith) ∙ line-byte (name_of COL) (cell s rs COL) start col-named (i - 73) (omega arith)
          ∙ placed (characters s rs) (cell s rs COL) (name_of COL) i 1 (i - 73) (omega arith) (omega arith) (λ x. refl) (names-col (i - 73))
      go false e false p true q =
          let m : 146 ≤ i = ltb-false i 146 p in
          let n : i < 219 = ltb-true i 219 q in
          at_right rows _ 73 i rows_long (omega arith) ∙ at_right cols _ 73 (i - 73) cols-long (omega arith) ∙ at_left dqs _ 73 (i - 73 - 73) dqs-long (omega arith)
          ∙ line-byte (name_of DQ) (cell s rs DQ) start dq-named (i - 73 - 73) (omega arith)
          ∙ placed (characters s rs) (cell s rs DQ) (name_of DQ) i 2 (i - 73 - 73) (omega arith) (omega arith) (λ x. refl) (names-dq (i - 73 - 73))
      go false e false p false q =
          let m : 219 ≤ i = ltb-false i 219 q in
          at_right rows _ 73 i rows_long (omega arith) ∙ at_right cols _ 73 (i - 73) cols-long (omega arith) ∙ at_right dqs _ 73 (i - 73 - 73) dqs-long (omega arith)
          ∙ line-byte [] scale start scale-named (i - 73 - 73 - 73) (omega arith)
          ∙ placed (characters s rs) scale [] i 3 (i - 73 - 73 - 73) (omega arith) (omega arith) (λ x. refl) (names-scale (i - 73 - 73 - 73))

  -- ---- "Each character is fixed by list, settings and start"

  -- character k of line n
  in-line : (n k : ℕ) → n < 4 → k < page_cycles → get_or (page s rs start) (n * 73 + 8 + k) 0 ≡ characters s rs n (start + k)
  unfolding byte_by
  in-line n k h m =
      let en : (n * 73 + 8 + k) / 73 ≡ n = omega arith in
      let ek : (n * 73 + 8 + k) % 73 ≡ 8 + k = omega arith in
      let z : 8 + k - 8 ≡ k = omega arith in
      page-byte (n * 73 + 8 + k) (omega arith) ∙ rw (en, ek, le-leb 8 (8 + k) (omega arith), lt-ltb (8 + k) 72 (omega arith), z)

  pub characters-right : Characters s rs start
  unfolding characters
  characters-right =
      record {
        size = length-page;
        row = λ k h. in-line 0 k (omega arith) h;
        col = λ k h. in-line 1 k (omega arith) h;
        dq = λ k h. in-line 2 k (omega arith) h;
        of-scale = λ k h. in-line 3 k (omega arith) h;
      }

-- ---- a record outside the page

cell-without : (s : Settings) (xs : List Record) (r : Record) (ys : List Record) (y : Line) (c : ℕ) → shows s y r c ≡ None → cell s (xs ++ r ∷ ys) y c ≡ cell s (xs ++ ys) y c
unfolding cell
cell-without s [] r ys y c e = rw e
cell-without s (x ∷ xs) r ys y c e = ap (or_else (shows s y x c)) (cell-without s xs r ys y c e)

line-ext : (name : List ℕ) (f g : ℕ → ℕ) (start : ℕ) → ((c : ℕ) → start ≤ c → c < start + page_cycles → f c ≡ g c) → page_line name f start ≡ page_line name g start
unfolding page_line
line-ext name f g start h = ap (λ x. filled name ++ (x ++ (10 ∷ []))) (up-ext (λ k. f (start + k)) (λ k. g (start + k)) page_cycles (λ k m. h (start + k) (omega arith) (omega arith)))

pub outside-counts-not : (s : Settings) (start : ℕ) → OutsideCountsNot s start
unfolding page
outside-counts-not s start xs r ys out =
    let of : (y : Line) → page_line (name_of y) (cell s (xs ++ r ∷ ys) y) start ≡ page_line (name_of y) (cell s (xs ++ ys) y) start =
    λ y. line-ext (name_of y) (cell s (xs ++ r ∷ ys) y) (cell s (xs ++ ys) y) start (λ c l h. cell-without s xs r ys y c (out y c l h))
    in
    rw (of ROW, of COL, of DQ)

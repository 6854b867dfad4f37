-- A mark on a page, byte by byte: one cycle, one cycle more, and the page with one record more.
-- Assumes nothing.
use Rattle.std.specs.Prelude.{None, Some}
use Prim.Native.Nat.{ℕ, ◌+◌, ◌-◌, ◌*◌, ◌/◌, ◌%◌, ◌≤◌, ◌<◌}
use Prim.Native.Char.{code}
use mathlib.Core.Path.{◌≡◌, refl, sym, ap, ◌∙◌}
use mathlib.Core.Bool.{Bool, true, false, ◌&&◌, cond}
use mathlib.Core.List.{List, ◌∷◌}
use lib.Dec.{eqb, leb, ltb}
use lib.ListN.{length, get_or, set, length-set}
use lib.Seq.{ext_get_or, get_or-set_same, get_or-set_other}
use borrow.Author.Tests.{leb-true, ltb-true, ltb-false, le-leb, lt-ltb, eqb-true, eqb-false, eq-eqb}
use native.Mathlib.Omega.{arith}
use Rattle.settings.specs.declared.Settings.{Settings}
use Rattle.settings.specs.declared.PacketAt.{PacketAt}
use Rattle.settings.specs.declared.DataAt.{DataAt}
use Rattle.packet.specs.declared.RowPacket.{RowPacket}
use Rattle.packet.specs.declared.ColPacket.{ColPacket}
use Rattle.packet.specs.declared.ColPacket.TheVariants.{Nocop, Wr, Rd}
use Rattle.record.specs.declared.Record.{Record}
use Rattle.record.specs.declared.Dualoct.{Dualoct}
use Rattle.record.specs.declared.Record.TheVariants.{RowAt, ColAt, DataOf}
use Rattle.spec_rules.proofs.Bools.{iff-eq, not-both, and_left, and_right}
use Rattle.spec_page.specs.Page.{ROW, COL, DQ, row_letter, col_letter, before, read_shows, shows, or_else, cell, scale, page, page_bytes}
use Rattle.spec_page.specs.Form.Bytes.{byte_by, characters}
use Rattle.spec_page.proofs.PageLaws.{length-page, page-byte}
use Rattle.calls_page.specs.Form.Paint.{in_mark, Painted}

-- ---- which bytes a mark takes

pub record Inside (n start t j i : ℕ) : Type 0 where
  pub low : 73 * n + 8 ≤ i
  pub high : i < 73 * n + 72
  pub from : t + (73 * n + 8) ≤ start + 4 + i
  pub to : start + 4 + i < t + j + (73 * n + 8)

module _ (n start t j i : ℕ) where
  mark-in : in_mark n start t j i ≡ true → Inside n start t j i
  unfolding in_mark
  mark-in e =
      let a = and_left (leb (73 * n + 8) i && ltb i (73 * n + 72)) _ e in
      let b = and_right (leb (73 * n + 8) i && ltb i (73 * n + 72)) _ e in
      record {
        low = leb-true (73 * n + 8) i (and_left _ _ a);
        high = ltb-true i (73 * n + 72) (and_right (leb (73 * n + 8) i) _ a);
        from = leb-true (t + (73 * n + 8)) (start + 4 + i) (and_left _ _ b);
        to = ltb-true (start + 4 + i) (t + j + (73 * n + 8)) (and_right (leb (t + (73 * n + 8)) (start + 4 + i)) _ b);
      }

  mark_of : Inside n start t j i → in_mark n start t j i ≡ true
  unfolding in_mark
  mark_of h =
      rw (le-leb (73 * n + 8) i h.low, lt-ltb i (73 * n + 72) h.high, le-leb (t + (73 * n + 8)) (start + 4 + i) h.from, lt-ltb (start + 4 + i) (t + j + (73 * n + 8)) h.to)

  mark-not : (Inside n start t j i → ⊥) → in_mark n start t j i ≡ false
  mark-not f = go (in_mark n start t j i) refl
    where
      go : (b : Bool) → in_mark n start t j i ≡ b → b ≡ false
      go true e = absurd (f (mark-in e))
      go false e = refl

-- ---- a mark that grows

module _ (n start t letter : ℕ) where
  -- no cycle
  pub paint-none : (l : List ℕ) → Painted n start t 0 letter l l
  paint-none l = record { size = refl; bytes = λ i h. rw (mark-not n start t 0 i (λ m. let a = m.from in let b = m.to in omega arith)) }

  -- a cycle that is not on the page
  pub paint-past : (l : List ℕ) → (t < start + 4) → Painted n start t 1 letter l l
  paint-past l f = record { size = refl; bytes = λ i h. rw (mark-not n start t 1 i (λ m. let a = m.low in let b = m.to in omega arith)) }

  pub paint-late : (l : List ℕ) → start + 4 + 64 ≤ t → Painted n start t 1 letter l l
  paint-late l f = record { size = refl; bytes = λ i h. rw (mark-not n start t 1 i (λ m. let a = m.high in let b = m.from in omega arith)) }

  -- one that is
  pub paint-one : (l : List ℕ) (at : ℕ) → length l ≡ page_bytes → n < 3 → start + 4 + at ≡ t + (73 * n + 8) → 73 * n + 8 ≤ at → at < 73 * n + 72
      → Painted n start t 1 letter l (set l at letter)
  paint-one l at e k m low high = record { size = length-set l at letter; bytes = λ i h. go i h (eqb i at) refl }
    where
      go : (i : ℕ) → i < page_bytes → (b : Bool) → eqb i at ≡ b → get_or (set l at letter) i 0 ≡ cond (in_mark n start t 1 i) letter (get_or l i 0)
      go i h true q =
          let z : i ≡ at = eqb-true i at q in
          rw (mark_of n start t 1 i (record { low = omega arith; high = omega arith; from = omega arith; to = omega arith }), z) (get_or-set_same l at letter 0 (omega arith))
      go i h false q =
          let z : i ≡ at → ⊥ = eqb-false i at q in
          rw (mark-not n start t 1 i (λ x. let a = x.from in let b = x.to in z (omega arith))) (get_or-set_other l at i letter 0 z)

  -- one cycle more
  pub paint-more : (j : ℕ) (a b c : List ℕ) → Painted n start t j letter a b → Painted n start (t + j) 1 letter b c → Painted n start t (j + 1) letter a c
  paint-more j a b c p q = record { size = q.size ∙ p.size; bytes = λ i h. q.bytes i h ∙ rw (p.bytes i h) (go i (in_mark n start t j i) refl (in_mark n start (t + j) 1 i) refl) }
    where
      go : (i : ℕ) (u : Bool) → in_mark n start t j i ≡ u → (v : Bool) → in_mark n start (t + j) 1 i ≡ v → cond v letter (cond u letter (get_or a i 0)) ≡ cond (in_mark n start t (j + 1) i) letter (get_or a i 0)
      go i u eu true ev =
          let x = mark-in n start (t + j) 1 i ev in
          rw (mark_of n start t (j + 1) i (record { low = x.low; high = x.high; from = let f = x.from in omega arith; to = let f = x.to in omega arith }))
      go i true eu false ev =
          let x = mark-in n start t j i eu in
          rw (mark_of n start t (j + 1) i (record { low = x.low; high = x.high; from = x.from; to = let f = x.to in omega arith }))
      go i false eu false ev = rw (mark-not n start t (j + 1) i (λ x. split i eu ev x (ltb (start + 4 + i) (t + j + (73 * n + 8))) refl))
        where
          split : (i : ℕ) → in_mark n start t j i ≡ false → in_mark n start (t + j) 1 i ≡ false → Inside n start t (j + 1) i → (w : Bool) → ltb (start + 4 + i) (t + j + (73 * n + 8)) ≡ w → ⊥
          split i eu ev x true f = not-both (in_mark n start t j i) (mark_of n start t j i (record { low = x.low; high = x.high; from = x.from; to = ltb-true _ _ f })) eu
          split i eu ev x false f =
              let m : t + j + (73 * n + 8) ≤ start + 4 + i = ltb-false _ _ f in
              not-both (in_mark n start (t + j) 1 i) (mark_of n start (t + j) 1 i (record { low = x.low; high = x.high; from = omega arith; to = let g = x.to in omega arith })) ev

-- ---- a mark on a page

-- a test under another one
under : (b q : Bool) (x y z : ℕ) → cond (b && q) x (cond b y z) ≡ cond b (cond q x y) z
under true q x y z = refl
under false q x y z = refl

-- what a mark makes of the character at cycle c of line m
abbrev over : ℕ → ℕ → ℕ → (ℕ → ℕ → ℕ) → ℕ → ℕ → ℕ
over n t letter f m c = cond (eqb m n && (leb t (c + 4) && ltb c t)) letter (f m c)

module _ (n start t letter : ℕ) (f : ℕ → ℕ → ℕ) (i : ℕ) where
  abbrev k : ℕ
  k = i % 73

  abbrev c : ℕ
  c = start + (i % 73 - 8)

  -- the bytes of a mark by line and cycle
  mark-cycles : in_mark n start t 4 i ≡ (leb 8 k && ltb k 72) && (eqb (i / 73) n && (leb t (c + 4) && ltb c t))
  mark-cycles = iff-eq _ _ to of
    where
      to : in_mark n start t 4 i ≡ true → (leb 8 k && ltb k 72) && (eqb (i / 73) n && (leb t (c + 4) && ltb c t)) ≡ true
      to e =
          let x = mark-in n start t 4 i e in
          let low = x.low in
          let high = x.high in
          let a = x.from in
          let b = x.to in
          rw (le-leb 8 (i % 73) (omega arith), lt-ltb (i % 73) 72 (omega arith), eq-eqb (i / 73) n (omega arith), le-leb t (start + (i % 73 - 8) + 4) (omega arith), lt-ltb (start + (i % 73 - 8)) t (omega arith))

      of : (leb 8 k && ltb k 72) && (eqb (i / 73) n && (leb t (c + 4) && ltb c t)) ≡ true → in_mark n start t 4 i ≡ true
      of e =
          let p = and_left (leb 8 k && ltb k 72) _ e in
          let q = and_right (leb 8 k && ltb k 72) _ e in
          let r = and_right (eqb (i / 73) n) _ q in
          let low = leb-true 8 (i % 73) (and_left _ _ p) in
          let high = ltb-true (i % 73) 72 (and_right (leb 8 k) _ p) in
          let line = eqb-true (i / 73) n (and_left _ _ q) in
          let a = leb-true t (start + (i % 73 - 8) + 4) (and_left _ _ r) in
          let b = ltb-true (start + (i % 73 - 8)) t (and_right (leb t (c + 4)) _ r) in
          mark_of n start t 4 i (record { low = omega arith; high = omega arith; from = omega arith; to = omega arith })

  mark-byte : cond (in_mark n start t 4 i) letter (byte_by f start i) ≡ byte_by (over n t letter f) start i
  unfolding byte_by
  mark-byte = rw mark-cycles (under (leb 8 k && ltb k 72) (eqb (i / 73) n && (leb t (c + 4) && ltb c t)) letter (f (i / 73) c) _)

-- a list of the bytes of a page with these characters
pub record DrawnBy (f : ℕ → ℕ → ℕ) (start : ℕ) (l : List ℕ) : Type 0 where
  pub size : length l ≡ page_bytes
  pub bytes : (i : ℕ) → i < page_bytes → get_or l i 0 ≡ byte_by f start i

pub drawn-of : (s : Settings) (rs : List Record) (start : ℕ) (l : List ℕ) → l ≡ page s rs start → DrawnBy (characters s rs) start l
drawn-of s rs start l e = rw e (record { size = length-page s rs start; bytes = page-byte s rs start })

-- with one mark more
pub drawn-mark : (f : ℕ → ℕ → ℕ) (n start t letter : ℕ) (a b : List ℕ) → DrawnBy f start a → Painted n start t 4 letter a b → DrawnBy (over n t letter f) start b
drawn-mark f n start t letter a b d p =
    record { size = p.size ∙ d.size; bytes = λ i h. p.bytes i h ∙ rw (d.bytes i h) (mark-byte n start t letter f i) }

-- with the characters of a page
pub drawn-page : (f : ℕ → ℕ → ℕ) (s : Settings) (rs : List Record) (start : ℕ) (l : List ℕ) → DrawnBy f start l → ((m c : ℕ) → f m c ≡ characters s rs m c) → l ≡ page s rs start
unfolding byte_by
drawn-page f s rs start l d same =
    ext_get_or 0 l (page s rs start) (d.size ∙ sym (length-page s rs start))
    (λ i h. d.bytes i (let z = d.size in omega arith) ∙ rw (same (i / 73) (start + (i % 73 - 8))) (sym (page-byte s rs start i (let z = d.size in omega arith))))

-- ---- the characters with one record more

-- on one line
shown : (b : Bool) (letter other : ℕ) → or_else (cond b (Some letter) None) other ≡ cond b letter other
shown true letter other = refl
shown false letter other = refl

module _ (s : Settings) (rs : List Record) (m c : ℕ) where
  abbrev lines : ℕ → ℕ → ℕ → ℕ
  lines x y z = cond (eqb m 0) x (cond (eqb m 1) y (cond (eqb m 2) z (scale c)))

  -- a test of the line of a mark, and the test on the way to it
  on_row_lem : (q : Bool) (letter x y z : ℕ) → cond (eqb m 0 && q) letter (lines x y z) ≡ lines (cond q letter x) y z
  on_row_lem q letter x y z = under (eqb m 0) q letter x _

  on-col : (q : Bool) (letter x y z : ℕ) → cond (eqb m 1 && q) letter (lines x y z) ≡ lines x (cond q letter y) z
  on-col q letter x y z = go (eqb m 0) refl (eqb m 1) refl (cond (eqb m 2) z (scale c))
    where
      go : (a : Bool) → eqb m 0 ≡ a → (b : Bool) → eqb m 1 ≡ b → (w : ℕ) → cond (b && q) letter (cond a x (cond b y w)) ≡ cond a x (cond b (cond q letter y) w)
      go true e true f w = absurd (let u = eqb-true m 0 e in let v = eqb-true m 1 f in omega arith)
      go true e false f w = refl
      go false e true f w = refl
      go false e false f w = refl

  on-dq : (q : Bool) (letter x y z : ℕ) → cond (eqb m 2 && q) letter (lines x y z) ≡ lines x y (cond q letter z)
  on-dq q letter x y z = go (eqb m 0) refl (eqb m 1) refl (eqb m 2) refl
    where
      go : (a : Bool) → eqb m 0 ≡ a → (b : Bool) → eqb m 1 ≡ b → (d : Bool) → eqb m 2 ≡ d
          → cond (d && q) letter (cond a x (cond b y (cond d z (scale c)))) ≡ cond a x (cond b y (cond d (cond q letter z) (scale c)))
      go true e b f true g = absurd (let u = eqb-true m 0 e in let v = eqb-true m 2 g in omega arith)
      go false e true f true g = absurd (let u = eqb-true m 1 f in let v = eqb-true m 2 g in omega arith)
      go true e b f false g = refl
      go false e true f false g = refl
      go false e false f true g = refl
      go false e false f false g = refl

  pub row-characters : (t : PacketAt) (p : RowPacket) → over 0 t.0 (row_letter p) (characters s rs) m c ≡ characters s (RowAt t p ∷ rs) m c
  unfolding characters cell shows before
  row-characters t p =
      on_row_lem (leb t.0 (c + 4) && ltb c t.0) (row_letter p) (cell s rs ROW c) (cell s rs COL c) (cell s rs DQ c)
      ∙ ap (λ x. lines x (cell s rs COL c) (cell s rs DQ c)) (sym (shown (leb t.0 (c + 4) && ltb c t.0) (row_letter p) (cell s rs ROW c)))

  pub data-characters : (t : DataAt) (d : Dualoct) → over 2 (t.0 + 4) (code "D") (characters s rs) m c ≡ characters s (DataOf t d ∷ rs) m c
  unfolding characters cell shows before
  data-characters t d =
      on-dq (leb (t.0 + 4) (c + 4) && ltb c (t.0 + 4)) (code "D") (cell s rs ROW c) (cell s rs COL c) (cell s rs DQ c)
      ∙ ap (λ z. lines (cell s rs ROW c) (cell s rs COL c) z) (sym (shown (leb (t.0 + 4) (c + 4) && ltb c (t.0 + 4)) (code "D") (cell s rs DQ c)))

  -- a COL packet, but for the data of an RD
  col-line : (t : PacketAt) (p : ColPacket) (z : ℕ)
      → cond (eqb m 1 && (leb t.0 (c + 4) && ltb c t.0)) (col_letter p) (lines (cell s rs ROW c) (cell s rs COL c) z) ≡ lines (cell s rs ROW c) (or_else (before t.0 (col_letter p) c) (cell s rs COL c)) z
  unfolding before
  col-line t p z =
      on-col (leb t.0 (c + 4) && ltb c t.0) (col_letter p) (cell s rs ROW c) (cell s rs COL c) z
      ∙ ap (λ y. lines (cell s rs ROW c) y z) (sym (shown (leb t.0 (c + 4) && ltb c t.0) (col_letter p) (cell s rs COL c)))

  pub nocop-characters : (t : PacketAt) (mask : ℕ) → over 1 t.0 (code "N") (characters s rs) m c ≡ characters s (ColAt t (Nocop mask) ∷ rs) m c
  unfolding characters cell shows read_shows
  nocop-characters t mask = col-line t (Nocop mask) (cell s rs DQ c)

  pub write-characters : (t : PacketAt) (b k mask : ℕ) (x : Bool) → over 1 t.0 (code "W") (characters s rs) m c ≡ characters s (ColAt t (Wr b k mask x) ∷ rs) m c
  unfolding characters cell shows read_shows
  write-characters t b k mask x = col-line t (Wr b k mask x) (cell s rs DQ c)

  pub read-characters : (t : PacketAt) (b k mask : ℕ) (x : Bool)
      → over 2 (t.0 + s.cac + 4) (code "Q") (over 1 t.0 (code "R") (characters s rs)) m c ≡ characters s (ColAt t (Rd b k mask x) ∷ rs) m c
  unfolding characters cell shows read_shows before
  read-characters t b k mask x =
      let q : Bool = leb (t.0 + s.cac + 4) (c + 4) && ltb c (t.0 + s.cac + 4) in
      let y : ℕ = or_else (before t.0 (code "R") c) (cell s rs COL c) in
      ap (λ w. cond (eqb m 2 && q) (code "Q") w) (col-line t (Rd b k mask x) (cell s rs DQ c))
      ∙ on-dq q (code "Q") (cell s rs ROW c) y (cell s rs DQ c)
      ∙ ap (λ z. lines (cell s rs ROW c) y z) (sym (shown q (code "Q") (cell s rs DQ c)))

-- ---- the page with one record more

module _ (s : Settings) (rs : List Record) (start : ℕ) (a b : List ℕ) (is : a ≡ page s rs start) where
  -- by one mark
  by-mark : (r : Record) (n t letter : ℕ) → ((m c : ℕ) → over n t letter (characters s rs) m c ≡ characters s (r ∷ rs) m c) → Painted n start t 4 letter a b → b ≡ page s (r ∷ rs) start
  by-mark r n t letter same p =
      drawn-page (over n t letter (characters s rs)) s (r ∷ rs) start b (drawn-mark (characters s rs) n start t letter a b (drawn-of s rs start a is) p) same

  pub row-drawn : (t : PacketAt) (p : RowPacket) → Painted 0 start t.0 4 (row_letter p) a b → b ≡ page s (RowAt t p ∷ rs) start
  row-drawn t p = by-mark (RowAt t p) 0 t.0 (row_letter p) (λ m c. row-characters s rs m c t p)

  pub data-drawn : (t : DataAt) (d : Dualoct) → Painted 2 start (t.0 + 4) 4 (code "D") a b → b ≡ page s (DataOf t d ∷ rs) start
  data-drawn t d = by-mark (DataOf t d) 2 (t.0 + 4) (code "D") (λ m c. data-characters s rs m c t d)

  pub nocop-drawn : (t : PacketAt) (mask : ℕ) → Painted 1 start t.0 4 (code "N") a b → b ≡ page s (ColAt t (Nocop mask) ∷ rs) start
  nocop-drawn t mask = by-mark (ColAt t (Nocop mask)) 1 t.0 (code "N") (λ m c. nocop-characters s rs m c t mask)

  pub write-drawn : (t : PacketAt) (bank k mask : ℕ) (x : Bool) → Painted 1 start t.0 4 (code "W") a b → b ≡ page s (ColAt t (Wr bank k mask x) ∷ rs) start
  write-drawn t bank k mask x = by-mark (ColAt t (Wr bank k mask x)) 1 t.0 (code "W") (λ m c. write-characters s rs m c t bank k mask x)

  -- by two
  pub read-drawn : (t : PacketAt) (bank k mask : ℕ) (x : Bool) (d : List ℕ) → Painted 1 start t.0 4 (code "R") a b → Painted 2 start (t.0 + s.cac + 4) 4 (code "Q") b d
      → d ≡ page s (ColAt t (Rd bank k mask x) ∷ rs) start
  read-drawn t bank k mask x d p q =
      let f : ℕ → ℕ → ℕ = over 1 t.0 (code "R") (characters s rs) in
      drawn-page (over 2 (t.0 + s.cac + 4) (code "Q") f) s (ColAt t (Rd bank k mask x) ∷ rs) start d
      (drawn-mark f 2 start (t.0 + s.cac + 4) (code "Q") b d (drawn-mark (characters s rs) 1 start t.0 (code "R") a b (drawn-of s rs start a is) p) q)
      (λ m c. read-characters s rs m c t bank k mask x)

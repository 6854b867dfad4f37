-- In a list on which every rule holds no two records mark one cycle of a line; so each character is that of the record that marks
-- its cycle.
-- Assumes nothing.
use Rattle.std.specs.Prelude.{Option, None, Some}
use Prim.Native.Nat.{ℕ, zero, suc, ◌+◌, ◌≤◌, ◌<◌}
use Prim.Native.Char.{code}
use mathlib.Core.Path.{◌≡◌, refl, sym, ap}
use mathlib.Core.Bool.{Bool, true, false, ◌&&◌, cond}
use mathlib.Core.List.{List, [], ◌∷◌}
use lib.Dec.{eqb, leb, ltb}
use lib.ListN.{length}
use borrow.Author.Tests.{leb-true, ltb-true, eqb-true, eqb-false}
use native.Mathlib.Omega.{arith}
use Rattle.settings.specs.declared.Settings.{Settings}
use Rattle.settings.specs.declared.PacketAt.{PacketAt}
use Rattle.settings.specs.Settings.{valid, lows}
use Rattle.settings.proofs.SettingsLaws.{timing-range, bounds}
use Rattle.packet.specs.declared.ColPacket.{ColPacket}
use Rattle.packet.specs.declared.ColPacket.TheVariants.{Nocop, Wr, Rd}
use Rattle.record.specs.declared.Record.{Record}
use Rattle.record.specs.declared.Record.TheVariants.{RowAt, ColAt, DataOf}
use Rattle.spec_rules.specs.Neighbour.{Context}
use Rattle.spec_rules.specs.History.{has}
use Rattle.spec_rules.specs.Broken.{record_in, every_rule}
use Rattle.spec_rules.proofs.Bools.{not-both, and_left, and_right}
use Rattle.spec_page.specs.Page.{Line, ROW, COL, DQ, before, read_shows, shows, or_else, cell}
use Rattle.spec_page.specs.Theorems.{OneMark}
use Rattle.spec_page.proofs.DistanceLaws.{rows_apart, cols-apart, read-write-apart, WriteBefore, data-of-write}

-- what marks cycle c before instant t
covers : (t x c : ℕ) → has (before t x c) ≡ true → (t ≤ c + 4) × (c < t)
unfolding before
covers t x c h = go (leb t (c + 4) && ltb c t) refl h
  where
    go : (b : Bool) → leb t (c + 4) && ltb c t ≡ b → has (cond b (Some x) None) ≡ true → (t ≤ c + 4) × (c < t)
    go true e h = (leb-true t (c + 4) (and_left _ _ e), ltb-true c t (and_right (leb t (c + 4)) _ e))
    go false e h = not-both false h refl

-- the marks before two instants four cycles or more apart do not meet
never_both : {R : Type 0} (t u x x' c : ℕ) → t + 4 ≤ u → has (before t x c) ≡ true → has (before u x' c) ≡ true → R
never_both t u x x' c m p q =
    let a = covers t x c p in
    let b = covers u x' c q in
    absurd (omega arith)

-- an RD is no WR
read-no-write : {R : Type 0} (r : Record) (t u : PacketAt) (b k n : ℕ) (x : Bool) (b' k' n' : ℕ) (x' : Bool) → r ≡ ColAt t (Rd b k n x) → r ≡ ColAt u (Wr b' k' n' x') → R
read-no-write r t u b k n x b' k' n' x' e f = absurd (let z : ◌≡◌ {A = ℕ} 0 1 = cc in omega arith)

module _ (cx : Context) (l : List Record) (right : valid cx.settings ≡ true) (passes : every_rule cx l ≡ true) where
  cc-least : 4 ≤ cx.settings.cc
  unfolding lows
  cc-least = (timing-range cx.settings right 9 (omega arith)).0

  cwd-cac : cx.settings.cwd < cx.settings.cac
  cwd-cac = (bounds cx.settings right).cwd-cac

  abbrev Marks : Line → ℕ → ℕ → Type 0
  Marks y c i = has (shows cx.settings y (record_in l i) c) ≡ true

  -- ---- the data of two records: those of RD, and those of WR in the next record

  -- from D to D, from D to read data, from read data to D, from read data to read data
  writes-far : (i j : ℕ) → i < j → j < length l → (t u : ℕ) → WriteBefore cx l passes i t → WriteBefore cx l passes j u → t + 4 ≤ u
  writes-far i j m h t u a b =
      let n = cols-apart cx l passes a.place b.place (omega arith) (omega arith) a.t b.t _ _ a.is-write b.is-write in
      let k = cc-least in
      omega arith

  write-read-far : (i j : ℕ) → i < j → j < length l → (t : ℕ) (u : PacketAt) (q : ColPacket) → WriteBefore cx l passes i t → record_in l j ≡ ColAt u q
      → t + 4 ≤ u.0 + cx.settings.cac
  write-read-far i j m h t u q a e =
      let n = cols-apart cx l passes a.place j (omega arith) h a.t u _ q a.is-write e in
      let k = cc-least in
      let z = cwd-cac in
      omega arith

  read-write-far : (i j : ℕ) → i < j → j < length l → (t : PacketAt) (b k n : ℕ) (x : Bool) (u : ℕ) → record_in l i ≡ ColAt t (Rd b k n x) → WriteBefore cx l passes j u
      → t.0 + cx.settings.cac + 4 ≤ u
  read-write-far i j m h t b k n x u e a = go (eqb i a.place) refl
    where
      go : (q : Bool) → eqb i a.place ≡ q → t.0 + cx.settings.cac + 4 ≤ u
      go true f = read-no-write (record_in l i) t a.t b k n x a.bank a.column a.mask a.close e (rw (sym (eqb-true i a.place f)) at a.is-write)
      go false f =
          let o : i ≡ a.place → ⊥ = eqb-false i a.place f in
          let w = read-write-apart cx l passes i a.place (omega arith) (omega arith) t a.t b k n x a.bank a.column a.mask a.close e a.is-write in
          let z = cc-least in
          let y = cwd-cac in
          omega arith

  reads-far : (i j : ℕ) → i < j → j < length l → (t u : PacketAt) (p q : ColPacket) → record_in l i ≡ ColAt t p → record_in l j ≡ ColAt u q → t.0 + cx.settings.cac + 4 ≤ u.0 + cx.settings.cac
  reads-far i j m h t u p q e f =
      let n = cols-apart cx l passes i j m h t u p q e f in
      let k = cc-least in
      omega arith

  -- ---- no two records mark one cycle of a line

  one-row : (c i j : ℕ) → i < j → j < length l → Marks ROW c i → Marks ROW c j → ⊥
  unfolding shows
  one-row c i j m h = go (record_in l i) (record_in l j) refl refl
    where
      go : (r q : Record) → record_in l i ≡ r → record_in l j ≡ q → has (shows cx.settings ROW r c) ≡ true → has (shows cx.settings ROW q c) ≡ true → ⊥
      go (RowAt t p) (RowAt u q) e f a b = never_both t.0 u.0 _ _ c (rows_apart cx l passes i j m h t u p q e f) a b
      go (RowAt t p) (ColAt u q) e f a b = not-both false b refl
      go (RowAt t p) (DataOf u d) e f a b = not-both false b refl
      go (ColAt t p) q e f a b = not-both false a refl
      go (DataOf t d) q e f a b = not-both false a refl

  one-col : (c i j : ℕ) → i < j → j < length l → Marks COL c i → Marks COL c j → ⊥
  unfolding shows
  one-col c i j m h = go (record_in l i) (record_in l j) refl refl
    where
      go : (r q : Record) → record_in l i ≡ r → record_in l j ≡ q → has (shows cx.settings COL r c) ≡ true → has (shows cx.settings COL q c) ≡ true → ⊥
      go (ColAt t p) (ColAt u q) e f a b =
          let n = cols-apart cx l passes i j m h t u p q e f in
          let k = cc-least in
          never_both t.0 u.0 _ _ c (omega arith) a b
      go (ColAt t p) (RowAt u q) e f a b = not-both false b refl
      go (ColAt t p) (DataOf u d) e f a b = not-both false b refl
      go (RowAt t p) q e f a b = not-both false a refl
      go (DataOf t d) q e f a b = not-both false a refl

  one-dq : (c i j : ℕ) → i < j → j < length l → Marks DQ c i → Marks DQ c j → ⊥
  unfolding shows read_shows
  one-dq c i j m h = go (record_in l i) (record_in l j) refl refl
    where
      go : (r q : Record) → record_in l i ≡ r → record_in l j ≡ q → has (shows cx.settings DQ r c) ≡ true → has (shows cx.settings DQ q c) ≡ true → ⊥
      go (RowAt t p) q e f a b = not-both false a refl
      go (ColAt t (Nocop n)) q e f a b = not-both false a refl
      go (ColAt t (Wr x y n z)) q e f a b = not-both false a refl
      go (ColAt t (Rd x y n z)) (RowAt u q) e f a b = not-both false b refl
      go (ColAt t (Rd x y n z)) (ColAt u (Nocop n')) e f a b = not-both false b refl
      go (ColAt t (Rd x y n z)) (ColAt u (Wr x' y' n' z')) e f a b = not-both false b refl
      go (ColAt t (Rd x y n z)) (ColAt u (Rd x' y' n' z')) e f a b =
          let k = reads-far i j m h t u _ _ e f in
          never_both (t.0 + cx.settings.cac + 4) (u.0 + cx.settings.cac + 4) _ _ c (omega arith) a b
      go (ColAt t (Rd x y n z)) (DataOf u d) e f a b =
          let k = read-write-far i j m h t x y n z u.0 e (data-of-write cx l passes j h u d f) in
          never_both (t.0 + cx.settings.cac + 4) (u.0 + 4) _ _ c (omega arith) a b
      go (DataOf t d) (RowAt u q) e f a b = not-both false b refl
      go (DataOf t d) (ColAt u (Nocop n')) e f a b = not-both false b refl
      go (DataOf t d) (ColAt u (Wr x' y' n' z')) e f a b = not-both false b refl
      go (DataOf t d) (ColAt u (Rd x' y' n' z')) e f a b =
          let k = write-read-far i j m h t.0 u _ (data-of-write cx l passes i (omega arith) t d e) f in
          never_both (t.0 + 4) (u.0 + cx.settings.cac + 4) _ _ c (omega arith) a b
      go (DataOf t d) (DataOf u d') e f a b =
          let k = writes-far i j m h t.0 u.0 (data-of-write cx l passes i (omega arith) t d e) (data-of-write cx l passes j h u d' f) in
          never_both (t.0 + 4) (u.0 + 4) _ _ c (omega arith) a b

  one_line : (y : Line) (c i j : ℕ) → i < j → j < length l → Marks y c i → Marks y c j → ⊥
  one_line ROW = one-row
  one_line COL = one-col
  one_line DQ = one-dq

  one-mark : (y : Line) (c i j : ℕ) → i < length l → j < length l → Marks y c i → Marks y c j → i ≡ j
  one-mark y c i j hi hj a b =
      let n : i < j → ⊥ = λ m. one_line y c i j m hj a b in
      let k : j < i → ⊥ = λ m. one_line y c j i m hi b a in
      omega arith

-- ---- the character of a cycle

module _ (s : Settings) (y : Line) (c : ℕ) where
  -- where one record alone marks it
  cell-marked : (rs : List Record) (i x : ℕ) → i < length rs → shows s y (record_in rs i) c ≡ Some x
      → ((k : ℕ) → k < length rs → has (shows s y (record_in rs k) c) ≡ true → k ≡ i) → cell s rs y c ≡ x
  unfolding cell
  cell-marked [] i x h e only = absurd (omega arith)
  cell-marked (r ∷ rs) zero x h e only = rw e
  cell-marked (r ∷ rs) (suc i) x h e only = go (shows s y r c) refl (cell-marked rs i x (omega arith) e (λ k m n. let q = only (suc k) (omega arith) n in omega arith))
    where
      go : (o : Option ℕ) → shows s y r c ≡ o → cell s rs y c ≡ x → or_else o (cell s rs y c) ≡ x
      go None q ih = ih
      go (Some z) q ih = absurd (let n : 0 ≡ suc i = only 0 (omega arith) (ap has q) in omega arith)

  -- where none does
  cell-idle : (rs : List Record) → ((i : ℕ) → i < length rs → shows s y (record_in rs i) c ≡ None) → cell s rs y c ≡ code "."
  unfolding cell
  cell-idle [] f = refl
  cell-idle (r ∷ rs) f = rw (f 0 (omega arith)) (cell-idle rs (λ i m. f (suc i) (omega arith)))

-- ---- of a list on which every rule holds, under accepted settings

pub marks-right : (cx : Context) (l : List Record) → valid cx.settings ≡ true → every_rule cx l ≡ true → OneMark cx.settings l
marks-right cx l right passes =
    record {
      one = one-mark cx l right passes;
      marked = λ y c i x h e. cell-marked cx.settings y c l i x h e (λ k m n. one-mark cx l right passes y c k i m h n (ap has e));
      idle = λ y c f. cell-idle cx.settings y c l f;
    }

-- What passes the quick test of records is a record.
-- Assumes nothing.
use Rattle.std.specs.Prelude.{None, Option, Some}
use Rattle.std.proofs.Common.{◌≡◌, ℕ, ◌+◌, ◌-◌, ◌*◌, ◌/◌, ◌%◌, ◌^◌, ◌<◌, ◌≤◌, min, Bool, true, false, cond, ◌&&◌, ◌||◌, eqb, ltb, List, length, get_or, sym, refl, ◌∙◌, arith, ltb-false, ltb-true, lt-ltb, eq-eqb, ne_eqb, eqb-true}
use mathlib.Core.Bool.{and-eq-true_iff}
use borrow.Author.Tests.{eqb-false}
use Rattle.num.specs.Bytes.{number, part}
use Rattle.num.specs.Search.{all_up_to}
use Rattle.num.proofs.ByteLaws.{number-part}
use Rattle.num.proofs.SearchLaws.{all-next, all-at}
use Rattle.settings.specs.declared.Settings.{Settings}
use Rattle.packet.specs.declared.RowPacket.TheVariants.{Prer}
use Rattle.packet.proofs.FieldLaws.{joined}
use Rattle.packet.proofs.RowLaws.{row-range}
use Rattle.packet.specs.Row.{device_head, row_fields, row_word, row_fits, row_of, row_decoded}
use Rattle.packet.specs.Col.{mask_said, col_of, col_decoded}
use Rattle.record.specs.Record.{is_known, row_record, col_record, record_of, record_read, well_formed, record_at}
use Rattle.record.proofs.RecordLaws.{field_in, head_in}
use Rattle.packet.specs.declared.RowPacket.{RowPacket}
use Rattle.packet.specs.declared.ColPacket.{ColPacket}
use Rattle.record.specs.declared.Record.{Record}

-- one record more, as a loop takes it
pub one_more_lem : (f : ℕ → Bool) (k : ℕ) (right r : Bool) → (right ≡ true → all_up_to f k ≡ true) → (r ≡ true → f k ≡ true)
    → (right && r) ≡ true → all_up_to f (k + 1) ≡ true
one_more_lem f k right r h g e =
    let p = (and-eq-true_iff right r).0 e in
    all-next f k ∙ (and-eq-true_iff _ _).1 (h p.0, g p.1)

-- four records at once
pub four-say : (f : ℕ → Bool) (a b c d : Bool) → (a ≡ true → f 0 ≡ true) → (b ≡ true → f 1 ≡ true) → (c ≡ true → f 2 ≡ true) → (d ≡ true → f 3 ≡ true)
    → (((a && b) && c) && d) ≡ true → all_up_to f 4 ≡ true
unfolding all_up_to
four-say f a b c d ha hb hc hd e =
    let p = (and-eq-true_iff ((a && b) && c) d).0 e in
    let q = (and-eq-true_iff (a && b) c).0 p.0 in
    let r = (and-eq-true_iff a b).0 q.0 in
    rw (ha r.0, hb r.1, hc q.1, hd p.1)

-- four records more of the first n: those from index k on, or the last four
pub four-more : (f : ℕ → Bool) (n k from : ℕ) → 4 ≤ n → from ≡ min k (n - 4) → ((j : ℕ) → j < k → j < n → f j ≡ true)
    → all_up_to (λ j. f (from + j)) 4 ≡ true → (j : ℕ) → j < k + 4 → j < n → f j ≡ true
four-more f n k from h e i a j l m = go (ltb j k) refl
  where
    go : (t : Bool) → ltb j k ≡ t → f j ≡ true
    go true q = i j (ltb-true j k q) m
    go false q =
        let g = ltb-false j k q in
        let x : from + (j - from) ≡ j = omega arith in
        rw x at (all-at (λ j. f (from + j)) 4 (j - from) a (omega arith))

-- one of two tests holds
or_case : {P : Type 0} (a b : Bool) → (a || b) ≡ true → (a ≡ true → P) → (b ≡ true → P) → P
or_case true b e f g = f refl
or_case false b e f g = g e

-- ---- ROW words

abbrev row_known : ℕ → ℕ → ℕ → Bool
row_known device rows w = is_known (row_record 0 (row_decoded device rows w))

row-act : (device rows w : ℕ) → w / 2 ^ 18 ≡ device_head device → w / 2 ^ 12 % 2 ≡ 1 → w % 2 ^ 12 < rows → row_known device rows w ≡ true
unfolding row_decoded row_record is_known
row-act device rows w a b c = rw (eq-eqb _ _ a, eq-eqb _ _ b, lt-ltb _ _ c)

row_other : (device rows w rop : ℕ) → w / 2 ^ 18 ≡ device_head device → w % 2 ^ 13 ≡ rop → rop < 2 ^ 12
    → ((bank : ℕ) → is_known (row_record 0 (row_of bank rop)) ≡ true) → row_known device rows w ≡ true
unfolding row_decoded
row_other device rows w rop a b l k =
    let m : w / 2 ^ 12 % 2 ≡ 1 → ⊥ = λ e. omega arith in
    let r : w % 2 ^ 12 ≡ rop = omega arith in
    rw (eq-eqb _ _ a, ne_eqb _ _ m, r) (k (w / 2 ^ 13 % 32))

-- the difference of a word without its bank and the device's
row-fields : (w head y : ℕ) → head < 2 ^ 24 → (y + head / 2 ^ 18 * 2 ^ 18) % 2 ^ 32 ≡ w / 2 ^ 18 * 2 ^ 18 + w % 2 ^ 13 → y < 2 ^ 13
    → (w / 2 ^ 18 ≡ head / 2 ^ 18) × (w % 2 ^ 13 ≡ y)
row-fields w head y b e l =
    let f : y + head / 2 ^ 18 * 2 ^ 18 ≡ w / 2 ^ 18 * 2 ^ 18 + w % 2 ^ 13 = omega arith in
    (omega arith, omega arith)

act-fields : (w x rows : ℕ) → w % 2 ^ 13 ≡ x + 4096 → x < 4096 → x < rows → (w / 2 ^ 12 % 2 ≡ 1) × (w % 2 ^ 12 < rows)
act-fields w x rows e l m = (omega arith, omega arith)

-- the device's word has 24 bits too
pub head-range : (device : ℕ) → row_word device (Prer 0) < 2 ^ 24
unfolding row_fits
head-range device = row-range device 0 (Prer 0) (omega arith) refl

pub row-says : (device rows w head y x : ℕ) → head ≡ row_word device (Prer 0)
    → (y + head / 2 ^ 18 * 2 ^ 18) % 2 ^ 32 ≡ w / 2 ^ 18 * 2 ^ 18 + w % 2 ^ 13 → (x + 4096) % 2 ^ 32 ≡ y
    → ((((ltb x 4096 && ltb x rows) || eqb y 0x600) || eqb y 0x0C0) || eqb y 0x540) ≡ true → row_known device rows w ≡ true
unfolding row_word row_fields row_of row_record is_known
row-says device rows w head y x eh ey ex e =
    let hh : head < 2 ^ 24 = omega (arith, head-range device) in
    let top : head / 2 ^ 18 ≡ device_head device = omega arith in
    let op : (rop : ℕ) → rop < 2 ^ 12 → ((bank : ℕ) → is_known (row_record 0 (row_of bank rop)) ≡ true) → eqb y rop ≡ true → row_known device rows w ≡ true = λ rop l k t.
    let q = eqb-true y rop t in
    let f = row-fields w head y hh ey (omega arith) in
    row_other device rows w rop (f.0 ∙ top) (f.1 ∙ q) l k
    in
    or_case (((ltb x 4096 && ltb x rows) || eqb y 0x600) || eqb y 0x0C0) (eqb y 0x540) e
    (λ t. or_case ((ltb x 4096 && ltb x rows) || eqb y 0x600) (eqb y 0x0C0) t
    (λ u. or_case (ltb x 4096 && ltb x rows) (eqb y 0x600) u
    (λ v.
    let a = (and-eq-true_iff (ltb x 4096) (ltb x rows)).0 v in
    let b = ltb-true x 4096 a.0 in
    let c = ltb-true x rows a.1 in
    let g : y ≡ x + 4096 = omega arith in
    let f = row-fields w head y hh ey (omega arith) in
    let h = act-fields w x rows (f.1 ∙ g) b c in
    row-act device rows w (f.0 ∙ top) h.0 h.1)
    (op 0x600 (omega arith) (λ bank. refl)))
    (op 0x0C0 (omega arith) (λ bank. refl)))
    (op 0x540 (omega arith) (λ bank. refl))

-- ---- COL words

abbrev col_known : ℕ → ℕ → ℕ → Bool
col_known device columns w = is_known (col_record 0 (col_decoded device columns w))

-- M and the bits below it say a mask
mask-says : (device w y : ℕ) → (y + 0x10000) % 2 ^ 32 ≡ w % 2 ^ 17 → (ltb y 0xFFFF || eqb (w % 2 ^ 17) (device * 2048)) ≡ true
    → mask_said device (w / 2 ^ 16 % 2) (w % 2 ^ 16) ≡ true
unfolding mask_said
mask-says device w y ey e =
    or_case (ltb y 0xFFFF) _ e
    (λ t.
    let a = ltb-true y 0xFFFF t in
    let b : w % 2 ^ 17 ≡ y + 0x10000 = omega arith in
    let m : w / 2 ^ 16 % 2 ≡ 1 = omega arith in
    let l : w % 2 ^ 16 < 0xFFFF = omega arith in
    rw (eq-eqb _ _ m, lt-ltb _ _ l))
    (λ t. go (eqb (w / 2 ^ 16 % 2) 1) refl (eqb-true (w % 2 ^ 17) (device * 2048) t))
  where
    go : (x : Bool) → eqb (w / 2 ^ 16 % 2) 1 ≡ x → w % 2 ^ 17 ≡ device * 2048 → cond x (ltb (w % 2 ^ 16) 0xFFFF) (eqb (w % 2 ^ 16) (device * 2 ^ 11)) ≡ true
    go true q s = let m = eqb-true (w / 2 ^ 16 % 2) 1 q in lt-ltb (w % 2 ^ 16) 0xFFFF (omega arith)
    go false q s = let m = eqb-false (w / 2 ^ 16 % 2) 1 q in eq-eqb (w % 2 ^ 16) (device * 2 ^ 11) (omega arith)

-- fields of a word that is a multiple
even : (x d : ℕ) → x ≡ d * 2 ^ 6 → x % 2 ≡ 0
even x d e = omega arith

bank-0 : (x d : ℕ) → x ≡ d * 2 ^ 5 → x % 32 ≡ 0
bank-0 x d e = omega arith

column-0 : (x d : ℕ) → x ≡ d * 2 ^ 13 → x % 128 ≡ 0
column-0 x d e = omega arith

col-nocop : (device columns w : ℕ) → w / 2 ^ 17 ≡ (32 + device) * 2 ^ 17 → mask_said device (w / 2 ^ 16 % 2) (w % 2 ^ 16) ≡ true → col_known device columns w ≡ true
unfolding col_decoded col_of col_record is_known
col-nocop device columns w h said =
    let a : w / 2 ^ 34 ≡ 2 ^ 5 + device = omega (arith, joined 17 17 w) in
    let cop : w / 2 ^ 17 % 2 ^ 4 ≡ 0 = omega arith in
    let zb : w / 2 ^ 17 % 2 ^ 11 ≡ 0 = omega arith in
    let zk : w / 2 ^ 17 % 2 ^ 12 ≡ 0 = omega arith in
    let b' : w / 2 ^ 28 ≡ (32 + device) * 2 ^ 6 = omega (arith, joined 17 11 w) in
    let k' : w / 2 ^ 29 ≡ (32 + device) * 2 ^ 5 = omega (arith, joined 17 12 w) in
    let c' : w / 2 ^ 21 ≡ (32 + device) * 2 ^ 13 = omega (arith, joined 17 4 w) in
    rw (eq-eqb _ _ a, eq-eqb _ 0 (even (w / 2 ^ 28) (32 + device) b'), said, cop, bank-0 (w / 2 ^ 29) (32 + device) k', column-0 (w / 2 ^ 21) (32 + device) c')

-- the odd opcodes below 8: WR, RD, WRA, RDA
access-known : (columns bank column cop mask : ℕ) → column < columns → cop < 8 → cop % 2 ≡ 1 → is_known (col_record 0 (col_of columns bank column cop mask)) ≡ true
unfolding col_of col_record is_known
access-known columns bank column cop mask l h o = go (eqb cop 1) refl (eqb cop 5) refl (eqb cop 3) refl
  where
    go : (x : Bool) → eqb cop 1 ≡ x → (y : Bool) → eqb cop 5 ≡ y → (z : Bool) → eqb cop 3 ≡ z → is_known (col_record 0 (col_of columns bank column cop mask)) ≡ true
    go true p y q z r = rw (eqb-true cop 1 p, lt-ltb _ _ l)
    go false p true q z r = rw (eqb-true cop 5 q, lt-ltb _ _ l)
    go false p false q true r = rw (eqb-true cop 3 r, lt-ltb _ _ l)
    go false p false q false r =
        let e : cop ≡ 7 = omega (arith, eqb-false cop 1 p, eqb-false cop 5 q, eqb-false cop 3 r) in
        rw (e, lt-ltb _ _ l)

col-access : (device columns w : ℕ) → w / 2 ^ 34 ≡ 32 + device → w / 2 ^ 21 % 256 < 128 → w / 2 ^ 21 % 256 < columns
    → w / 2 ^ 17 % 16 < 8 → w / 2 ^ 17 % 16 % 2 ≡ 1 → mask_said device (w / 2 ^ 16 % 2) (w % 2 ^ 16) ≡ true → col_known device columns w ≡ true
unfolding col_decoded
col-access device columns w h g l low odd said =
    let a : w / 2 ^ 34 ≡ 2 ^ 5 + device = omega arith in
    let b : w / 2 ^ 28 % 2 ≡ 0 = omega arith in
    let column : w / 2 ^ 21 % 128 < columns = omega arith in
    rw (eq-eqb _ _ a, eq-eqb _ _ b, said) (access-known columns _ _ (w / 2 ^ 17 % 16) _ column low odd)

-- the fields of a word that stand in its low half, and its top
low-17 : (lo hi : ℕ) → (lo + 2 ^ 32 * hi) % 2 ^ 17 ≡ lo % 2 ^ 17
low-17 lo hi = omega arith

top-34 : (lo hi : ℕ) → lo < 2 ^ 32 → (lo + 2 ^ 32 * hi) / 2 ^ 34 ≡ hi / 4
top-34 lo hi h = omega arith

cop-in : (lo hi : ℕ) → lo < 2 ^ 32 → (lo + 2 ^ 32 * hi) / 2 ^ 17 % 16 ≡ lo / 2 ^ 17 % 16
cop-in lo hi h = omega arith

column-in : (lo hi : ℕ) → lo < 2 ^ 32 → (lo + 2 ^ 32 * hi) / 2 ^ 21 % 256 ≡ lo / 2 ^ 21 % 256
column-in lo hi h = omega arith

nocop-in : (lo hi d : ℕ) → lo < 2 ^ 32 → hi % 4 ≡ 0 → lo / 2 ^ 17 ≡ 0 → hi / 4 ≡ d → (lo + 2 ^ 32 * hi) / 2 ^ 17 ≡ d * 2 ^ 17
nocop-in lo hi d h a b c = omega arith

pub col-says : (device columns lo hi d y : ℕ) → lo < 2 ^ 32 → (y + 0x10000) % 2 ^ 32 ≡ lo % 2 ^ 17
    → ((eqb d device && (ltb y 0xFFFF || eqb (lo % 2 ^ 17) (d * 2048)))
    && (eqb (hi / 4) (32 + d) && ((eqb (hi % 4) 0 && eqb (lo / 2 ^ 17) 0)
    || ((ltb (lo / 2 ^ 21 % 256) 128 && ltb (lo / 2 ^ 21 % 256) columns) && (ltb (lo / 2 ^ 17 % 16) 8 && eqb (lo / 2 ^ 17 % 16 % 2) 1))))) ≡ true
    → col_known device columns (lo + 2 ^ 32 * hi) ≡ true
col-says device columns lo hi d y hl ey e =
    let w = lo + 2 ^ 32 * hi in
    let column = lo / 2 ^ 21 % 256 in
    let cop = lo / 2 ^ 17 % 16 in
    let p = (and-eq-true_iff (eqb d device && (ltb y 0xFFFF || eqb (lo % 2 ^ 17) (d * 2048))) _).0 e in
    let q = (and-eq-true_iff (eqb d device) (ltb y 0xFFFF || eqb (lo % 2 ^ 17) (d * 2048))).0 p.0 in
    let t = (and-eq-true_iff (eqb (hi / 4) (32 + d)) _).0 p.1 in
    let same : d ≡ device = eqb-true d device q.0 in
    let top : hi / 4 ≡ 32 + device = rw same at (eqb-true (hi / 4) (32 + d) t.0) in
    let said = mask-says device w y (ey ∙ sym (low-17 lo hi)) (rw (low-17 lo hi, ← same) q.1) in
    or_case (eqb (hi % 4) 0 && eqb (lo / 2 ^ 17) 0) _ t.1
    (λ u.
    let z = (and-eq-true_iff (eqb (hi % 4) 0) (eqb (lo / 2 ^ 17) 0)).0 u in
    col-nocop device columns w (nocop-in lo hi (32 + device) hl (eqb-true (hi % 4) 0 z.0) (eqb-true (lo / 2 ^ 17) 0 z.1) top) said)
    (λ u.
    let b = (and-eq-true_iff (ltb column 128 && ltb column columns) (ltb cop 8 && eqb (cop % 2) 1)).0 u in
    let c = (and-eq-true_iff (ltb column 128) (ltb column columns)).0 b.0 in
    let o = (and-eq-true_iff (ltb cop 8) (eqb (cop % 2) 1)).0 b.1 in
    col-access device columns w (top-34 lo hi hl ∙ top)
    (rw (column-in lo hi hl) (ltb-true column 128 c.0))
    (rw (column-in lo hi hl) (ltb-true column columns c.1))
    (rw (cop-in lo hi hl) (ltb-true cop 8 o.0))
    (rw (cop-in lo hi hl) (eqb-true (cop % 2) 1 o.1))
    said)

-- ---- records

-- whether the fields of a record say one, by the tests of its kind and fields
shape : Bool → Bool → Bool → Bool → Bool → Bool → Bool → Bool
shape d z n r rk c ck = cond d z (cond n (cond r rk (cond c ck false)) false)

known-cond : (b : Bool) (x y : Option Record) → is_known (cond b x y) ≡ cond b (is_known x) (is_known y)
known-cond true x y = refl
known-cond false x y = refl

cond_same : (b : Bool) → cond b true false ≡ b
cond_same true = refl
cond_same false = refl

row_any : (at : ℕ) (d : Option RowPacket) → is_known (row_record at d) ≡ is_known (row_record 0 d)
unfolding row_record is_known
row_any at None = refl
row_any at (Some p) = refl

col-any : (at : ℕ) (d : Option ColPacket) → is_known (col_record at d) ≡ is_known (col_record 0 d)
unfolding col_record is_known
col-any at None = refl
col-any at (Some p) = refl

known-shape : (s : Settings) (at kind w a b : ℕ)
    → is_known (record_of s at kind w a b) ≡ shape (eqb kind 2) (eqb w 0) (eqb a 0 && eqb b 0) (eqb kind 0) (row_known s.device s.rows w) (eqb kind 1) (col_known s.device s.columns w)
unfolding record_of is_known shape
known-shape s at kind w a b = rw (known-cond, known-cond, known-cond, known-cond, known-cond, cond_same, row_any, col-any)

-- fields without data that say a record are those of one kind
kind-small : (s : Settings) (kind w : ℕ) → is_known (record_of s 0 kind w 0 0) ≡ true → kind ≤ 2
unfolding shape
kind-small s kind w e = go (eqb kind 2) refl (eqb kind 0) refl (eqb kind 1) refl (sym (known-shape s 0 kind w 0 0) ∙ e)
  where
    go : (x : Bool) → eqb kind 2 ≡ x → (y : Bool) → eqb kind 0 ≡ y → (z : Bool) → eqb kind 1 ≡ z
        → shape x (eqb w 0) true y (row_known s.device s.rows w) z (col_known s.device s.columns w) ≡ true → kind ≤ 2
    go true p y q z r k = let h = eqb-true kind 2 p in omega arith
    go false p true q z r k = let h = eqb-true kind 0 q in omega arith
    go false p false q true r k = let h = eqb-true kind 1 r in omega arith
    go false p false q false r k = absurd (let z : ◌≡◌ {A = ℕ} 0 1 = cc in omega arith)

-- data as the kind has it leave a record one
data-says : (d n z r rk c ck : Bool) → (d || n) ≡ true → shape d z true r rk c ck ≡ shape d z n r rk c ck
unfolding shape
data-says true n z r rk c ck e = refl
data-says false n z r rk c ck e = rw e

-- a word by its kind
pub word-says : (s : Settings) (head lo hi : ℕ) (row col : Bool) → (row ≡ true → row_known s.device s.rows lo ≡ true)
    → (col ≡ true → col_known s.device s.columns (lo + 2 ^ 32 * hi) ≡ true)
    → ((((eqb head 0 && eqb hi 0) && row) || (eqb head 1 && col)) || ((eqb head 2 && eqb lo 0) && eqb hi 0)) ≡ true
    → is_known (record_of s 0 head (lo + 2 ^ 32 * hi) 0 0) ≡ true
unfolding shape
word-says s head lo hi row col hr hc e =
    let w = lo + 2 ^ 32 * hi in
    or_case (((eqb head 0 && eqb hi 0) && row) || (eqb head 1 && col)) ((eqb head 2 && eqb lo 0) && eqb hi 0) e
    (λ t. or_case ((eqb head 0 && eqb hi 0) && row) (eqb head 1 && col) t
    (λ u.
    let p = (and-eq-true_iff (eqb head 0 && eqb hi 0) row).0 u in
    let q = (and-eq-true_iff (eqb head 0) (eqb hi 0)).0 p.0 in
    let z = eqb-true hi 0 q.1 in
    let same : w ≡ lo = omega arith in
    rw (known-shape s 0 head w 0 0, eqb-true head 0 q.0, same, hr p.1))
    (λ u. let p = (and-eq-true_iff (eqb head 1) col).0 u in rw (known-shape s 0 head w 0 0, eqb-true head 1 p.0, hc p.1)))
    (λ t.
    let p = (and-eq-true_iff (eqb head 2 && eqb lo 0) (eqb hi 0)).0 t in
    let q = (and-eq-true_iff (eqb head 2) (eqb lo 0)).0 p.0 in
    let x = eqb-true lo 0 q.1 in
    let y = eqb-true hi 0 p.1 in
    let zero : w ≡ 0 = omega arith in
    rw (known-shape s 0 head w 0 0, q.0, zero))

-- eight bytes as two numbers of four
halves : (l : List ℕ) (at lo hi : ℕ) → at + 8 ≤ length l → lo ≡ number (part l at 4) → hi ≡ number (part l (at + 4) 4) → number (part l at 8) ≡ lo + 2 ^ 32 * hi
halves l at lo hi h a b = omega (arith, number-part l at 4 4 (omega arith))

-- eight bytes of which both halves are zero
halves-zero : (l : List ℕ) (at lo hi : ℕ) → at + 8 ≤ length l → lo ≡ number (part l at 4) → hi ≡ number (part l (at + 4) 4) → (eqb lo 0 && eqb hi 0) ≡ true
    → eqb (number (part l at 8)) 0 ≡ true
halves-zero l at lo hi h a b e =
    let p = (and-eq-true_iff (eqb lo 0) (eqb hi 0)).0 e in
    let x = eqb-true lo 0 p.0 in
    let y = eqb-true hi 0 p.1 in
    eq-eqb (number (part l at 8)) 0 (omega (arith, halves l at lo hi h a b))

-- no data, or the kind that has them
datas-say : (k a b c d : Bool) → (k || (a && b)) ≡ true → (a ≡ true → c ≡ true) → (b ≡ true → d ≡ true) → (k || (c && d)) ≡ true
datas-say true a b c d e f g = refl
datas-say false a b c d e f g = let p = (and-eq-true_iff a b).0 e in (and-eq-true_iff c d).1 (f p.0, g p.1)

-- a record whose word and data are right
record-says : (s : Settings) (l : List ℕ) (at head w : ℕ) → at + 32 ≤ length l → get_or l (at + 4) 0 < 256 → head ≡ number (part l (at + 4) 4) → number (part l (at + 8) 8) ≡ w
    → is_known (record_of s 0 head w 0 0) ≡ true → (eqb head 2 || (eqb (number (part l (at + 16) 8)) 0 && eqb (number (part l (at + 24) 8)) 0)) ≡ true
    → well_formed s (part l at 32) ≡ true
unfolding well_formed record_read
record-says s l at head w h g eh ew k d =
    let small = kind-small s head w k in
    let e = head_in l at head h g eh in
    let spare : number (part (part l at 32) 5 3) ≡ 0 = omega arith in
    let kind : number (part (part l at 32) 4 1) ≡ head = omega arith in
    rw (
      eq-eqb _ 0 spare,
      kind,
      field_in l at 8 8 (omega arith),
      field_in l at 16 8 (omega arith),
      field_in l at 24 8 (omega arith),
      ew,
      known-shape s (number (part (part l at 32) 0 4)) head w (number (part l (at + 16) 8)) (number (part l (at + 24) 8)),
    )
    (sym (data-says _ _ _ _ _ _ _ d) ∙ sym (known-shape s 0 head w 0 0) ∙ k)

-- the same by the numbers of four bytes
pub fields-say : (s : Settings) (l : List ℕ) (at head lo hi a0 a1 b0 b1 : ℕ) → at + 32 ≤ length l → get_or l (at + 4) 0 < 256
    → head ≡ number (part l (at + 4) 4) → lo ≡ number (part l (at + 8) 4) → hi ≡ number (part l (at + 12) 4)
    → a0 ≡ number (part l (at + 16) 4) → a1 ≡ number (part l (at + 20) 4) → b0 ≡ number (part l (at + 24) 4) → b1 ≡ number (part l (at + 28) 4)
    → is_known (record_of s 0 head (lo + 2 ^ 32 * hi) 0 0) ≡ true → (eqb head 2 || ((eqb a0 0 && eqb a1 0) && (eqb b0 0 && eqb b1 0))) ≡ true
    → well_formed s (part l at 32) ≡ true
fields-say s l at head lo hi a0 a1 b0 b1 h g eh el ei e0 e1 e2 e3 k d =
    let x : at + 8 + 4 ≡ at + 12 = omega arith in
    let y : at + 16 + 4 ≡ at + 20 = omega arith in
    let z : at + 24 + 4 ≡ at + 28 = omega arith in
    let dqa = halves-zero l (at + 16) a0 a1 (omega arith) e0 (rw y e1) in
    let dqb = halves-zero l (at + 24) b0 b1 (omega arith) e2 (rw z e3) in
    record-says s l at head (lo + 2 ^ 32 * hi) h g eh (halves l (at + 8) lo hi (omega arith) el (rw x ei)) k
    (datas-say (eqb head 2) _ _ _ _ d dqa dqb)

-- a part more of a list that has no bad record so far
pub part-more : (s : Settings) (l : List ℕ) (i n : ℕ) → ((k : ℕ) → k < i → well_formed s (record_at l k) ≡ true)
    → all_up_to (λ j. well_formed s (record_at l (i + j))) n ≡ true → (k : ℕ) → k < i + n → well_formed s (record_at l k) ≡ true
part-more s l i n h a k b = go (ltb k i) refl
  where
    go : (t : Bool) → ltb k i ≡ t → well_formed s (record_at l k) ≡ true
    go true q = h k (ltb-true k i q)
    go false q =
        let m = ltb-false k i q in
        let e : i + (k - i) ≡ k = omega arith in
        rw e at (all-at (λ j. well_formed s (record_at l (i + j))) n (k - i) a (omega arith))

-- The numbers of a packet that has a word.
-- Assumes nothing.
use Prim.Native.Nat.{ℕ, ◌<◌, ◌≤◌}
use mathlib.Core.Path.{◌≡◌}
use mathlib.Core.Bool.{Bool, true}
use native.Mathlib.Omega.{arith}
use borrow.Author.Tests.{ltb-true, lt-ltb}
use lib.Dec.{ltb}
use Rattle.packet.specs.declared.ColPacket.{ColPacket}
use Rattle.packet.specs.declared.RowPacket.TheVariants.{Act}
use Rattle.packet.specs.declared.ColPacket.TheVariants.{Nocop, Wr, Rd}
use Rattle.packet.specs.Row.{row_fits}
use Rattle.packet.specs.Col.{col_fits}
use Rattle.spec_rules.proofs.Bools.{and_left, and_right}

pub act-in : (rows x row : ℕ) → row_fits rows (Act x row) ≡ true → x < 32
unfolding row_fits
act-in rows x row f = ltb-true x 32 (and_left (ltb x 32) _ f)

pub wr-in : (columns x c m : ℕ) (close : Bool) → col_fits columns (Wr x c m close) ≡ true → (x < 32) × (c < columns)
unfolding col_fits
wr-in columns x c m close f = (ltb-true x 32 (and_left (ltb x 32) _ f), ltb-true c columns (and_left (ltb c columns) _ (and_right (ltb x 32) _ f)))

pub rd-in : (columns x c m : ℕ) (close : Bool) → col_fits columns (Rd x c m close) ≡ true → x < 32
unfolding col_fits
rd-in columns x c m close f = ltb-true x 32 (and_left (ltb x 32) _ f)

-- where there are more columns
more-columns : (n k c : ℕ) → n ≤ k → ltb c n ≡ true → ltb c k ≡ true
more-columns n k c l h = let m = ltb-true c n h in lt-ltb c k (omega arith)

pub fits_more : (n k : ℕ) (p : ColPacket) → n ≤ k → col_fits n p ≡ true → col_fits k p ≡ true
unfolding col_fits
fits_more n k (Nocop m) l f = f
fits_more n k (Wr x c m close) l f =
    let g = and_right (ltb x 32) _ f in
    rw (and_left (ltb x 32) _ f, more-columns n k c l (and_left (ltb c n) _ g), and_right (ltb c n) _ g)
fits_more n k (Rd x c m close) l f =
    let g = and_right (ltb x 32) _ f in
    rw (and_left (ltb x 32) _ f, more-columns n k c l (and_left (ltb c n) _ g), and_right (ltb c n) _ g)

-- Laws of the lines of records: those of a list after another, and one line more.
-- Assumes nothing.
use Prim.Native.Nat.{ℕ, ◌+◌, ◌≤◌}
use mathlib.Core.Path.{◌≡◌, refl, sym, ◌∙◌}
use mathlib.Core.List.{List, [], ◌∷◌, ◌++◌, append_assoc, append-nil}
use native.Mathlib.Omega.{arith}
use lib.ListN.{length}
use Rattle.record.specs.declared.Record.{Record}
use Rattle.listing_text.specs.Text.{Put, record_line, write_bank, write_column, write_bank_after, write_column_after, record_lines}
use Rattle.listing_text.proofs.TextLaws.{put_then}

-- ---- records after others

pub bank-append : (b : ℕ) (l m : List Record) → write_bank_after b (l ++ m) ≡ write_bank_after (write_bank_after b l) m
unfolding write_bank_after
bank-append b [] m = refl
bank-append b (r ∷ l) m = bank-append (write_bank r b) l m

pub column-append : (c : ℕ) (l m : List Record) → write_column_after c (l ++ m) ≡ write_column_after (write_column_after c l) m
unfolding write_column_after
column-append c [] m = refl
column-append c (r ∷ l) m = column-append (write_column r c) l m

pub lines-append : (b c : ℕ) (l m : List Record) → record_lines b c (l ++ m) ≡ record_lines b c l ++ record_lines (write_bank_after b l) (write_column_after c l) m
unfolding record_lines write_bank_after write_column_after
lines-append b c [] m = refl
lines-append b c (r ∷ l) m =
    rw (lines-append (write_bank r b) (write_column r c) l m)
    (sym (append_assoc (record_line b c r) (record_lines (write_bank r b) (write_column r c) l) (record_lines (write_bank_after (write_bank r b) l) (write_column_after (write_column r c) l) m)))

-- ---- one line more

pub bank-next : (b : ℕ) (l : List Record) (r : Record) → write_bank_after b (l ++ (r ∷ [])) ≡ write_bank r (write_bank_after b l)
unfolding write_bank_after
bank-next b l r = bank-append b l (r ∷ [])

pub column-next : (c : ℕ) (l : List Record) (r : Record) → write_column_after c (l ++ (r ∷ [])) ≡ write_column r (write_column_after c l)
unfolding write_column_after
column-next c l r = column-append c l (r ∷ [])

lines_next : (b c : ℕ) (l : List Record) (r : Record) → record_lines b c (l ++ (r ∷ [])) ≡ record_lines b c l ++ record_line (write_bank_after b l) (write_column_after c l) r
unfolding record_lines
lines_next b c l r = lines-append b c l (r ∷ []) ∙ rw append-nil

pub line-next : (l : List ℕ) (at b c : ℕ) (before : List Record) (r : Record) (bank column : ℕ) {m n : List ℕ} {e end : ℕ} → e ≤ length l
    → bank ≡ write_bank_after b before → column ≡ write_column_after c before
    → Put l at (record_lines b c before) m e → Put m e (record_line bank column r) n end → Put l at (record_lines b c (before ++ (r ∷ []))) n end
line-next l at b c before r bank column h eb ec p q =
    rw (lines_next b c before r, ← eb, ← ec) (put_then l at (record_lines b c before) (record_line bank column r) (omega (arith, p.0)) p q)

-- What the code stores into the bytes of a state for each packet, in stored instants (less 3). The laws in proofs/ say that this is
-- the state after the packet.
-- Assumes nothing.
use Rattle.std.specs.Prelude.{ℕ, ◌+◌, ◌*◌, Bool, not, ◌&&◌, cond, List, eqb, ltb}
use Rattle.num.specs.Bytes.{bytes, number, part, splice}
use Rattle.spec_state.specs.Form.Layout.{write_word}

-- four bytes stored
abbrev pub put : List ℕ → ℕ → ℕ → List ℕ
put b at t = splice b at (bytes 4 t)

-- the last instants after a ROW packet, after a COL packet
unfoldable pub row_stored : List ℕ → ℕ → List ℕ
row_stored b t = put (put b 704 t) 708 t

unfoldable pub col_stored : List ℕ → ℕ → List ℕ
col_stored b t = put (put b 704 t) 712 t

-- ACT, REFA, PRER or REFP to a bank whose neighbours are closed
unfoldable pub act_stored : List ℕ → ℕ → ℕ → ℕ → List ℕ
act_stored b x row t = row_stored (splice (put (put b (4 * x) t) (128 + 4 * x) t) (640 + 2 * x) (bytes 2 (row + 1))) t

unfoldable pub refa_stored : List ℕ → ℕ → ℕ → List ℕ
refa_stored b x t = row_stored (splice (put b (4 * x) t) (640 + 2 * x) (bytes 2 0xFFFF)) t

unfoldable pub close_stored : List ℕ → ℕ → ℕ → List ℕ
close_stored b x t = row_stored (put (splice (put b (256 + 4 * x) t) (640 + 2 * x) (bytes 2 0)) 716 t) t

-- a bank closed by a PRER or REFP; the same where there is such a bank and it is not closed
unfoldable pub shut_stored : List ℕ → ℕ → ℕ → List ℕ
shut_stored b x t = splice (put b (256 + 4 * x) t) (640 + 2 * x) (bytes 2 0)

unfoldable pub side_stored : List ℕ → ℕ → ℕ → List ℕ
side_stored b x t = cond (ltb x 32 && not (eqb (number (part b (640 + 2 * x) 2)) 0)) (shut_stored b x t) b

-- PRER or REFP to any bank: the bank, then those on its two sides that are not closed
unfoldable pub prer_stored : List ℕ → ℕ → ℕ → ℕ → ℕ → List ℕ
prer_stored b x low high t = row_stored (put (side_stored (side_stored (shut_stored b x t) low t) high t) 716 t) t

-- an implied PRER to a bank whose neighbours are closed, and to any bank
unfoldable pub implied_stored : List ℕ → ℕ → ℕ → List ℕ
implied_stored b x t = put (put (shut_stored b x t) 716 t) 724 t

unfoldable pub implied_all_stored : List ℕ → ℕ → ℕ → ℕ → ℕ → List ℕ
implied_all_stored b x low high t = put (put (side_stored (side_stored (shut_stored b x t) low t) high t) 716 t) 724 t

-- RD
unfoldable pub rd_stored : List ℕ → ℕ → ℕ → List ℕ
rd_stored b x t = col_stored (put (put b (384 + 4 * x) t) 720 t) t

-- a retire to bank h
unfoldable pub retire_stored : List ℕ → ℕ → ℕ → List ℕ
retire_stored b h t = put b (512 + 4 * h) t

-- the eight bytes of the newer write, as one number
abbrev pub second_in : List ℕ → ℕ
second_in b = number (part b 744 8)

-- no write waits, where one did
unfoldable pub empty_stored : List ℕ → List ℕ
empty_stored b = splice (splice b 728 (bytes 8 0)) 736 (bytes 8 0)

-- the second write, where one waits, becomes the first: count is how many then wait
unfoldable pub shift_stored : List ℕ → ℕ → List ℕ
shift_stored b count = splice (splice (splice b 728 (bytes 8 count)) 736 (bytes 8 (second_in b))) 744 (bytes 8 0)

-- one write waits: count is 1, or 257 where its data are due
unfoldable pub write_stored : List ℕ → ℕ → ℕ → ℕ → Bool → ℕ → List ℕ
write_stored b count x c close t = splice (splice b 728 (bytes 8 count)) 736 (bytes 8 (write_word x c close t))

-- a write waits beside another: count is 2, or 258 where its data are due
unfoldable pub beside_stored : List ℕ → ℕ → ℕ → ℕ → Bool → ℕ → List ℕ
beside_stored b count x c close t = splice (splice b 728 (bytes 8 count)) 744 (bytes 8 (write_word x c close t))

-- the second write becomes the first, and another waits beside it
unfoldable pub behind_stored : List ℕ → ℕ → ℕ → ℕ → Bool → ℕ → List ℕ
behind_stored b count x c close t =
    splice (splice (splice b 728 (bytes 8 count)) 736 (bytes 8 (second_in b))) 744 (bytes 8 (write_word x c close t))

-- the data of the newest write have come: count is how many writes wait
unfoldable pub data_stored : List ℕ → ℕ → List ℕ
data_stored b count = splice b 728 (bytes 8 count)

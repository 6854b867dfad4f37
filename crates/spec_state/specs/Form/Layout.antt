-- The bytes of a state by their numbers, as the code stores them: what stands at each place of the channel's 752 bytes, and the
-- bytes after them. The laws in proofs/ say which number a store changes.
-- Assumes nothing.
use Rattle.std.specs.Prelude.{ℕ, ◌+◌, ◌*◌, ◌-◌, Bool, cond, ◌&&◌, List, ◌++◌, eqb}
use Rattle.num.specs.Bytes.{bytes}
use Rattle.spec_rules.specs.declared.BankTrack.{BankTrack}
use Rattle.spec_rules.specs.declared.Write.{Write}
use Rattle.spec_rules.specs.declared.Buffer.{Buffer}
use Rattle.spec_rules.specs.declared.Buffer.TheVariants.{Empty, One, Two}
use Rattle.spec_rules.specs.declared.LastInstants.{LastInstants}
use Rattle.spec_rules.specs.declared.Channel.{Channel}
use Rattle.spec_rules.specs.Channel.{track_of}
use Rattle.spec_state.specs.ChannelBytes.{bank_tag, plane}

-- six planes, then other bytes
abbrev pub body : (ℕ → ℕ) → (ℕ → ℕ) → (ℕ → ℕ) → (ℕ → ℕ) → (ℕ → ℕ) → (ℕ → ℕ) → List ℕ → List ℕ
body f0 f1 f2 f3 f4 g r =
    plane 4 f0 32 ++ (plane 4 f1 32 ++ (plane 4 f2 32 ++ (plane 4 f3 32 ++ (plane 4 f4 32 ++ (plane 2 g 32 ++ r)))))

-- the last instants, how many writes wait and whether data are due, the older and the newer waiting write, then other bytes
abbrev pub rest : ℕ → ℕ → ℕ → ℕ → ℕ → ℕ → ℕ → ℕ → ℕ → List ℕ → List ℕ
rest l w c n d p count write second q =
    bytes 4 l ++ (bytes 4 w ++ (bytes 4 c ++ (bytes 4 n ++ (bytes 4 d ++ (bytes 4 p ++ (bytes 8 count ++ (bytes 8 write ++ (bytes 8 second ++ q))))))))

-- figure k x: the instant of bank x in plane k; tag x: its state; last: of any packet, ROW, COL, PRER or REFP, RD, implied PRER
pub record Numbers : Type 0 where
  pub figure : ℕ → ℕ → ℕ
  pub tag : ℕ → ℕ
  pub last : ℕ → ℕ
  pub count : ℕ
  pub write : ℕ
  pub second : ℕ
  pub tail : List ℕ

unfoldable pub layout : Numbers → List ℕ
layout n =
    body (n.figure 0) (n.figure 1) (n.figure 2) (n.figure 3) (n.figure 4) n.tag
    (rest (n.last 0) (n.last 1) (n.last 2) (n.last 3) (n.last 4) (n.last 5) n.count n.write n.second n.tail)

-- ---- with one number changed

-- numbers with another at index x
abbrev pub with : (ℕ → ℕ) → ℕ → ℕ → ℕ → ℕ
with f x v i = cond (eqb i x) v (f i)

abbrev pub at_figure : ℕ → ℕ → ℕ → Numbers → Numbers
at_figure k x v n =
    record { figure = λ j y. cond (eqb j k && eqb y x) v (n.figure j y); tag = n.tag; last = n.last; count = n.count; write = n.write; second = n.second; tail = n.tail }

abbrev pub at_tag : ℕ → ℕ → Numbers → Numbers
at_tag x v n = record { figure = n.figure; tag = with n.tag x v; last = n.last; count = n.count; write = n.write; second = n.second; tail = n.tail }

abbrev pub at_last : ℕ → ℕ → Numbers → Numbers
at_last i v n = record { figure = n.figure; tag = n.tag; last = with n.last i v; count = n.count; write = n.write; second = n.second; tail = n.tail }

abbrev pub at_count : ℕ → Numbers → Numbers
at_count v n = record { figure = n.figure; tag = n.tag; last = n.last; count = v; write = n.write; second = n.second; tail = n.tail }

abbrev pub at_write : ℕ → Numbers → Numbers
at_write v n = record { figure = n.figure; tag = n.tag; last = n.last; count = n.count; write = v; second = n.second; tail = n.tail }

abbrev pub at_second : ℕ → Numbers → Numbers
at_second v n = record { figure = n.figure; tag = n.tag; last = n.last; count = n.count; write = n.write; second = v; tail = n.tail }

abbrev pub at_tail : List ℕ → Numbers → Numbers
at_tail q n = record { figure = n.figure; tag = n.tag; last = n.last; count = n.count; write = n.write; second = n.second; tail = q }

-- ---- the numbers of a state

-- the instant of a bank in plane k
unfoldable pub figure_of : BankTrack → ℕ → ℕ
figure_of t k =
    cond (eqb k 0) t.opened.0 (cond (eqb k 1) t.act.0 (cond (eqb k 2) t.pre.0 (cond (eqb k 3) t.rd.0 t.retire.0)))

unfoldable pub last_of_channel : LastInstants → ℕ → ℕ
last_of_channel l i =
    cond (eqb i 0) l.packet.0 (cond (eqb i 1) l.row.0 (cond (eqb i 2) l.col.0 (cond (eqb i 3) l.pre.0 (cond (eqb i 4) l.rd.0 l.implied.0))))

-- how many writes wait, and whether data are due, in eight bytes; each waiting write in eight bytes
abbrev pub count_word : ℕ → Bool → ℕ
count_word n due = n + 256 * cond due 1 0

unfoldable pub count_number : Buffer → Bool → ℕ
count_number Empty due = count_word 0 due
count_number (One x) due = count_word 1 due
count_number (Two x y) due = count_word 2 due

abbrev pub write_word : ℕ → ℕ → Bool → ℕ → ℕ
write_word bank column close stored = bank + 256 * column + 65536 * cond close 1 0 + 4294967296 * stored

abbrev pub word_of : Write → ℕ
word_of w = write_word w.bank w.column w.close (w.at.0 - 3)

unfoldable pub write_number : Buffer → ℕ
write_number Empty = 0
write_number (One x) = word_of x
write_number (Two x y) = word_of x

unfoldable pub second_number : Buffer → ℕ
second_number Empty = 0
second_number (One x) = 0
second_number (Two x y) = word_of y

unfoldable pub numbers_of : Channel → List ℕ → Numbers
numbers_of ch q =
    record {
      figure = λ k x. figure_of (track_of ch x) k - 3;
      tag = λ x. bank_tag (track_of ch x).bank;
      last = λ i. last_of_channel ch.lasts i - 3;
      count = count_number ch.buffer ch.due;
      write = write_number ch.buffer;
      second = second_number ch.buffer;
      tail = q;
    }

-- `put_row_line` meets its contract: each arm is the line of its packet.
use Rattle.listing_text.specs.Text.{codes, dash, mask_text, row_line}
use Rattle.listing_text.proofs.lines.put_row_line.Goals as goal

pub returns-in-Act : goal.returns-in-Act
unfolding row_line mask_text dash codes
returns-in-Act c = rw c.in-Act.is c.put_line.ensures

pub returns-in-Prer : goal.returns-in-Prer
unfolding row_line mask_text dash codes
returns-in-Prer c = rw c.in-Prer.is c.put_line-in-Prer.ensures

pub returns-in-Refa : goal.returns-in-Refa
unfolding row_line mask_text dash codes
returns-in-Refa c = rw c.in-Refa.is c.put_line-in-Refa.ensures

pub returns-in-Refp : goal.returns-in-Refp
unfolding row_line mask_text dash codes
returns-in-Refp c = rw c.in-Refp.is c.put_line-in-Refp.ensures

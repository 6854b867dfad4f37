-- `put_refused` meets its contract: a word with its count.
use Rattle.listing_text.specs.Text.{codes, refused_line}
use Rattle.listing_text.proofs.put_refused.Goals as goal

pub returns : goal.returns
unfolding codes refused_line
returns c = rw c.from.ensures at c.put_count.ensures

-- `put_records` meets its contract: a word with its count.
use Rattle.listing_text.specs.Text.{codes, records_line}
use Rattle.listing_text.proofs.put_records.Goals as goal

pub returns : goal.returns
unfolding codes records_line
returns c = c.put_count.ensures

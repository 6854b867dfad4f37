-- `put_name` meets its contract: the word and one byte more.
use native.Mathlib.Omega.{arith}
use mathlib.Core.Path.{refl}
use Rattle.listing_text.specs.Text.{space}
use Rattle.listing_text.proofs.TextLaws.{put-more}
use Rattle.listing_text.proofs.put_name.Goals as goal

pub returns : goal.returns
returns c =
    let a = c.args in
    put-more a.out.now a.at a.name.now space (omega arith) (refl, c.put_bytes.ensures)
